use Rattle.std.proofs.Common.{◌≡◌, ◌++◌, take}
use Rattle.form_check.specs.Accepted.{value_words}
use Rattle.form_check.proofs.accepted.push_values.Given as goal

abbrev pub invariant-loop-value : goal.invariant-loop-value
invariant-loop-value l = l.out.items ≡ l.fn.out.items ++ value_words (take l.value-index l.values)
