use Rattle.std.proofs.Common.{◌≡◌, length, reverse}
use Rattle.expr_values.specs.Numbers.{trimmed_front}
use Rattle.expr_values.proofs.digits.trimmed_back.Given as goal

abbrev pub invariant-loop-last : goal.invariant-loop-last
invariant-loop-last l = reverse (trimmed_front (reverse l.rest)) ≡ reverse (trimmed_front (reverse l.fn.text))

abbrev pub decreases-loop-last : goal.decreases-loop-last
decreases-loop-last l = length l.rest
