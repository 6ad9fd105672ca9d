use Rattle.std.proofs.Common.{◌≡◌, length}
use Rattle.expr_values.specs.Numbers.{trimmed_front}
use Rattle.expr_values.proofs.digits.trimmed_front.Given as goal

abbrev pub invariant-loop-rest : goal.invariant-loop-rest
invariant-loop-rest l = trimmed_front l.rest ≡ trimmed_front l.fn.text

abbrev pub decreases-loop-rest : goal.decreases-loop-rest
decreases-loop-rest l = length l.rest
