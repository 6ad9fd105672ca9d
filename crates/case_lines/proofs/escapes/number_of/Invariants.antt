use Rattle.std.proofs.Common.{◌≡◌, ◌+◌, ◌*◌, length}
use Rattle.std.specs.Prelude.{fold, min}
use Rattle.case_lines.specs.Escapes.{most, digit_value, number_of}
use Rattle.case_lines.proofs.escapes.number_of.Given as goal

abbrev pub invariant-loop-digit : goal.invariant-loop-digit
invariant-loop-digit l =
    fold (λ value digit. min (min (value * 10) most + digit_value digit) most) l.value l.rest ≡ number_of l.fn.digits

abbrev pub decreases-loop-digit : goal.decreases-loop-digit
decreases-loop-digit l = length l.rest
