use Rattle.std.proofs.Common.{◌≡◌, ◌<◌, ◌≤◌, ◌^◌, ◌-◌, length}
use Rattle.form_tokens.specs.Tokens.{digits_at}
use Rattle.form_tokens.proofs.cut.value_at.Given as goal

abbrev pub invariant-loop-c : goal.invariant-loop-c
invariant-loop-c l = (l.value < 10 ^ (15 - l.left)) × (l.left ≤ 15) × (digits_at l.left l.value l.rest ≡ digits_at 15 0 l.chars)

abbrev pub decreases-loop-c : goal.decreases-loop-c
decreases-loop-c l = length l.rest
