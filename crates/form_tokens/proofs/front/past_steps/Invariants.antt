use Rattle.std.proofs.Common.{◌≡◌, ◌≤◌, length}
use Rattle.form_tokens.specs.Tokens.{past_steps}
use Rattle.form_tokens.proofs.front.past_steps.Given as goal

abbrev pub invariant-loop-rest : goal.invariant-loop-rest
invariant-loop-rest l = (past_steps l.rest ≡ past_steps l.chars) × (length l.rest ≤ length l.chars)

abbrev pub decreases-loop-rest : goal.decreases-loop-rest
decreases-loop-rest l = length l.rest
