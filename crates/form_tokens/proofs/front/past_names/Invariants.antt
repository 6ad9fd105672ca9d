use Rattle.std.proofs.Common.{◌≡◌, ◌≤◌, length}
use Rattle.form_tokens.specs.Tokens.{past_names}
use Rattle.form_tokens.proofs.front.past_names.Given as goal

abbrev pub invariant-loop-rest : goal.invariant-loop-rest
invariant-loop-rest l = (past_names l.rest ≡ past_names l.chars) × (length l.rest ≤ length l.chars)

abbrev pub decreases-loop-rest : goal.decreases-loop-rest
decreases-loop-rest l = length l.rest
