use Rattle.std.proofs.Common.{◌≡◌, ◌≤◌, length}
use Rattle.rosa_pieces.specs.Reading.{past}
use Rattle.form_tokens.specs.Classes.{belongs}
use Rattle.form_tokens.proofs.front.past.Given as goal

abbrev pub invariant-loop-rest : goal.invariant-loop-rest
invariant-loop-rest l = (past (belongs l.class) l.rest ≡ past (belongs l.class) l.chars) × (length l.rest ≤ length l.chars)

abbrev pub decreases-loop-rest : goal.decreases-loop-rest
decreases-loop-rest l = length l.rest
