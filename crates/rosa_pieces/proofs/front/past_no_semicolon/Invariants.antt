use Rattle.std.proofs.Common.{◌≡◌, length}
use Rattle.rosa_pieces.specs.Pieces.{is_no_semicolon as no_semicolon}
use Rattle.rosa_pieces.specs.Reading.{past}
use Rattle.rosa_pieces.proofs.front.past_no_semicolon.Given as goal

abbrev pub invariant-loop-rest : goal.invariant-loop-rest
invariant-loop-rest l = past no_semicolon l.rest ≡ past no_semicolon l.chars

abbrev pub decreases-loop-rest : goal.decreases-loop-rest
decreases-loop-rest l = length l.rest
