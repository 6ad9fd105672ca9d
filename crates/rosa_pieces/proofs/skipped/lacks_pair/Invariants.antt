use Rattle.std.proofs.Common.{◌≡◌, length}
use Rattle.rosa_pieces.specs.Pieces.{lacks_pair}
use Rattle.rosa_pieces.proofs.skipped.lacks_pair.Given as goal

abbrev pub invariant-loop-rest : goal.invariant-loop-rest
invariant-loop-rest l = lacks_pair l.a l.b l.rest ≡ lacks_pair l.a l.b l.chars

abbrev pub decreases-loop-rest : goal.decreases-loop-rest
decreases-loop-rest l = length l.rest
