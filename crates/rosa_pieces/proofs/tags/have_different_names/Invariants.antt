use Rattle.std.proofs.Common.{◌≡◌, length}
use Rattle.rosa_pieces.specs.Pieces.{have_different_names}
use Rattle.rosa_pieces.proofs.tags.have_different_names.Given as goal

abbrev pub invariant-loop-rest : goal.invariant-loop-rest
invariant-loop-rest l = have_different_names l.rest ≡ have_different_names l.attributes

abbrev pub decreases-loop-rest : goal.decreases-loop-rest
decreases-loop-rest l = length l.rest
