use Rattle.rosa_pieces.proofs.PieceLaws.{one_piece}
use Rattle.rosa_pieces.proofs.cut.one_piece.Goals as goal

pub returns : goal.returns
returns c = one_piece
