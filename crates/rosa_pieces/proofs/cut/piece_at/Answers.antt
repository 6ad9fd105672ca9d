use Rattle.rosa_pieces.proofs.PieceLaws.{found_piece, absent_piece}
use Rattle.rosa_pieces.proofs.cut.piece_at.Goals as goal

pub returns-clause-found : goal.returns-clause-found
returns-clause-found c = found_piece (λ b. b.now) c.args.chars.now c.any_piece_at.result c.any_piece_at.ensures

pub returns-clause-absent : goal.returns-clause-absent
returns-clause-absent c = absent_piece (λ b. b.now) c.args.chars.now c.any_piece_at.result c.any_piece_at.ensures
