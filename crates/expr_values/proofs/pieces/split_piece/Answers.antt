use Rattle.std.proofs.Common.{sym, ◌∙◌}
use Rattle.expr_values.proofs.PieceLemmas.{cut-some, cut-none}
use Rattle.expr_values.proofs.pieces.split_piece.Goals as goal

pub returns-in-Some-clause-parts : goal.returns-in-Some-clause-parts
returns-in-Some-clause-parts c = cut-some c.args.text.now c.in-Some.place (sym c.in-Some.is ∙ c.first_space.ensures)

pub returns-in-None-clause-parts : goal.returns-in-None-clause-parts
returns-in-None-clause-parts c = cut-none c.args.text.now (sym c.in-None.is ∙ c.first_space.ensures)
