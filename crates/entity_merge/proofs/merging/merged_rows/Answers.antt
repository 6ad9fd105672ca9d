use Rattle.std.proofs.Common.{arith}
use Rattle.entity_merge.specs.Merging.{contents}
use Rattle.entity_merge.proofs.MergeLemmas.{few_drawing, whole_list}
use Rattle.entity_merge.proofs.merging.merged_rows.Goals as goal

pub kept_rows-requires-clause-rooms : goal.kept_rows-requires-clause-rooms
kept_rows-requires-clause-rooms c =
    omega (arith, few_drawing c.args.locals.now c.args.rows.now c.args.drawing.now c.requires.drawing)

pub new_rows-requires : goal.new_rows-requires
new_rows-requires c =
    omega (arith, few_drawing c.args.locals.now c.args.rows.now c.args.drawing.now c.requires.drawing)

pub returns : goal.returns
returns c =
    whole_list c.args.locals.now c.args.rows.now (contents c.args.drawing.now) c.args.draws _ _ _ c.requires.drawing
    c.in_ok-merged.ensures c.in_ok-new.ensures c.in_ok-append.ensures.items
