use Rattle.std.proofs.Common.{◌≡◌, take}
use Rattle.entity_merge.specs.Merging.{branch_by, contents, new_rows}
use Rattle.entity_merge.proofs.merging.new_rows.Given as goal

abbrev pub invariant-loop-row : goal.invariant-loop-row
invariant-loop-row l =
    l.new.items
    ≡ new_rows l.locals (contents (take l.row-index l.drawing)) (branch_by (contents l.drawing) l.draws)
