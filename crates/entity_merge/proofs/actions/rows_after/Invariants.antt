use Rattle.std.proofs.Common.{◌≡◌, map, take}
use Rattle.entity_merge.specs.Actions.{row_after}
use Rattle.entity_merge.proofs.actions.rows_after.Given as goal

abbrev pub invariant-loop-row : goal.invariant-loop-row
invariant-loop-row l = l.after.items ≡ map (row_after l.action) (take l.row-index l.rows)
