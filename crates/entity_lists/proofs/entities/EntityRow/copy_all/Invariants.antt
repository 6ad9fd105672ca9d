use Rattle.std.proofs.Common.{◌≡◌, take}
use Rattle.entity_lists.proofs.entities.EntityRow.copy_all.Given as goal

abbrev pub invariant-loop-row : goal.invariant-loop-row
invariant-loop-row l = l.copy.items ≡ take l.row-index l.rows
