use Rattle.std.proofs.Common.{◌≡◌, take}
use Rattle.entity_merge.specs.Merging.{branch_by, contents, kept_rows}
use Rattle.entity_merge.proofs.merging.kept_rows.Given as goal

abbrev pub invariant-loop-local : goal.invariant-loop-local
invariant-loop-local l =
    l.kept.items ≡ kept_rows (take l.local-index l.locals) l.rows (branch_by (contents l.drawing) l.draws)
