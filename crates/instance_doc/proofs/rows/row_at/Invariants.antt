use Rattle.std.proofs.Common.{◌≡◌, length}
use Rattle.instance_doc.specs.Rows.{row_at}
use Rattle.instance_doc.specs.Views.{rows_in}
use Rattle.instance_doc.proofs.rows.row_at.Given as goal

abbrev pub invariant-loop-row : goal.invariant-loop-row
invariant-loop-row l = row_at l.path (rows_in l.rest) ≡ row_at l.path (rows_in l.rows)

abbrev pub decreases-loop-row : goal.decreases-loop-row
decreases-loop-row l = length l.rest.fields.now
