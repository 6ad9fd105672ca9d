use Rattle.std.proofs.Common.{◌≡◌, ◌+◌, ◌++◌, length}
use Rattle.form_order.specs.Rows.{rows_from}
use Rattle.form_order.proofs.rows.rows_of.Given as goal

abbrev pub invariant-loop-field : goal.invariant-loop-field
invariant-loop-field l = (l.rows ++ rows_from l.fields l.number l.rest ≡ rows_from l.fields 0 l.fields) × (l.number + length l.rest ≡ length l.fields)

abbrev pub decreases-loop-field : goal.decreases-loop-field
decreases-loop-field l = length l.rest
