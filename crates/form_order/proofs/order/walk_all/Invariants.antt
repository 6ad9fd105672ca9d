use Rattle.std.proofs.Common.{◌≡◌, ◌≢◌, ◌<◌, ℕ, [], length}
use Rattle.form_order.specs.declared.walk.Mark.TheVariants.{New}
use Rattle.form_order.specs.Rows.{row as row_at}
use Rattle.form_order.specs.Walks.{IsWalk, mark_at}
use Rattle.form_order.proofs.order.walk_all.Given as goal

abbrev pub invariant-loop-number : goal.invariant-loop-number
invariant-loop-number l = IsWalk (row_at l.rows) (length l.rows) l.walk × (l.walk.path ≡ []) × ((k : ℕ) → k < l.number → mark_at l.walk.marks k ≢ New)
