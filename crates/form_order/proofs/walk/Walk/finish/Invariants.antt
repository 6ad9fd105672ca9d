use Rattle.std.proofs.Common.{length}
use Rattle.std.specs.Prelude.{sum_by}
use Rattle.form_order.specs.Rows.{row as row_at}
use Rattle.form_order.specs.Walks.{IsWalk, Keeps, steps_left}
use Rattle.form_order.proofs.walk.Walk.finish.Given as goal

abbrev pub invariant-loop-number : goal.invariant-loop-number
invariant-loop-number l = IsWalk (row_at l.rows) (length l.rows) l.self × Keeps l.fn.self l.self

abbrev pub decreases-loop-number : goal.decreases-loop-number
decreases-loop-number l = sum_by steps_left l.self.marks
