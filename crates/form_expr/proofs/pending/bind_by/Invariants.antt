use Rattle.std.proofs.Common.{◌≡◌, length, reverse}
use Rattle.form_expr.specs.Machine.{bound_by}
use Rattle.form_expr.proofs.pending.bind_by.Given as goal

abbrev pub invariant-loop-pending : goal.invariant-loop-pending
invariant-loop-pending l = bound_by l.least (reverse l.outer) l.whole ≡ bound_by l.least (reverse l.fn.stack) l.fn.operand

abbrev pub decreases-loop-pending : goal.decreases-loop-pending
decreases-loop-pending l = length l.outer
