use Rattle.std.proofs.Common.{◌≡◌, ◌+◌, ◌≤◌, drop}
use Rattle.form_expr.specs.Machine.{depth}
use Rattle.form_expr.proofs.pending.depth.Given as goal

abbrev pub invariant-loop-pending : goal.invariant-loop-pending
invariant-loop-pending l = (l.count + depth (drop l.pending-index l.stack) ≡ depth l.stack) × (l.count ≤ l.pending-index)
