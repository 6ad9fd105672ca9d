use Rattle.std.proofs.Common.{ℕ, ◌<◌}
use Rattle.form_order.specs.Cycles.{Leads}
use Rattle.form_order.specs.Rows.{row}
use Rattle.form_order.proofs.reach.first_cycle.Given as goal

abbrev pub invariant-loop-number : goal.invariant-loop-number
invariant-loop-number l = (k : ℕ) → k < l.number → ¬ (Leads (row l.rows) k k)
