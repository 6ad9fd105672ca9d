use Rattle.std.proofs.Common.{◌≡◌, ◌<◌, ◌≤◌, ℕ, true}
use Rattle.form_order.specs.Walks.{is_placed_at}
use Rattle.form_order.proofs.walk.first_open.Given as goal

abbrev pub invariant-loop-place : goal.invariant-loop-place
invariant-loop-place l = (k : ℕ) → l.from ≤ k → k < l.place → is_placed_at l.marks l.numbers k ≡ true
