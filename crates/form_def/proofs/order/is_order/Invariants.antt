use Rattle.std.proofs.Common.{◌≡◌, ℕ, List, [], length}
use Rattle.form_def.specs.Order.{are_ordered, dependencies_at, is_among, is_marked}
use Rattle.form_def.proofs.order.is_order.Given as goal

abbrev pub invariant-loop-number : goal.invariant-loop-number
invariant-loop-number l = (before : List ℕ) × ((j : ℕ) → is_marked l.placed.items j ≡ is_among before j)
    × (are_ordered (length l.fields) (dependencies_at l.fields) before l.rest ≡ are_ordered (length l.fields) (dependencies_at l.fields) [] l.fn.order) × (length l.placed.items ≡ length l.fields)

abbrev pub decreases-loop-number : goal.decreases-loop-number
decreases-loop-number l = length l.rest
