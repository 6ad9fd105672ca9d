use Rattle.std.proofs.Common.{◌≢◌, ◌<◌, ℕ, length, sym, subst, List, arith}
use Rattle.form_order.specs.declared.walk.Mark.TheVariants.{New}
use Rattle.form_order.specs.Rows.{row}
use Rattle.form_order.specs.Walks.{mark_at, IsOrder}
use Rattle.form_order.proofs.WalkLemmas.{is_order-finished}
use Rattle.form_order.proofs.order.walk_all.Goals as goal

pub returns : goal.returns
returns c =
    let rows = c.args.rows.now in
    let so_far = c.loop-number.invariant in
    let all : (k : ℕ) → k < length rows → mark_at c.loop-number.walk.marks k ≢ New = λ k within. so_far.2 k (omega arith) in
    subst (λ (o : List ℕ). IsOrder (row rows) (length rows) o) (sym c.into_order.ensures)
    (is_order-finished rows c.loop-number.walk so_far.0 so_far.1 all)
