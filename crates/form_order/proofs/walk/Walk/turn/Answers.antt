use Rattle.std.proofs.Common.{slice_index, length, sym, ap, ◌∙◌, subst}
use Rattle.form_order.specs.declared.walk.Walk.{Walk}
use Rattle.form_order.specs.Rows.{row}
use Rattle.form_order.specs.Walks.{TakesTurn}
use Rattle.form_order.proofs.WalkLemmas.{takes_turn-placed, open_none}
use Rattle.form_order.proofs.walk.Walk.turn.Goals as goal

pub returns-in_ok-place-in-None : goal.returns-in_ok-place-in-None
returns-in_ok-place-in-None c =
    let from_is = c.passed_at-from.ensures ∙ ap (λ p. slice_index p c.args.number) c.as_slice.ensures in
    let none = open_none c.args.self.now.marks c.as_slice-2.result.now (row c.args.rows.now c.args.number) c.row-numbers.result.now (slice_index c.args.self.now.passed c.args.number) c.passed_at-from.result
    c.as_slice-2.ensures c.row-numbers.ensures from_is (rw c.in-None.is at c.first_open.ensures) in
    subst (λ (w : Walk). TakesTurn (row c.args.rows.now) (length c.args.rows.now) c.args.self.now w) (sym c.in_ok-place-in-None.ensures)
    (takes_turn-placed c.args.rows.now c.args.number c.args.self.now c.requires.walk none)
