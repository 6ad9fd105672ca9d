use Rattle.std.proofs.Common.{◌<◌, ap, ◌∙◌, find, subst}
use Rattle.std.specs.Str.{bytes_eq}
use Rattle.field_text.specs.Tables.{row_count}
use Rattle.expr_values.specs.Seen.{columns_seen, surroundings_seen}
use Rattle.expr_values.specs.Evaluation.{value_in}
use Rattle.expr_values.proofs.ValueLemmas.{item_is, value_in-Call}
use Rattle.expr_values.proofs.LookUpLemmas.{found_outer, passed_outer, rows_inner, rows_outer}
use Rattle.expr_values.proofs.evaluation.+evaluation.Goals as goal

pub evaluate-returns-in_ok-look_up-in-Item : goal.evaluate-returns-in_ok-look_up-in-Item
evaluate-returns-in_ok-look_up-in-Item g t c =
    let tables = g.T.Tables.tables c.args.scope.now.tables.now in
    let s = surroundings_seen tables c.args.scope.now in
    item_is s c.in-Item.table c.in-Item.column c.in-Item.filter c.get.result.now (columns_seen tables c.args.row.now) c.args.expr.now c.in_ok-look_up-in-Item.field-0
    c.in-Item.is c.get.ensures c.in_ok-look_up-in-Item.ensures

pub evaluate-returns-in_ok-values-in-Call : goal.evaluate-returns-in_ok-values-in-Call
evaluate-returns-in_ok-values-in-Call g t c =
    rw (c.in-Call.is, value_in-Call, ← c.as_slice.ensures, ← c.in_ok-values-in-Call.ensures, ← c.as_slice-in-Call.ensures.value) c.call.ensures

pub look_up-returns-in-Some : goal.look_up-returns-in-Some
look_up-returns-in-Some g t c =
    rw (rows_inner c.args.scope.now.form.now (g.T.Tables.tables c.args.scope.now.tables.now) c.args.table.now c.in-Some.inner.now (c.in-Some.ensures ∙ ap (find (λ table. bytes_eq table.name c.args.table.now)) c.as_slice.ensures), ← c.as_slice-in-Some.ensures)
    c.look_up_inner.ensures

pub look_up_named-returns-in-Some : goal.look_up_named-returns-in-Some
look_up_named-returns-in-Some g t c =
    rw (rows_outer c.args.scope.now.form.now.outer (g.T.Tables.tables c.args.scope.now.tables.now) c.args.table.now c.in-Some.outer.now (c.in-Some.ensures ∙ ap (find (λ table. bytes_eq table.name c.args.table.now)) c.as_slice.ensures))
    c.look_up_outer.ensures

pub look_up_outer-returns-then-branch : goal.look_up_outer-returns-then-branch
look_up_outer-returns-then-branch g t c =
    let tables = g.T.Tables.tables c.args.scope.now.tables.now in
    let f = value_in (surroundings_seen tables c.args.scope.now) c.args.filter.now in
    let within : c.loop-number.number < row_count tables c.args.list.now = subst (λ n. c.loop-number.number < n) c.rows-number-end.ensures c.loop-number-test.true in
    rw (← found_outer f c.args.column.now tables c.args.list.now c.loop-number.number c.in_ok-holds.field-0 _ within c.in_ok-holds.ensures c.if-branch.true c.loop-number.invariant) c.cell.ensures

pub look_up_outer-loop-number-preserved : goal.look_up_outer-loop-number-preserved
look_up_outer-loop-number-preserved g t c =
    let tables = g.T.Tables.tables c.args.scope.now.tables.now in
    let f = value_in (surroundings_seen tables c.args.scope.now) c.args.filter.now in
    let within : c.loop-number.number < row_count tables c.args.list.now = subst (λ n. c.loop-number.number < n) c.rows-number-end.ensures c.loop-number-test.true in
    passed_outer f c.args.column.now tables c.args.list.now c.loop-number.number c.in_ok-holds.field-0 _ within c.in_ok-holds.ensures c.if-branch.false c.loop-number.invariant
