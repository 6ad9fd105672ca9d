use Rattle.std.proofs.Common.{◌<◌, subst}
use Rattle.field_text.specs.Tables.{row_count}
use Rattle.expr_values.specs.Seen.{surroundings_seen}
use Rattle.expr_values.specs.Evaluation.{offer}
use Rattle.expr_values.proofs.LookUpLemmas.{offered-first_outer, offered-others_outer}
use Rattle.expr_values.proofs.offering.outer_offers_choice.Goals as goal

pub returns-then-branch : goal.returns-then-branch
returns-then-branch g c =
    let tables = g.T.Tables.tables c.args.scope.now.tables.now in
    let f = offer (surroundings_seen tables c.args.scope.now) c.args.filter.now c.args.column.now in
    let within : c.loop-number.number < row_count tables c.args.list.now = subst (λ n. c.loop-number.number < n) c.rows-number-end.ensures c.loop-number-test.true in
    offered-first_outer f c.args.choice.now tables c.args.list.now c.loop-number.number c.in_ok-row_offers.field-0 _ within c.in_ok-row_offers.ensures
    c.if-branch.true c.loop-number.invariant

pub loop-number-preserved : goal.loop-number-preserved
loop-number-preserved g c =
    let tables = g.T.Tables.tables c.args.scope.now.tables.now in
    let f = offer (surroundings_seen tables c.args.scope.now) c.args.filter.now c.args.column.now in
    let within : c.loop-number.number < row_count tables c.args.list.now = subst (λ n. c.loop-number.number < n) c.rows-number-end.ensures c.loop-number-test.true in
    offered-others_outer f c.args.choice.now tables c.args.list.now c.loop-number.number c.in_ok-row_offers.field-0 _ within c.in_ok-row_offers.ensures
    c.if-branch.false c.loop-number.invariant
