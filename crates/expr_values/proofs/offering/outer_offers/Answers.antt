use Rattle.std.proofs.Common.{◌<◌, subst}
use Rattle.field_text.specs.Tables.{row_count}
use Rattle.expr_values.specs.Seen.{surroundings_seen}
use Rattle.expr_values.specs.Evaluation.{offer}
use Rattle.expr_values.proofs.LookUpLemmas.{offers_more}
use Rattle.expr_values.proofs.offering.outer_offers.Goals as goal

pub loop-number-preserved : goal.loop-number-preserved
loop-number-preserved g c =
    let tables = g.T.Tables.tables c.args.scope.now.tables.now in
    let s = surroundings_seen tables c.args.scope.now in
    let within : c.loop-number.number < row_count tables c.args.list.now = subst (λ n. c.loop-number.number < n) c.rows-number-end.ensures c.loop-number-test.true in
    offers_more (offer s c.args.filter.now c.args.column.now) tables c.args.list.now c.loop-number.number c.loop-number.values.items _ within c.loop-number.invariant c.in_ok-push_offer.ensures
