use Rattle.std.proofs.Common.{refl, ap, sym, ◌∙◌}
use Rattle.std.proofs.lemmas.Result.{err_from_is_err_and}
use Rattle.http_exchange.proofs.Becoming.{sending_nothing, sending_more, sending_failed, range_to_end, not_empty}
use Rattle.http_exchange.proofs.carry.send_all.Goals as goal

pub loop-rest-init : goal.loop-rest-init
loop-rest-init g c = record {
  sending = sending_nothing _ _;
  open_yet = c.requires.open;
  fresh = c.requires.fresh;
  peer = refl;
}

pub loop-rest-preserved : goal.loop-rest-preserved
loop-rest-preserved g c =
    let told = c.in_ok-count.ensures in
    let before = c.loop-rest.invariant in record {
      sending = sending_more _ _ _ _ _ _ c.in_ok-count.count before.sending (record { faults = told.cause.kept; ends = told.ends })
          (range_to_end c.in_ok-count.count c.loop-rest.rest.now) told.carried;
      open_yet = told.state.0;
      fresh = told.state.1;
      peer = told.peer ∙ before.peer;
    }

pub returns-in_err-count-clause-sends : goal.returns-in_err-count-clause-sends
returns-in_err-count-clause-sends g c =
    let p = err_from_is_err_and c.from_residual.result c.from_residual.ensures.1 in
    let told = c.in_err-count.ensures in
    rw (p.1) (sending_failed _ _ _ _ _ c.loop-rest.invariant.sending (not_empty _ c.loop-rest-test.ensures)
    (record { faults = told.cause.failed; ends = told.ends }) told.carried)
