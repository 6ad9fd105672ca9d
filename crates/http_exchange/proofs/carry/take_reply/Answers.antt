use Rattle.std.proofs.Common.{Ok, drop, ap, ◌∙◌, subst, arith}
use Rattle.std.proofs.lemmas.Result.{err_from_is_err_and}
use Rattle.http_exchange.specs.Exchange.{NeedsMore}
use Rattle.http_exchange.proofs.Becoming.{taking_more, taking_failed, taking_ended, front_more}
use Rattle.http_exchange.proofs.carry.take_reply.Goals as goal

pub returns-in_err-count-clause-takes : goal.returns-in_err-count-clause-takes
returns-in_err-count-clause-takes g c =
    let p = err_from_is_err_and c.from_residual.result c.from_residual.ensures.1 in
    let told = c.in_err-count.ensures in
    rw (p.1) (taking_failed _ _ _ _ c.takes.invariant.taking (subst NeedsMore c.front.ensures c.takes-test.ensures)
    (record { faults = told.cause.failed; ends = told.ends.kept (λ e. cc) }) told.carried)

pub returns-then-count-eq0-clause-takes : goal.returns-then-count-eq0-clause-takes
returns-then-count-eq0-clause-takes g c =
    let told = c.in_ok-count.ensures in
    taking_ended _ _ (drop c.takes.len c.take_behind.new.room) _ _ _ c.in_ok-count.count told.front c.takes.invariant.taking
    (subst NeedsMore c.front.ensures c.takes-test.ensures) c.if-count-eq0.true
    (record { faults = told.cause.kept; ends = told.ends.counted (ap Ok c.if-count-eq0.true) }) told.carried

pub takes-preserved : goal.takes-preserved
takes-preserved g c =
    let told = c.in_ok-count.ensures in record {
      within = omega (arith, told.within, c.take_behind.auto.room, c.takes.invariant.size);
      size = omega (arith, c.take_behind.auto.room, c.takes.invariant.size);
      taking = taking_more _ (drop c.takes.len c.take_behind.new.room) _ _ _ _ c.in_ok-count.count c.takes.invariant.taking
          (record { faults = told.cause.kept; ends = told.ends.kept (λ e. c.if-count-eq0.false (cc)) }) c.if-count-eq0.false
          (front_more c.takes.room c.take_behind.new.room c.takes.len c.in_ok-count.count told.front) told.carried;
      open_yet = told.open;
      peer = told.peer ∙ c.takes.invariant.peer;
    }
