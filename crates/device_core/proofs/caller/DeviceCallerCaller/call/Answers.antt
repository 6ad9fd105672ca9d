use Rattle.std.proofs.Common.{◌≤◌, refl, sym, subst}
use Rattle.device_rules.specs.Caller.{Calls}
use Rattle.device_core.specs.Caller.{seen_of}
use Rattle.device_core.proofs.Calling.{Keeps, Submitted, called, led}
use Rattle.device_core.proofs.caller.DeviceCallerCaller.call.Goals as goal

pub returns-clause-calls : goal.returns-clause-calls
returns-clause-calls g c =
    let d = g.D.Disk in
    let e = c.submit-answer.ensures in
    let self = c.args.self.now in
    let new = c.submit-answer.new.self in
    let answer = c.submit-answer.result in
    let count = c.refusals_after-self.ensures.count in
    let s : Submitted d.content d.since d.clock d.faults c.args.command self.device new answer = record {
      appended = e.appended;
      kept = e.kept;
      later = e.later;
      fault = e.fault;
      failed = e.failed;
      opened = e.opened;
      stopped = e.stopped;
      images = e.any_moment;
    } in
    let keeps : Keeps d.faults self.before self.device = record { later = self.later; failed = self.failed; none_left = self.none_left } in
    let more = subst (λ n. self.refusals ≤ n) count c.refusals_after-self.ensures.later in
    subst (λ n. Calls (seen_of d.faults self.device self.before self.refusals self.closings) (seen_of d.faults new self.before n self.closings) c.args.command answer) (sym count)
    (called d.content d.since d.clock d.faults self.before self.refusals self.closings c.args.command self.device new answer s keeps more)

pub returns-clause-leads : goal.returns-clause-leads
returns-clause-leads g c =
    let d = g.D.Disk in
    let e = c.submit-answer.ensures in
    let self = c.args.self.now in
    let new = c.submit-answer.new.self in
    let answer = c.submit-answer.result in
    let s : Submitted d.content d.since d.clock d.faults c.args.command self.device new answer = record {
      appended = e.appended;
      kept = e.kept;
      later = e.later;
      fault = e.fault;
      failed = e.failed;
      opened = e.opened;
      stopped = e.stopped;
      images = e.any_moment;
    } in
    let keeps : Keeps d.faults self.before self.device = record { later = self.later; failed = self.failed; none_left = self.none_left } in
    record { same = refl; leads = led d.content d.since d.clock d.faults self.before self.refusals self.closings c.args.command self.device new answer s keeps }
