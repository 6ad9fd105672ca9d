use Rattle.device_core.proofs.Calling.{dues}
use Rattle.device_core.proofs.caller.DeviceCallerCaller.due.Goals as goal

pub returns-clause-due : goal.returns-clause-due
returns-clause-due g c =
    let self = c.args.self.now in
    dues g.D.Disk.faults self.before self.closings self.device self.refusals c.due.result c.due.ensures.due
    c.due.ensures.legal
