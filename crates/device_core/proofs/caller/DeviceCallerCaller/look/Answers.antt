use Rattle.device_core.proofs.Calling.{looked}
use Rattle.device_core.proofs.caller.DeviceCallerCaller.look.Goals as goal

pub returns-clause-looks : goal.returns-clause-looks
returns-clause-looks g c =
    let self = c.args.self.now in
    looked g.D.Disk.faults self.before self.closings self.device self.refusals c.args.query.now c.ask.result c.ask.ensures.told c.ask.ensures.refused c.ask.ensures.legal
