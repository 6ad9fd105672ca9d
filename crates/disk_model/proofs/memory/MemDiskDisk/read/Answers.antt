use Rattle.disk_model.proofs.Kept.{adds_none_read, adds_nothing}
use Rattle.disk_model.proofs.memory.MemDiskDisk.read.Goals as goal

pub returns-clause-images : goal.returns-clause-images
returns-clause-images c =
    let p = adds_none_read c.args.self.now.first.items c.args.self.now.calls.items c.keep.new.calls.items c.in_ok-keep.ensures.ok in
    record { later = p.later; now = p.now; past = p.past; keeps = p.keeps }

pub returns-in_err-keep-clause-images : goal.returns-in_err-keep-clause-images
returns-in_err-keep-clause-images c =
    let p = adds_nothing c.args.self.now.first.items c.args.self.now.calls.items c.keep.new.calls.items c.in_err-keep.ensures.err in
    record { later = p.later; now = p.now; past = p.past; keeps = p.keeps }
