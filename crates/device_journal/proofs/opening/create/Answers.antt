use Rattle.device_journal.specs.Moments.{IsAsRead}
use Rattle.device_journal.proofs.Calls.{after_none}
use Rattle.device_journal.proofs.Openings.{wrote_start}
use Rattle.device_journal.proofs.opening.create.Goals as goal

pub returns-in_err-write_at-clause-any_moment : goal.returns-in_err-write_at-clause-any_moment
returns-in_err-write_at-clause-any_moment g c =
    let d = g.D.Disk in
    wrote_start d.clock d.may d.since d.content c.args.disk.now c.write_at.new.self c.requires.only (g.met.D.Disk.only_now c.args.disk.now) c.requires.short c.write_at.ensures.images

pub returns-in_err-sync-clause-any_moment : goal.returns-in_err-sync-clause-any_moment
returns-in_err-sync-clause-any_moment g c =
    let d = g.D.Disk in
    let wrote = wrote_start d.clock d.may d.since d.content c.args.disk.now c.write_at.new.self c.requires.only (g.met.D.Disk.only_now c.args.disk.now) c.requires.short c.write_at.ensures.images in
    after_none d.clock d.may d.since c.args.disk.now c.write_at.new.self c.sync.new.self (IsAsRead (d.content c.args.disk.now)) wrote c.sync.ensures.images

pub returns-clause-any_moment : goal.returns-clause-any_moment
returns-clause-any_moment g c =
    let d = g.D.Disk in
    let wrote = wrote_start d.clock d.may d.since d.content c.args.disk.now c.write_at.new.self c.requires.only (g.met.D.Disk.only_now c.args.disk.now) c.requires.short c.write_at.ensures.images in
    after_none d.clock d.may d.since c.args.disk.now c.write_at.new.self c.sync.new.self (IsAsRead (d.content c.args.disk.now)) wrote c.sync.ensures.images
