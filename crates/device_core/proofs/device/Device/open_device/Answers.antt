use Rattle.std.proofs.Common.{◌≤◌, ◌+◌, ◌∷◌, [], ◌++◌, length, sym, ◌∙◌, ap, subst}
use Rattle.std.specs.Prelude.{Ok, Err}
use Rattle.std.proofs.lemmas.Result.{err_from_is_err_and}
use Rattle.entry_form.specs.declared.entry.Entry.TheVariants.{Opened}
use Rattle.device_journal.specs.declared.fault.OpenFault.TheVariants.{NoMemory}
use Rattle.device_rules.specs.Prepared.{entry_of}
use Rattle.device_rules.specs.Trail.{entries_of}
use Rattle.device_core.specs.Crash.{LeavesUnopened, unappended}
use Rattle.device_core.specs.Faults.{ContentReadsAs, HasRoom, IsOpenFault, open_fault_of}
use Rattle.device_core.proofs.Appending.{append_fault, found_is, is_opened, opened_leaves}
use Rattle.device_core.proofs.Unopened.{from_load, left_unopened}
use Rattle.device_core.proofs.device.Device.open_device.Goals as goal

pub returns-in_err-device-clause-fault : goal.returns-in_err-device-clause-fault
returns-in_err-device-clause-fault g c =
    let p = err_from_is_err_and c.from_residual.result c.from_residual.ensures.1 in
    rw (p.1, p.2) (c.in_err-device.ensures.fault (Opened c.args.opening))

pub returns-in_err-device-clause-any_moment_err : goal.returns-in_err-device-clause-any_moment_err
returns-in_err-device-clause-any_moment_err g c =
    let d = g.D.Disk in
    let p = err_from_is_err_and c.from_residual.result c.from_residual.ensures.1 in
    rw (p.1, p.2) (unappended c.in_err-device.ensures.any_moment_err)

pub returns-in_default-clause-any_moment_err : goal.returns-in_default-clause-any_moment_err
returns-in_default-clause-any_moment_err g c =
    let d = g.D.Disk in
    subst (λ n. LeavesUnopened d.clock d.may d.since (d.content c.args.disk) (Opened c.args.opening) NoMemory c.args.disk n) (sym c.into_disk.ensures)
    (from_load d.clock d.may d.since d.content c.args.disk c.in_ok-device.device (Opened c.args.opening) NoMemory c.in_ok-device.ensures.moment c.in_ok-device.ensures.as_read)

pub returns-in-Ok-clause-opened : goal.returns-in-Ok-clause-opened
returns-in-Ok-clause-opened g c =
    is_opened c.in_ok-device.device c.append.new.self (entry_of c.in-Some.prepared) (Opened c.args.opening) c.in-Ok.field-0.position c.in-Ok.field-0.answer
    c.in_ok-device.ensures.loaded c.in-Ok.ensures.appended c.in-Some.ensures.same

pub returns-in-Ok-clause-read : goal.returns-in-Ok-clause-read
returns-in-Ok-clause-read g c =
    let is = found_is c.in_ok-device.device c.append.new.self (entry_of c.in-Some.prepared) (Opened c.args.opening) c.in-Ok.field-0.position c.in-Ok.field-0.answer
    c.in_ok-device.ensures.loaded c.in-Ok.ensures.appended c.in-Some.ensures.same in
    subst (λ l. ContentReadsAs g.D.Disk.content c.args.disk (Ok l)) (sym is) c.in_ok-device.ensures.read

pub returns-in-Ok-clause-any_moment : goal.returns-in-Ok-clause-any_moment
returns-in-Ok-clause-any_moment g c =
    let d = g.D.Disk in
    opened_leaves d.since d.clock c.in_ok-device.device c.append.new.self (entry_of c.in-Some.prepared) c.args.disk c.in-Ok.field-0.position c.in-Ok.field-0.answer
    c.in_ok-device.ensures.loaded c.in-Ok.ensures.appended c.append.ensures.opened c.in_ok-device.ensures.any_moment c.append.ensures.any_moment

pub returns-in-Ok-clause-room : goal.returns-in-Ok-clause-room
returns-in-Ok-clause-room g c =
    let device = c.in_ok-device.device in
    let is = found_is device c.append.new.self (entry_of c.in-Some.prepared) (Opened c.args.opening) c.in-Ok.field-0.position c.in-Ok.field-0.answer
    c.in_ok-device.ensures.loaded c.in-Ok.ensures.appended c.in-Some.ensures.same in
    let room = subst (λ e. HasRoom (entries_of device.entries) e) c.in-Some.ensures.same c.in-Ok.ensures.room in
    subst (λ l. HasRoom l (Opened c.args.opening)) (sym is) room

pub returns-clause-any_moment_err : goal.returns-clause-any_moment_err
returns-clause-any_moment_err g c =
    let d = g.D.Disk in
    let device = c.in_ok-device.device in
    let new = c.append.new.self in
    let content = d.content c.args.disk in
    let left = left_unopened d.clock d.may d.since d.content d.faults c.args.disk device new (entry_of c.in-Some.prepared) c.in_ok-device.ensures.moment c.in_ok-device.ensures.as_read
    c.in-Err.fault c.in-Err.ensures.fault (λ is. (c.append.ensures.stopped (c.in-Err.is ∙ ap (λ f. Err f) is)).1) c.in_ok-device.ensures.read c.append.ensures.any_moment in
    subst (λ n. LeavesUnopened d.clock d.may d.since content (Opened c.args.opening) c.open_fault.result c.args.disk n) (sym c.into_disk-in-Err.ensures)
    (subst (λ f. LeavesUnopened d.clock d.may d.since content (Opened c.args.opening) f c.args.disk new.disk) (sym c.open_fault.ensures)
    (subst (λ e. LeavesUnopened d.clock d.may d.since content e (open_fault_of c.in-Err.fault) c.args.disk new.disk) c.in-Some.ensures.same left))
