use Rattle.std.proofs.Common.{None, refl, subst}
use Rattle.device_core.specs.Crash.{LeavesUnopened}
use Rattle.device_core.specs.Faults.{IsOpenFault}
use Rattle.device_core.specs.View.{IsOpened}
use Rattle.collect_top.proofs.Runs.{has_run_at_once, has_run_unopened, has_run_answers, has_run_shows}
use Rattle.collect_top.proofs.Transmitting.{transmits_none, transmits_opened, transmitted_none}
use Rattle.collect_top.proofs.run.run.Goals as goal

pub returns-in-Err-clause-ran : goal.returns-in-Err-clause-ran
returns-in-Err-clause-ran g c = has_run_at_once _ _ _ _ _ _ _ _ _ c.unopened.ensures

pub returns-in-Err-open_device-clause-ran : goal.returns-in-Err-open_device-clause-ran
returns-in-Err-open_device-clause-ran g c =
    let d = g.D.Disk in
    let e = c.in-Err-open_device in
    has_run_unopened _ _ _ _ c.args.disk e.disk _ _ _ _ e.fault c.unopened-in-Err-open_device.ensures
    (subst (λ o. IsOpenFault d.content d.faults o c.args.disk e.disk e.fault) c.in-Ok.ensures.opening e.ensures.fault)
    (subst (λ o. LeavesUnopened d.clock d.may d.since (d.content c.args.disk) o e.fault c.args.disk e.disk) c.in-Ok.ensures.opening e.ensures.any_moment_err)

pub returns-in-Run-clause-ran : goal.returns-in-Run-clause-ran
returns-in-Run-clause-ran g c =
    let e = c.in-Ok-open_device.ensures in
    rw (c.as_ran.ensures, c.in-Run.is) (has_run_answers _ _ _ _ _ c.in-Ok-open_device.device _ _ _
    (subst (λ o. IsOpened o c.in-Ok-open_device.device) c.in-Ok.ensures.opening e.opened) e.read e.moment e.any_moment e.kept _ c.answer_script.ensures.answers)

pub returns-in-Log-clause-ran : goal.returns-in-Log-clause-ran
returns-in-Log-clause-ran g c =
    let e = c.in-Ok-open_device.ensures in
    rw (c.as_ran-in-Log.ensures, c.in-Log.is) (has_run_shows _ _ _ _ _ c.in-Ok-open_device.device _ _ _
    (subst (λ o. IsOpened o c.in-Ok-open_device.device) c.in-Ok.ensures.opening e.opened) e.read e.moment e.any_moment e.kept _ _ (c.print_log.ensures _ _) refl refl)

pub returns-in-Check-clause-ran : goal.returns-in-Check-clause-ran
returns-in-Check-clause-ran g c =
    let e = c.in-Ok-open_device.ensures in
    rw (c.as_ran-in-Check.ensures, c.in-Check.is) (has_run_shows _ _ _ _ _ c.in-Ok-open_device.device _ _ _
    (subst (λ o. IsOpened o c.in-Ok-open_device.device) c.in-Ok.ensures.opening e.opened) e.read e.moment e.any_moment e.kept _ _ (c.print_counts.ensures _ _) refl refl)

pub returns-in-Err-clause-transmissions : goal.returns-in-Err-clause-transmissions
returns-in-Err-clause-transmissions g c = rw c.unopened.ensures.1 (transmits_none _)

pub returns-in-Err-open_device-clause-transmissions : goal.returns-in-Err-open_device-clause-transmissions
returns-in-Err-open_device-clause-transmissions g c = rw c.unopened-in-Err-open_device.ensures.1 (transmits_none _)

pub returns-in-Run-clause-transmissions : goal.returns-in-Run-clause-transmissions
returns-in-Run-clause-transmissions g c =
    rw c.as_ran.ensures (transmits_opened _ c.in-Ok.opening _ _ _ _ c.in-Ok-open_device.ensures.opened.last
    c.answer_script.ensures.transmitted)

pub returns-in-Log-clause-transmissions : goal.returns-in-Log-clause-transmissions
returns-in-Log-clause-transmissions g c =
    rw (c.as_ran-in-Log.ensures, (c.print_log.ensures None 0).closed.entries_are)
    (transmits_opened _ c.in-Ok.opening _ _ _ _ c.in-Ok-open_device.ensures.opened.last (transmitted_none _ _))

pub returns-in-Check-clause-transmissions : goal.returns-in-Check-clause-transmissions
returns-in-Check-clause-transmissions g c =
    rw (c.as_ran-in-Check.ensures, (c.print_counts.ensures None 0).closed.entries_are)
    (transmits_opened _ c.in-Ok.opening _ _ _ _ c.in-Ok-open_device.ensures.opened.last (transmitted_none _ _))
