use Rattle.std.proofs.Common.{◌≡◌, length, rules, arith, sym, refl, subst}
use Rattle.device_journal.specs.Moments.{LeavesFrom, IsAsRead, synced, synced_at}
use Rattle.device_journal.specs.Journal.{journal_disk, journal_length, journal_opened}
use Rattle.device_core.specs.Device.{shown}
use Rattle.device_core.specs.Replay.{IsSpelledBy}
use Rattle.device_rules.specs.Trail.{entries_of}
use Rattle.device_core.proofs.Opening.{journal_fault}
use Rattle.device_core.proofs.Appending.{kept_loaded}
use Rattle.device_core.proofs.Crashes.{leaves_found, length-entries}
use Rattle.device_core.proofs.device.load.Goals as goal
use Rattle.std.specs.Prelude.{None}

pub returns-in-Err-clause-fault : goal.returns-in-Err-clause-fault
returns-in-Err-clause-fault g c entry =
    let e = c.in-Err.ensures in
    journal_fault g.D.Disk.content g.D.Disk.faults c.args.disk c.in-Err.disk entry c.in-Err.fault e.fault e.off e.cause e.kept_err

pub invariant_of-result : goal.invariant_of-result
invariant_of-result g c =
    let d = g.D.Disk in
    let journal = c.in-Ok.opened.0 in
    let payloads = c.in-Ok.opened.1 in
    let entries = c.in-Ok-recover.entries.items in
    let r = c.in-Ok-recover.ensures in
    let o = c.in-Ok.ensures in
    kept_loaded d.content d.since d.clock (shown journal c.in-Ok-recover.state entries c.len-found.result None) c.args.disk (journal_length journal) c.opened.result payloads
    (subst (λ l. IsSpelledBy l (entries_of entries)) c.as_slice.ensures r.spelled) r.legal c.opened.ensures r.marked (search rules) refl o.stands o.length o.any_moment

pub returns-clause-any_moment_err : goal.returns-clause-any_moment_err
returns-clause-any_moment_err g c =
    let d = g.D.Disk in
    let journal = c.in-Ok.opened.0 in
    let from = subst (λ t. LeavesFrom d.clock d.since c.args.disk (journal_disk journal) t (IsAsRead (d.content c.args.disk))) c.in-Ok.ensures.moment c.in-Ok.ensures.as_read in
    synced (subst (λ n. LeavesFrom d.clock d.since c.args.disk n (synced_at d.clock c.args.disk) (IsAsRead (d.content c.args.disk))) (sym c.into_disk.ensures) from)

pub returns-in-Ok-recover-clause-any_moment : goal.returns-in-Ok-recover-clause-any_moment
returns-in-Ok-recover-clause-any_moment g c =
    let d = g.D.Disk in
    let journal = c.in-Ok.opened.0 in
    let payloads = c.in-Ok.opened.1 in
    let entries = c.in-Ok-recover.entries.items in
    let count : c.len-found.result ≡ length entries = search rules in
    leaves_found d.clock d.since c.args.disk (journal_disk journal) (journal_opened journal) payloads (entries_of entries) c.len-found.result
    (subst (λ l. IsSpelledBy l (entries_of entries)) c.as_slice.ensures c.in-Ok-recover.ensures.spelled) (omega (arith, count, length-entries entries)) c.in-Ok.ensures.any_moment
