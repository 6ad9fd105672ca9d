use Rattle.std.proofs.Common.{◌≡◌, ℕ, List, ◌∙◌, subst}
use Rattle.std.specs.Prelude.{Option}
use Rattle.device_journal.specs.Moments.{LeavesFrom, IsAsRead, unsynced, synced_at}
use Rattle.device_journal.specs.Opened.{IsOpened}
use Rattle.device_journal.proofs.Appended.{if_ok_map, on_err_any}
use Rattle.device_journal.proofs.Openings.{from_first, failed_after}
use Rattle.device_journal.proofs.opening.prepare.Goals as goal

pub returns-in-Ok-clause-any_moment : goal.returns-in-Ok-clause-any_moment
returns-in-Ok-clause-any_moment g c =
    let d = g.D.Disk in
    let old = c.args.disk.now in
    if_ok_map c.find.result _ (λ f. LeavesFrom d.clock d.since old c.find.new.disk f.opened (IsAsRead (d.content old)))
    (λ f is. from_first d.clock d.may d.since d.content old c.sync.new.self c.sync.ensures.images c.sync.ensures.content c.find.new.disk f.opened is c.find.ensures.any_moment)
    c.find.ensures.moment

pub returns-in-Ok-clause-moment : goal.returns-in-Ok-clause-moment
returns-in-Ok-clause-moment g c =
    if_ok_map c.find.result _ (λ f. f.opened ≡ synced_at g.D.Disk.clock c.args.disk.now) (λ f is. is ∙ c.in-Ok.ensures.next) c.find.ensures.moment

pub returns-in-Ok-clause-any_moment_err : goal.returns-in-Ok-clause-any_moment_err
returns-in-Ok-clause-any_moment_err g c =
    let d = g.D.Disk in
    on_err_any c.find.result _ (failed_after d.clock d.may d.since d.content c.args.disk.now c.sync.new.self c.sync.ensures.images c.sync.ensures.content c.find.new.disk c.in-Ok.ensures.next c.find.ensures.any_moment)

pub returns-in-Ok-clause-opened : goal.returns-in-Ok-clause-opened
returns-in-Ok-clause-opened g c =
    let d = g.D.Disk in
    if_ok_map c.find.result _ (λ f. IsOpened (d.content c.args.disk.now) (d.content c.find.new.disk) f.payloads f.gate)
    (λ f opened. subst (λ (o : Option (List ℕ)). IsOpened o (d.content c.find.new.disk) f.payloads f.gate) c.sync.ensures.content opened)
    c.find.ensures.opened

pub returns-in-Ok-clause-off : goal.returns-in-Ok-clause-off
returns-in-Ok-clause-off g c at is image told = c.find.ensures.off at is image (c.sync.ensures.content ∙ told)

pub returns-in-Err-clause-any_moment_err : goal.returns-in-Err-clause-any_moment_err
returns-in-Err-clause-any_moment_err g c = unsynced c.sync.ensures.images

pub returns-in-Err-clause-off : goal.returns-in-Err-clause-off
returns-in-Err-clause-off g c at is image told = absurd (cc)
