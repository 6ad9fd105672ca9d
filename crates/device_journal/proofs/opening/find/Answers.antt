use Rattle.std.proofs.Common.{◌≡◌}
use Rattle.std.specs.Prelude.{Err}
use Rattle.device_journal.specs.declared.fault.OpenFault.TheVariants.{BadJournal, DiskFault}
use Rattle.device_journal.proofs.Openings.{as_read}
use Rattle.device_journal.proofs.opening.find.Goals as goal

pub returns-in_default-clause-any_moment : goal.returns-in_default-clause-any_moment
returns-in_default-clause-any_moment g c =
    let d = g.D.Disk in
    as_read d.clock d.may d.since d.content c.args.disk.now c.requires (g.met.D.Disk.only_now c.args.disk.now)

pub returns-in_default-clause-off : goal.returns-in_default-clause-off
returns-in_default-clause-off g c at is image told = absurd (cc)

pub returns-in-Ok-read_or_create-clause-any_moment : goal.returns-in-Ok-read_or_create-clause-any_moment
returns-in-Ok-read_or_create-clause-any_moment g c = c.read_or_create.ensures.any_moment

pub returns-in-Ok-read_or_create-clause-opened : goal.returns-in-Ok-read_or_create-clause-opened
returns-in-Ok-read_or_create-clause-opened g c = c.in-Ok-read_or_create.ensures.opened

pub returns-in-Ok-read_or_create-clause-only : goal.returns-in-Ok-read_or_create-clause-only
returns-in-Ok-read_or_create-clause-only g c = c.in-Ok-read_or_create.ensures.only

pub returns-in-Ok-read_or_create-clause-off : goal.returns-in-Ok-read_or_create-clause-off
returns-in-Ok-read_or_create-clause-off g c at is image told = absurd (cc)

pub returns-in-Ok-read_or_create-clause-later : goal.returns-in-Ok-read_or_create-clause-later
returns-in-Ok-read_or_create-clause-later g c = c.read_or_create.ensures.later

pub returns-in-Ok-read_or_create-clause-cause : goal.returns-in-Ok-read_or_create-clause-cause
returns-in-Ok-read_or_create-clause-cause g c is = absurd (cc)

pub returns-in-Err-clause-any_moment : goal.returns-in-Err-clause-any_moment
returns-in-Err-clause-any_moment g c = c.read_or_create.ensures.any_moment

pub returns-in-Err-clause-off : goal.returns-in-Err-clause-off
returns-in-Err-clause-off g c at is =
    let e : c.in-Err.fault ≡ BadJournal at = cc in
    c.in-Err.ensures.off at (λ i. Err (e i))

pub returns-in-Err-clause-later : goal.returns-in-Err-clause-later
returns-in-Err-clause-later g c = c.read_or_create.ensures.later

pub returns-in-Err-clause-cause : goal.returns-in-Err-clause-cause
returns-in-Err-clause-cause g c is =
    let e : c.in-Err.fault ≡ DiskFault = cc in
    c.in-Err.ensures.cause (λ i. Err (e i))

pub returns-in-Err-clause-faults : goal.returns-in-Err-clause-faults
returns-in-Err-clause-faults g c = c.in-Err.ensures.faults
