use Rattle.std.proofs.Common.{rules, ◌≡◌, ◌+◌, ◌∷◌, [], ◌++◌, ℕ, List, length, refl, sym, ◌∙◌, ap, subst, arith}
use Rattle.std.specs.Prelude.{Ok, Err, Some, option_to_list}
use Rattle.entry_codec.specs.Spelling.{Fits, IsShort, spelling}
use Rattle.device_journal.specs.declared.fault.AppendFault.TheVariants as journal
use Rattle.device_journal.specs.Frames.{Stands, HasFrames}
use Rattle.device_journal.specs.Journal.{journal_disk, journal_length, journal_opened, journal_failed}
use Rattle.device_journal.specs.Moments.{LeavesOnly}
use Rattle.device_journal.specs.Sound.{IsBeforeOrAfter}
use Rattle.device_rules.specs.declared.told.SubmitFault.TheVariants.{DiskFault}
use Rattle.device_core.specs.Crash.{AddsOnly, Crash, HasAtLeast, HasCrash}
use Rattle.device_core.specs.Faults.{HasRoom, IsSubmitFault}
use Rattle.device_core.specs.View.{Stays}
use Rattle.device_core.specs.Device.{shown}
use Rattle.device_core.specs.Images.{payloads_of}
use Rattle.device_rules.specs.Prepared.{entry_of}
use Rattle.device_rules.specs.Step.{IsAllowed}
use Rattle.device_rules.specs.Trail.{entries_of, marked_at}
use Rattle.device_state.specs.State.{plain}
use Rattle.device_core.proofs.Appending.{stepped_on, was_sound, had_room, ok_not_failed, done_as, failed_as, kept_ok, kept_fault}
use Rattle.device_core.proofs.Crashes.{adds_grown, lasts}
use Rattle.device_rules.proofs.Payloads.{allowed_fits}
use Rattle.device_core.proofs.device.Device.append.Goals as goal

pub spell_with_room-requires : goal.spell_with_room-requires
spell_with_room-requires g c =
    subst IsShort (sym c.entry.ensures) (allowed_fits _ (entry_of c.args.prepared) _ c.requires.stepped).short

pub append-requires-clause-small : goal.append-requires-clause-small
append-requires-clause-small g c =
    let small = (allowed_fits _ (entry_of c.args.prepared) _ c.requires.stepped).small in
    omega (arith, small, ap length (c.deref.ensures.value ∙ c.in-Ok.ensures.payload ∙ ap spelling c.entry.ensures))

pub invariant_of-self-in-Ok-append : goal.invariant_of-self-in-Ok-append
invariant_of-self-in-Ok-append g c =
    let d = g.D.Disk in
    let i = c.self.inside in
    let entry = (entry_of c.args.prepared) in
    let e : c.deref.result.now ≡ spelling entry = c.deref.ensures.value ∙ c.in-Ok.ensures.payload ∙ ap spelling c.entry.ensures in
    let sound = was_sound (journal_failed i.journal) c.append.result (Ok c.in-Ok-append.moment) c.in-Ok-append.is (ok_not_failed c.in-Ok-append.moment) c.append.ensures.failed in
    let moment = c.in-Ok-append.moment in
    let new = c.append.new.self in
    let disk = journal_disk i.journal in
    kept_ok d.content d.since d.clock (shown i.journal i.state i.entries.items i.found i.rest) (shown new c.make_step-answer.new.state c.make_step-answer.new.entries.items i.found i.rest)
    (journal_length i.journal) (journal_length new) entry c.make_step-answer.result moment c.self.invariant sound (subst (λ x. Fits x) c.entry.ensures c.in-Ok.ensures.fits)
    c.append.ensures.opened refl refl (c.make_step-answer.ensures.kept ∙ ap (λ l. l ++ marked_at moment entry ∷ []) c.in-Ok.ensures.same) (stepped_on (plain c.spell_with_room.new.state) (plain i.state) (plain c.make_step-answer.new.state) entry c.make_step-answer.result c.in-Ok.ensures.same_state c.make_step-answer.ensures.stepped)
    (subst (λ q. (payloads : List (List ℕ)) → Stands (d.content disk) payloads → LeavesOnly d.clock d.since disk (journal_disk new) (IsBeforeOrAfter payloads q)) e (c.append.ensures.any_moment sound))
    c.in-Ok-append.ensures.moment
    (subst (λ q. (payloads : List (List ℕ)) → Stands (d.content disk) payloads → (x : List ℕ) → d.since (journal_disk new) moment x → HasFrames x (payloads ++ q ∷ [])) e (λ payloads st. c.in-Ok-append.ensures.durable payloads st))
    (subst (λ q. (payloads : List (List ℕ)) → Stands (d.content disk) payloads → Stands (d.content (journal_disk new)) (payloads ++ q ∷ [])) e (λ payloads st. c.in-Ok-append.ensures.stands payloads st))
    (c.in-Ok-append.ensures.length ∙ ap (λ q. journal_length i.journal + 5 + length q) e)

pub returns-in-Ok-append-clause-crash : goal.returns-in-Ok-append-clause-crash
returns-in-Ok-append-clause-crash g c = (invariant_of-self-in-Ok-append g c).crash

pub returns-in-Ok-append-clause-any_moment : goal.returns-in-Ok-append-clause-any_moment
returns-in-Ok-append-clause-any_moment g c =
    let d = g.D.Disk in
    let i = c.self.inside in
    let entry = (entry_of c.args.prepared) in
    let e : c.deref.result.now ≡ spelling entry = c.deref.ensures.value ∙ c.in-Ok.ensures.payload ∙ ap spelling c.entry.ensures in
    let sound = was_sound (journal_failed i.journal) c.append.result (Ok c.in-Ok-append.moment) c.in-Ok-append.is (ok_not_failed c.in-Ok-append.moment) c.append.ensures.failed in
    let is = c.self.invariant.sound sound in
    let new = journal_disk c.append.new.self in
    let disk = journal_disk i.journal in
    let was : Crash d.since d.clock disk (journal_opened i.journal) i.found i.entries.items [] = subst (λ l. Crash d.since d.clock disk (journal_opened i.journal) i.found i.entries.items l) (ap option_to_list is.none_left) c.self.invariant.crash in
    let leaves : LeavesOnly d.clock d.since disk new (IsBeforeOrAfter (payloads_of (entries_of i.entries.items)) (spelling entry)) =
    subst (λ q. LeavesOnly d.clock d.since disk new (IsBeforeOrAfter (payloads_of (entries_of i.entries.items)) q)) e (c.append.ensures.any_moment sound (payloads_of (entries_of i.entries.items)) is.stands) in
    let now = c.make_step-answer.new.entries.items in
    let all = done_as i.entries.items now c.in-Ok-append.moment entry i.rest (c.make_step-answer.ensures.kept ∙ ap (λ l. l ++ marked_at c.in-Ok-append.moment entry ∷ []) c.in-Ok.ensures.same) is.none_left in
    subst (λ v. AddsOnly d.since d.clock v.disk new (HasAtLeast (entries_of now ++ option_to_list i.rest) (length v.entries))) c.self.view_is
    (subst (λ l. AddsOnly d.since d.clock disk new (HasAtLeast l (length i.entries.items))) all (adds_grown d.since d.clock disk new (journal_opened i.journal) i.found i.entries.items entry was is.fit (subst (λ x. Fits x) c.entry.ensures c.in-Ok.ensures.fits) leaves))

pub returns-in-Ok-append-clause-durable : goal.returns-in-Ok-append-clause-durable
returns-in-Ok-append-clause-durable g c x left =
    let d = g.D.Disk in
    let i = c.self.inside in
    let entry = (entry_of c.args.prepared) in
    let e : c.deref.result.now ≡ spelling entry = c.deref.ensures.value ∙ c.in-Ok.ensures.payload ∙ ap spelling c.entry.ensures in
    let sound = was_sound (journal_failed i.journal) c.append.result (Ok c.in-Ok-append.moment) c.in-Ok-append.is (ok_not_failed c.in-Ok-append.moment) c.append.ensures.failed in
    let is = c.self.invariant.sound sound in
    let moment = c.in-Ok-append.moment in
    let new = journal_disk c.append.new.self in
    let now = c.make_step-answer.new.entries.items in
    let count : c.len-position.result ≡ length now = search rules in
    subst (λ n. HasAtLeast (entries_of now) n x) (sym count)
    (lasts d.since d.clock new i.entries.items entry is.fit (subst (λ y. Fits y) c.entry.ensures c.in-Ok.ensures.fits) moment c.in-Ok-append.ensures.moment
    (λ y l. subst (λ q. HasFrames y (payloads_of (entries_of i.entries.items) ++ q ∷ [])) e (c.in-Ok-append.ensures.durable (payloads_of (entries_of i.entries.items)) is.stands y l))
    now (c.make_step-answer.ensures.kept ∙ ap (λ l. l ++ marked_at moment entry ∷ []) c.in-Ok.ensures.same) x left)

pub returns-in-Ok-append-clause-legal : goal.returns-in-Ok-append-clause-legal
returns-in-Ok-append-clause-legal g c = (invariant_of-self-in-Ok-append g c).rest_legal

pub invariant_of-self-in-Err-DiskFault : goal.invariant_of-self-in-Err-DiskFault
invariant_of-self-in-Err-DiskFault g c =
    let d = g.D.Disk in
    let i = c.self.inside in
    let entry = (entry_of c.args.prepared) in
    let e : c.deref.result.now ≡ spelling entry = c.deref.ensures.value ∙ c.in-Ok.ensures.payload ∙ ap spelling c.entry.ensures in
    let was : c.append.result ≡ Err journal.DiskFault = c.in-Err-DiskFault.is ∙ ap (λ f. Err f) c.in-Err-DiskFault.field-0-is in
    let sound = was_sound (journal_failed i.journal) c.append.result (Err journal.DiskFault) was (λ n f. absurd (cc (f))) c.append.ensures.failed in
    let new = c.append.new.self in
    let disk = journal_disk i.journal in
    kept_fault d.content d.since d.clock (shown i.journal i.state i.entries.items i.found i.rest) (shown new c.spell_with_room.new.state c.spell_with_room.new.entries.items i.found (Some c.into_entry.result))
    (journal_length i.journal) (journal_length new) (d.faults (journal_disk new)) entry c.self.invariant sound (c.append.ensures.fault_kept was) (subst (λ x. Fits x) c.entry.ensures c.in-Ok.ensures.fits)
    (subst (λ v. IsAllowed v.state entry) (sym c.self.view_is) (_, c.requires.stepped)) c.append.ensures.opened refl c.in-Ok.ensures.same c.in-Ok.ensures.same_state (ap (λ x. Some x) c.into_entry.ensures)
    (subst (λ q. (payloads : List (List ℕ)) → Stands (d.content disk) payloads → LeavesOnly d.clock d.since disk (journal_disk new) (IsBeforeOrAfter payloads q)) e (c.append.ensures.any_moment sound))

pub returns-clause-crash : goal.returns-clause-crash
returns-clause-crash g c = (invariant_of-self-in-Err-DiskFault g c.before).crash

pub returns-clause-legal : goal.returns-clause-legal
returns-clause-legal g c = (invariant_of-self-in-Err-DiskFault g c.before).rest_legal

pub returns-clause-fault : goal.returns-clause-fault
returns-clause-fault g c =
    let d = g.D.Disk in
    let i = c.self.inside in
    let entry = entry_of c.args.prepared in
    let e : c.deref.result.now ≡ spelling entry = c.deref.ensures.value ∙ c.in-Ok.ensures.payload ∙ ap spelling c.entry.ensures in
    let told : c.append.result ≡ Err journal.DiskFault = c.in-Err-DiskFault.is ∙ ap (λ f. Err f) c.in-Err-DiskFault.field-0-is in
    let sound = was_sound (journal_failed i.journal) c.append.result (Err journal.DiskFault) told (λ n f. absurd (cc (f))) c.append.ensures.failed in
    let is = c.self.invariant.sound sound in
    let room = had_room (journal_length i.journal) (length c.deref.result.now) c.append.result (Err journal.DiskFault) told (λ n f. absurd (cc (f))) (c.append.ensures.full sound) in
    let has : HasRoom (entries_of i.entries.items) entry = omega (arith, room, is.size_is, ap length e) in
    let allowed = subst (λ v. IsAllowed v.state entry) (sym c.self.view_is) (_, c.requires.stepped) in
    let stays : Stays (shown i.journal i.state i.entries.items i.found i.rest) (shown c.append.new.self c.spell_with_room.new.state c.spell_with_room.new.entries.items i.found (Some c.into_entry.result)) =
    record { entries = c.in-Ok.ensures.same; state = c.in-Ok.ensures.same_state; found = refl } in
    subst (λ v. IsSubmitFault d.content d.faults entry v (shown c.append.new.self c.spell_with_room.new.state c.spell_with_room.new.entries.items i.found (Some c.into_entry.result)) DiskFault) c.self.view_is
    (stays, c.append.ensures.fault told, allowed, has)

pub returns-clause-any_moment : goal.returns-clause-any_moment
returns-clause-any_moment g c =
    let d = g.D.Disk in
    let i = c.self.inside in
    let entry = (entry_of c.args.prepared) in
    let e : c.deref.result.now ≡ spelling entry = c.deref.ensures.value ∙ c.in-Ok.ensures.payload ∙ ap spelling c.entry.ensures in
    let told : c.append.result ≡ Err journal.DiskFault = c.in-Err-DiskFault.is ∙ ap (λ f. Err f) c.in-Err-DiskFault.field-0-is in
    let sound = was_sound (journal_failed i.journal) c.append.result (Err journal.DiskFault) told (λ n f. absurd (cc (f))) c.append.ensures.failed in
    let is = c.self.invariant.sound sound in
    let new = journal_disk c.append.new.self in
    let disk = journal_disk i.journal in
    let was : Crash d.since d.clock disk (journal_opened i.journal) i.found i.entries.items [] = subst (λ l. Crash d.since d.clock disk (journal_opened i.journal) i.found i.entries.items l) (ap option_to_list is.none_left) c.self.invariant.crash in
    let leaves : LeavesOnly d.clock d.since disk new (IsBeforeOrAfter (payloads_of (entries_of i.entries.items)) (spelling entry)) =
    subst (λ q. LeavesOnly d.clock d.since disk new (IsBeforeOrAfter (payloads_of (entries_of i.entries.items)) q)) e (c.append.ensures.any_moment sound (payloads_of (entries_of i.entries.items)) is.stands) in
    let now = c.spell_with_room.new.entries.items in
    let all = failed_as i.entries.items now entry (Some c.into_entry.result) c.in-Ok.ensures.same (ap (λ x. Some x) c.into_entry.ensures) in
    subst (λ v. AddsOnly d.since d.clock v.disk new (HasAtLeast (entries_of now ++ option_to_list (Some c.into_entry.result)) (length v.entries))) c.self.view_is
    (subst (λ l. AddsOnly d.since d.clock disk new (HasAtLeast l (length i.entries.items))) all (adds_grown d.since d.clock disk new (journal_opened i.journal) i.found i.entries.items entry was is.fit (subst (λ x. Fits x) c.entry.ensures c.in-Ok.ensures.fits) leaves))
