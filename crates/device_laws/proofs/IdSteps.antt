-- Each entry leaves the ids of instances apart.
use Rattle.std.proofs.Common.{◌≡◌, ℕ, ◌+◌, ◌<◌, ◌^◌, List, Bool, true, false, Ok, refl, arith, subst}
use Rattle.std.specs.Prelude.{is_some, not, nat_lt}
use Rattle.std.specs.List.{list_any}
use Rattle.std.proofs.lemmas.Bool.{and_parts}
use Rattle.std.proofs.lemmas.Bool.Decides.{nat_tests}
use Rattle.field_text.proofs.StepLemmas.{then_ok}
use Rattle.device_rules.specs.AutoSend.{auto_send}
use Rattle.device_rules.specs.declared.answer.Answer.{Answer}
use Rattle.device_rules.specs.declared.refused.Refused.TheVariants.{BadValue, NoForm}
use Rattle.device_rules.specs.DropForm.{drop_form}
use Rattle.device_rules.specs.DropInstance.{drop_instance}
use Rattle.device_rules.specs.Fill.{fill, filled}
use Rattle.device_rules.specs.Finalize.{finalize, finalized_as, finish, kept_final}
use Rattle.device_rules.specs.FinalizeAll.{batch_of, finalize_all, finalized_all}
use Rattle.device_rules.specs.Leave.{leave}
use Rattle.device_rules.specs.Limits.{is_within_limits}
use Rattle.device_rules.specs.Holders.{free_for}
use Rattle.device_rules.specs.Load.{load, load_by, load_read, put_form, read_form}
use Rattle.device_rules.specs.NotBuilt.{not_built}
use Rattle.device_rules.specs.Opened.{is_opening, is_server, opened}
use Rattle.device_rules.specs.Release.{release}
use Rattle.device_rules.specs.SaveDraft.{counters_after, draft_of, instances_with, name_of, save_draft, saved}
use Rattle.device_rules.specs.SendBegun.{send_begun, sending}
use Rattle.device_rules.specs.SendEnded.{ended_as, is_taken, send_ended, status_after}
use Rattle.device_rules.specs.Start.{begun, opened_with}
use Rattle.device_rules.specs.Start.{source_of, start}
use Rattle.device_rules.specs.Step.{entered, obeyed, step}
use Rattle.device_rules.specs.TakeLock.{take_lock}
use Rattle.device_rules.specs.Tests.{not_full, open_entry, refused_if}
use Rattle.device_rules.specs.Tick.{tick}
use Rattle.device_rules.specs.UpdateMode.{update_mode}
use Rattle.device_state.specs.declared.state.Counters.{Counters}
use Rattle.device_state.specs.declared.state.State.{State}
use Rattle.device_state.specs.Numbered.{dropped}
use Rattle.device_state.specs.Purging.{purged}
use Rattle.entity_lists.specs.EntityTables.{tables_of}
use Rattle.entry_form.specs.declared.command.Base.{Base}
use Rattle.entry_form.specs.declared.command.Command.{Command}
use Rattle.entry_form.specs.declared.command.Command.TheVariants as commands
use Rattle.entry_form.specs.declared.command.How.{How}
use Rattle.entry_form.specs.declared.command.Outcome.{Outcome}
use Rattle.entry_form.specs.declared.entry.Entry.{Entry}
use Rattle.entry_form.specs.declared.entry.Entry.TheVariants.{Opened, Done}
use Rattle.entry_form.specs.declared.entry.Opening.{Opening}
use Rattle.entry_form.specs.declared.hand.Hand.{Hand}
use Rattle.entry_form.specs.declared.hand.Lock.{Lock}
use Rattle.entry_form.specs.declared.hand.Round.{Round}
use Rattle.entry_form.specs.declared.hand.Round.TheVariants as rounds
use Rattle.field_text.specs.declared.mode.Mode.{Mode}
use Rattle.form_store.specs.declared.records.Check.{Check}
use Rattle.form_store.specs.declared.records.Check.TheVariants.{Fresh, Same, OtherBytes, Full}
use Rattle.form_store.specs.Forms.{check, is_shown}
use Rattle.instance_store.specs.Instances.{with_status, with_tried}
use Rattle.instance_store.specs.declared.records.InstanceRec.{InstanceRec}
use Rattle.kept_forms.specs.KeptForms.{id_of, version_of}
use Rattle.savepoints.specs.declared.keys.KeyBase.{KeyBase}
use Rattle.savepoints.specs.declared.keys.KeyBase.TheVariants.{Blank, Draft, Edit}
use Rattle.device_laws.specs.DrawnIds.{HasIdsApart, HasNoIdYet}
use Rattle.device_laws.proofs.DrawnIds.{HoldsOn, LeavesIds, gone_leaves, leaves_itself, put_leaves}
use Rattle.device_laws.proofs.FinalDraws.{finish_draws}
use Rattle.device_laws.proofs.Following.{came}
use Rattle.device_laws.proofs.Found.{allowed}
use Rattle.device_laws.proofs.IdBatches.{batch_leaves_ids}
use Rattle.device_laws.proofs.IdChanges.{changed_leaves}
use Rattle.device_laws.proofs.Made.{beginning, dropping, ending, releasing, taking}
use Rattle.device_laws.proofs.Rows.{all_added, all_dropped, all_replaced}
use Rattle.wire_laws.specs.Bases.{base_in}

-- the next state leaves the ids of this one apart
pub record KeepsApart (state next : State) : Type 0 where
  pub leaves : LeavesIds state.instances.items state.counters.draws next.instances.items next.counters.draws

keeps : (state next : State)
    → LeavesIds state.instances.items state.counters.draws next.instances.items next.counters.draws
    → KeepsApart state next
keeps state next left = record { leaves = left }

-- instances and draws as they were
as_they_were : (state : State) → HasIdsApart state
    → LeavesIds state.instances.items state.counters.draws state.instances.items state.counters.draws
as_they_were state apart = leaves_itself state.instances.items state.counters.draws apart

-- ---- entries that change no instance

auto_apart : (state : State) (on : Bool) (x : State × Answer) → auto_send state on ≡ Ok x → HasIdsApart state
    → KeepsApart state x.0
auto_apart state on x is apart = came (KeepsApart state) _ _ x (then_ok (not_full state) _ x is).2
    (keeps state _ (as_they_were state apart))

mode_apart : (state : State) (mode : Mode) (x : State × Answer) → update_mode state mode ≡ Ok x → HasIdsApart state
    → KeepsApart state x.0
mode_apart state mode x is apart = came (KeepsApart state) _ _ x (then_ok (not_full state) _ x is).2
    (keeps state _ (as_they_were state apart))

tick_apart : (state : State) (x : State × Answer) → tick state ≡ Ok x → HasIdsApart state → KeepsApart state x.0
tick_apart state x is apart = came (KeepsApart state) _ _ x (then_ok (not_full state) _ x is).2
    (keeps state _ (as_they_were state apart))

not_built_apart : (state : State) (x : State × Answer) → not_built state ≡ Ok x → KeepsApart state x.0
not_built_apart state x is = absurd (cc ((then_ok (not_full state) _ x is).2))

put_form_apart : (state : State) (bytes : List ℕ) (x : State × Answer) → put_form state bytes ≡ Ok x
    → HasIdsApart state → KeepsApart state x.0
put_form_apart state bytes x is apart = came (KeepsApart state) _ _ x (then_ok (not_full state) _ x is).2
    (keeps state _ (as_they_were state apart))

load_by_apart : (state : State) (bytes : List ℕ) (met : Check) (x : State × Answer) → load_by state bytes met ≡ Ok x
    → HasIdsApart state → KeepsApart state x.0
load_by_apart state bytes Fresh x is apart = put_form_apart state bytes x is apart
load_by_apart state bytes (Same place) x is apart = put_form_apart state bytes x is apart
load_by_apart state bytes (OtherBytes place) x is apart = absurd (cc is)
load_by_apart state bytes Full x is apart = absurd (cc is)

load_read_apart : (state : State) (bytes : List ℕ) (x : State × Answer) → load_read state bytes ≡ Ok x
    → HasIdsApart state → KeepsApart state x.0
load_read_apart state bytes x is apart =
    let form = then_ok (read_form bytes) _ x is in
    load_by_apart state form.0 (check (id_of form.0) (version_of form.0) form.0 state.forms.items) x form.2 apart

load_apart : (state : State) (hand : Hand) (bytes : List ℕ) (x : State × Answer) → load state hand bytes ≡ Ok x
    → HasIdsApart state → KeepsApart state x.0
load_apart state hand bytes x is apart =
    load_read_apart state bytes x (then_ok (free_for hand state.locks.forms) _ x is).2 apart

drop_form_apart : (state : State) (hand : Hand) (id : List ℕ) (x : State × Answer) → drop_form state hand id ≡ Ok x
    → HasIdsApart state → KeepsApart state x.0
drop_form_apart state hand id x is apart =
    let nobody = then_ok (free_for hand state.locks.forms) _ x is in
    let there = then_ok (refused_if (not (list_any (is_shown id) state.forms.items)) NoForm) _ x nobody.2 in
    came (KeepsApart state) _ _ x (then_ok (not_full state) _ x there.2).2
    (keeps state _ (as_they_were state apart))

leave_apart : (state : State) (x : State × Answer) → leave state ≡ Ok x → HasIdsApart state → KeepsApart state x.0
leave_apart state x is apart =
    let entry = then_ok (open_entry state) _ x is in
    came (KeepsApart state) _ _ x (then_ok (not_full state) _ x entry.2).2
    (keeps state _ (as_they_were state apart))

fill_apart : (state : State) (path value : List ℕ) (x : State × Answer) → fill state path value ≡ Ok x
    → HasIdsApart state → KeepsApart state x.0
fill_apart state path value x is apart =
    let entry = then_ok (open_entry state) _ x is in
    let sheet = then_ok (filled (tables_of state.lists.items) entry.0 path value) _ x entry.2 in
    came (KeepsApart state) _ _ x (then_ok (not_full state) _ x sheet.2).2
    (keeps state _ (as_they_were state apart))

start_apart : (state : State) (base : Base) (how : How) (x : State × Answer) → start state base how ≡ Ok x
    → HasIdsApart state → KeepsApart state x.0
start_apart state base how x is apart =
    let source = then_ok (source_of state base how) _ x is in
    let with_what = then_ok (begun state how source.0) _ x source.2 in
    let left = opened_with state source.0 with_what.0.0 with_what.0.1 in
    came (KeepsApart state) left _ x with_what.2 (keeps state left (as_they_were state apart))

-- ---- another number of the device

small : (device : ℕ) → nat_lt device (2 ^ 48) ≡ true → device < 2 ^ 48
small device is = grind (arith, nat_tests, is)

opened_apart : (state : State) (opening : Opening) (x : State × Answer) → opened state opening ≡ Ok x
    → HasIdsApart state → KeepsApart state x.0
opened_apart state opening x is apart =
    let within = then_ok (refused_if (not (is_opening opening)) BadValue) _ x is in
    came (KeepsApart state) _ _ x (then_ok (not_full state) _ x within.2).2
    (keeps state _ (gone_leaves state.instances.items state.instances.items state.counters.draws _ apart refl
    (λ P all. all) (record {
      device = small opening.device (and_parts (nat_lt opening.device (2 ^ 48)) (is_server opening.server)
          (allowed (is_opening opening) BadValue within.0 within.1)).0;
      from_one = apart.range.from_one;
      next = apart.range.next;
    })))

-- ---- instances

held_on : (base : KeyBase) (item : InstanceRec) (kept : List InstanceRec)
    → HoldsOn item kept (instances_with base item kept)
held_on Blank item kept = λ P here all. all_added P item kept here all
held_on (Edit number) item kept = λ P here all. all_added P item kept here all
held_on (Draft number) item kept = λ P here all. all_replaced P item kept here all

same_draws : (base : KeyBase) (counters : Counters) → counters.draws ≡ (counters_after base counters).draws
same_draws Blank counters = refl
same_draws (Edit number) counters = refl
same_draws (Draft number) counters = refl

save_apart : (state : State) (x : State × Answer) → save_draft state ≡ Ok x → HasIdsApart state → KeepsApart state x.0
save_apart state x is apart =
    let entry = then_ok (open_entry state) _ x is in
    let name = then_ok (name_of state entry.0.base) _ x entry.2 in
    let left = saved state entry.0 name.0 in
    let item = draft_of name.0 entry.0 in
    let kept = state.instances.items in
    let draws = state.counters.draws in
    came (KeepsApart state) left _ x (then_ok (not_full state) _ x name.2).2
    (keeps state left (subst (LeavesIds kept draws left.instances.items)
    (same_draws entry.0.base state.counters)
    (put_leaves item kept left.instances.items draws draws apart (omega arith) tt (held_on entry.0.base item kept)
    apart.range (λ is. refl))))

finalize_apart : (state : State) (x : State × Answer) → finalize state ≡ Ok x → HasIdsApart state
    → KeepsApart state x.0
finalize_apart state x is apart =
    let entry = then_ok (open_entry state) _ x is in
    let done = then_ok (finish state state.lists.items state.counters.draws entry.0) _ x entry.2 in
    let name = then_ok (name_of state entry.0.base) _ x done.2 in
    let left = kept_final state entry.0 done.0 name.0 in
    let item = finalized_as state entry.0 name.0 done.0.last in
    let kept = state.instances.items in
    let draws = finish_draws state state.lists.items state.counters.draws entry.0 done.0 apart.range done.1 in
    came (KeepsApart state) left _ x (then_ok (not_full state) _ x name.2).2
    (keeps state left (put_leaves item kept left.instances.items state.counters.draws done.0.acted.draws apart
    draws.further draws.drawn (held_on entry.0.base item kept) draws.range (λ is. absurd (cc is))))

finalize_all_apart : (state : State) (hand : Hand) (x : State × Answer) → finalize_all state hand ≡ Ok x
    → HasIdsApart state → KeepsApart state x.0
finalize_all_apart state hand x is apart =
    let nobody = then_ok (free_for hand state.locks.instances) _ x is in
    came (KeepsApart state) (finalized_all state (batch_of state)) _ x (then_ok (not_full state) _ x nobody.2).2
    (keeps state _ (batch_leaves_ids state apart))

drop_instance_apart : (state : State) (hand : Hand) (number : ℕ) (x : State × Answer)
    → drop_instance state hand number ≡ Ok x → HasIdsApart state → KeepsApart state x.0
drop_instance_apart state hand number x is apart =
    let kept = state.instances.items in
    came (KeepsApart state) _ _ x (dropping state hand number x is).made
    (keeps state _ (gone_leaves kept (dropped number kept) state.counters.draws state.counters.draws apart refl
    (λ P all. all_dropped P number kept all) apart.range))

-- ---- sends

take_lock_apart : (state : State) (hand : Hand) (round : Round) (x : State × Answer) → take_lock state hand round ≡ Ok x
    → HasIdsApart state → KeepsApart state x.0
take_lock_apart state hand rounds.Forms x is apart = not_built_apart state x is
take_lock_apart state hand rounds.Lists x is apart = not_built_apart state x is
take_lock_apart state hand rounds.Send x is apart = came (KeepsApart state) _ _ x (taking state hand x is).made
    (keeps state _ (as_they_were state apart))

release_apart : (state : State) (hand : Hand) (lock : Lock) (x : State × Answer) → release state hand lock ≡ Ok x
    → HasIdsApart state → KeepsApart state x.0
release_apart state hand lock x is apart = came (KeepsApart state) _ _ x (releasing state hand lock x is).made
    (keeps state _ (as_they_were state apart))

send_begun_apart : (state : State) (hand : Hand) (number : ℕ) (x : State × Answer) → send_begun state hand number ≡ Ok x
    → HasIdsApart state → KeepsApart state x.0
send_begun_apart state hand number x is apart =
    came (KeepsApart state) _ _ x (beginning state hand number x is).made
    (keeps state (sending state hand number) (changed_leaves (with_tried (state.counters.position + 1)) number
    state.instances.items state.counters.draws (λ i. refl) (λ i. refl) (λ i none. none) apart))

no_id_again : (taken : Bool) (i : InstanceRec) → HasNoIdYet (with_status (status_after taken) i)
no_id_again true i draft = absurd (cc draft)
no_id_again false i draft = absurd (cc draft)

send_ended_apart : (state : State) (hand : Hand) (number : ℕ) (outcome : Outcome) (x : State × Answer)
    → send_ended state hand number outcome ≡ Ok x → HasIdsApart state → KeepsApart state x.0
send_ended_apart state hand number outcome x is apart =
    came (KeepsApart state) _ _ x (ending state hand number outcome x is).made
    (keeps state (ended_as state hand number (is_taken outcome))
    (changed_leaves (with_status (status_after (is_taken outcome))) number state.instances.items
    state.counters.draws (λ i. refl) (λ i. refl) (λ i none. no_id_again (is_taken outcome) i) apart))

-- ---- any entry

obeyed_apart : (state : State) (hand : Hand) (command : Command) (x : State × Answer) → obeyed state hand command ≡ Ok x
    → HasIdsApart state → KeepsApart state x.0
obeyed_apart state hand (commands.AutoSend on) x is apart = auto_apart state on x is apart
obeyed_apart state hand (commands.UpdateMode mode) x is apart = mode_apart state mode x is apart
obeyed_apart state hand (commands.TakeLock round) x is apart = take_lock_apart state hand round x is apart
obeyed_apart state hand (commands.Release lock) x is apart = release_apart state hand lock x is apart
obeyed_apart state hand (commands.Load bytes) x is apart = load_apart state hand bytes x is apart
obeyed_apart state hand (commands.Ask id) x is apart = not_built_apart state x is
obeyed_apart state hand (commands.Fetched job at outcome) x is apart = not_built_apart state x is
obeyed_apart state hand commands.RoundDone x is apart = not_built_apart state x is
obeyed_apart state hand (commands.DropForm id) x is apart = drop_form_apart state hand id x is apart
obeyed_apart state hand (commands.Start base how) x is apart = start_apart state base how x is apart
obeyed_apart state hand (commands.Fill path value) x is apart = fill_apart state path value x is apart
obeyed_apart state hand commands.SaveDraft x is apart = save_apart state x is apart
obeyed_apart state hand commands.Leave x is apart = leave_apart state x is apart
obeyed_apart state hand commands.Finalize x is apart = finalize_apart state x is apart
obeyed_apart state hand commands.FinalizeAll x is apart = finalize_all_apart state hand x is apart
obeyed_apart state hand (commands.DropInstance number) x is apart = drop_instance_apart state hand number x is apart
obeyed_apart state hand (commands.SendBegun number at) x is apart = send_begun_apart state hand number x is apart
obeyed_apart state hand (commands.SendEnded number outcome) x is apart =
    send_ended_apart state hand number outcome x is apart
obeyed_apart state hand commands.Tick x is apart = tick_apart state x is apart

entered_apart : (state : State) (entry : Entry) (x : State × Answer) → entered state entry ≡ Ok x
    → HasIdsApart state → KeepsApart state x.0
entered_apart state (Opened opening) x is apart = opened_apart state opening x is apart
entered_apart state (Done hand command) x is apart =
    obeyed_apart state hand command x (then_ok (refused_if (not (is_within_limits command)) BadValue) _ x is).2 apart

pub step_apart : (state next : State) (entry : Entry) (answer : Answer) → HasIdsApart state
    → step state entry ≡ Ok (next, answer) → KeepsApart state next
step_apart state next entry answer apart is =
    let mid = then_ok (entered state entry) _ (next, answer) is in
    came (KeepsApart state) (purged mid.0.0) mid.0.1 (next, answer) mid.2
    (keeps state (purged mid.0.0) (entered_apart state entry mid.0 mid.1 apart).leaves)
