-- Each entry leaves whatever names a form a kept one.
use Rattle.std.proofs.Common.{◌≡◌, ℕ, List, [], Bool, true, Option, Some, None, Result, Ok, Err, refl, ◌∙◌, ap}
use Rattle.std.specs.Prelude.{◌&&◌, ◌+◌, not, option_map}
use Rattle.std.specs.List.{AllByRecursion, list_any}
use Rattle.std.specs.Option.{IfSome}
use Rattle.std.specs.Str.{bytes_eq}
use Rattle.field_text.proofs.StepLemmas.{then_ok}
use Rattle.device_rules.specs.AutoSend.{auto_send}
use Rattle.device_rules.specs.declared.answer.Answer.{Answer}
use Rattle.device_rules.specs.declared.refused.Refused.{Refused}
use Rattle.device_rules.specs.declared.refused.Refused.TheVariants.{BadValue, NoForm}
use Rattle.device_rules.specs.DropForm.{drop_form}
use Rattle.device_rules.specs.DropInstance.{drop_instance}
use Rattle.device_rules.specs.Fill.{fill, filled}
use Rattle.device_rules.specs.Leave.{leave}
use Rattle.device_rules.specs.Limits.{is_within_limits}
use Rattle.device_rules.specs.Holders.{free_for}
use Rattle.device_rules.specs.Load.{form_record, load, load_by, load_read, put_form, read_form}
use Rattle.device_rules.specs.NotBuilt.{not_built}
use Rattle.device_rules.specs.Opened.{is_opening, opened}
use Rattle.device_rules.specs.Refused.{or_form_refused}
use Rattle.device_rules.specs.Release.{release}
use Rattle.device_rules.specs.SaveDraft.{draft_of, name_of, save_draft, saved}
use Rattle.device_rules.specs.SendBegun.{send_begun, sending}
use Rattle.device_rules.specs.SendEnded.{ended_as, is_taken, send_ended, status_after}
use Rattle.device_rules.specs.Step.{entered, obeyed}
use Rattle.device_rules.specs.TakeLock.{take_lock}
use Rattle.device_rules.specs.Tests.{not_full, open_entry, refused_if}
use Rattle.device_rules.specs.Tick.{tick}
use Rattle.device_rules.specs.UpdateMode.{update_mode}
use Rattle.device_state.specs.Changes.{with_sheet}
use Rattle.device_state.specs.declared.entry.OpenEntry.{OpenEntry}
use Rattle.device_state.specs.declared.state.State.{State}
use Rattle.device_state.specs.Entries.{key_of}
use Rattle.device_state.specs.Numbered.{changed_at}
use Rattle.entity_lists.specs.EntityTables.{tables_of}
use Rattle.entry_form.specs.declared.command.Command.{Command}
use Rattle.entry_form.specs.declared.command.Command.TheVariants as commands
use Rattle.entry_form.specs.declared.command.Outcome.{Outcome}
use Rattle.entry_form.specs.declared.entry.Entry.{Entry}
use Rattle.entry_form.specs.declared.entry.Entry.TheVariants.{Opened, Done}
use Rattle.entry_form.specs.declared.entry.Opening.{Opening}
use Rattle.entry_form.specs.declared.hand.Hand.{Hand}
use Rattle.entry_form.specs.declared.hand.Lock.{Lock}
use Rattle.entry_form.specs.declared.hand.Round.{Round}
use Rattle.entry_form.specs.declared.hand.Round.TheVariants as rounds
use Rattle.field_text.specs.declared.mode.Mode.{Mode}
use Rattle.form_read.specs.declared.refusal.FormRefused.{FormRefused as FormFault}
use Rattle.form_store.specs.declared.records.Check.{Check}
use Rattle.form_store.specs.declared.records.Check.TheVariants.{Fresh, Same, OtherBytes, Full}
use Rattle.form_store.specs.declared.records.FormRec.{FormRec}
use Rattle.form_store.specs.Forms.{check, is_shown}
use Rattle.instance_store.specs.Instances.{with_status, with_tried}
use Rattle.instance_store.specs.declared.records.InstanceRec.{InstanceRec}
use Rattle.kept_forms.specs.KeptForms.{id_of, is_form, kept_form, version_of}
use Rattle.savepoints.specs.declared.keys.Key.{Key}
use Rattle.device_laws.specs.Soundness.{AnyByRecursion, HasInstanceForm, HasOpenForm, HasSavepointForm, IsSound}
use Rattle.device_laws.proofs.Changed.{all_changed}
use Rattle.device_laws.proofs.Finals.{all_with, finalize_all_keeps, finalize_keeps, open_kept}
use Rattle.device_laws.proofs.Following.{Follows, came, follows}
use Rattle.device_laws.proofs.Forms.{follow_themselves, hiding_follows, put_follows}
use Rattle.device_laws.proofs.KeptForms.{kept_reads}
use Rattle.device_laws.proofs.Lists.{any_then}
use Rattle.device_laws.proofs.Made.{beginning, dropping, ending, releasing, taking}
use Rattle.device_laws.proofs.Rows.{all_dropped, all_gone, all_gone_on, all_put}
use Rattle.device_laws.proofs.Starts.{start_keeps}

-- ---- settings, ticks and openings

auto_keeps : (state : State) (on : Bool) (x : State × Answer) → auto_send state on ≡ Ok x → IsSound state
    → Follows state x.0
auto_keeps state on x is sound = came (Follows state) _ _ x (then_ok (not_full state) _ x is).2
    (follows state _ sound (follow_themselves state.forms.items) sound.instances sound.savepoints sound.entry)

mode_keeps : (state : State) (mode : Mode) (x : State × Answer) → update_mode state mode ≡ Ok x → IsSound state
    → Follows state x.0
mode_keeps state mode x is sound = came (Follows state) _ _ x (then_ok (not_full state) _ x is).2
    (follows state _ sound (follow_themselves state.forms.items) sound.instances sound.savepoints sound.entry)

tick_keeps : (state : State) (x : State × Answer) → tick state ≡ Ok x → IsSound state → Follows state x.0
tick_keeps state x is sound = came (Follows state) _ _ x (then_ok (not_full state) _ x is).2
    (follows state _ sound (follow_themselves state.forms.items) sound.instances sound.savepoints sound.entry)

opened_keeps : (state : State) (opening : Opening) (x : State × Answer) → opened state opening ≡ Ok x → IsSound state
    → Follows state x.0
opened_keeps state opening x is sound =
    let within = then_ok (refused_if (not (is_opening opening)) BadValue) _ x is in
    came (Follows state) _ _ x (then_ok (not_full state) _ x within.2).2
    (follows state _ sound (follow_themselves state.forms.items) sound.instances sound.savepoints tt)

not_built_keeps : (state : State) (x : State × Answer) → not_built state ≡ Ok x → IsSound state → Follows state x.0
not_built_keeps state x is sound = absurd (cc ((then_ok (not_full state) _ x is).2))

-- ---- forms

form_or : (o : Result (List ℕ) FormFault) (form : List ℕ) → or_form_refused o ≡ Ok form → o ≡ Ok form
form_or (Ok bytes) form is = ap (λ r. back r) is
  where
    back : Result (List ℕ) Refused → Result (List ℕ) FormFault
    back (Ok b) = Ok b
    back (Err w) = Ok []
form_or (Err why) form is = absurd (cc is)

put_keeps : (state : State) (bytes : List ℕ) (x : State × Answer) → is_form bytes ≡ true → put_form state bytes ≡ Ok x
    → IsSound state → Follows state x.0
put_keeps state bytes x reads is sound = came (Follows state) _ _ x (then_ok (not_full state) _ x is).2
    (follows state _ sound
    (put_follows (form_record bytes (state.counters.position + 1)) state.forms.items
    (record { form = reads; id = refl; version = refl }))
    sound.instances sound.savepoints sound.entry)

load_by_keeps : (state : State) (bytes : List ℕ) (met : Check) (x : State × Answer) → is_form bytes ≡ true
    → load_by state bytes met ≡ Ok x → IsSound state → Follows state x.0
load_by_keeps state bytes Fresh x reads is sound = put_keeps state bytes x reads is sound
load_by_keeps state bytes (Same place) x reads is sound = put_keeps state bytes x reads is sound
load_by_keeps state bytes (OtherBytes place) x reads is sound = absurd (cc is)
load_by_keeps state bytes Full x reads is sound = absurd (cc is)

load_read_keeps : (state : State) (bytes : List ℕ) (x : State × Answer) → load_read state bytes ≡ Ok x → IsSound state
    → Follows state x.0
load_read_keeps state bytes x is sound =
    let form = then_ok (read_form bytes) _ x is in
    let reads = kept_reads bytes form.0 (form_or (kept_form bytes) form.0 form.1) in
    load_by_keeps state form.0 (check (id_of form.0) (version_of form.0) form.0 state.forms.items) x
    (ap is_form reads.0 ∙ reads.1) form.2 sound

load_keeps : (state : State) (hand : Hand) (bytes : List ℕ) (x : State × Answer) → load state hand bytes ≡ Ok x
    → IsSound state → Follows state x.0
load_keeps state hand bytes x is sound =
    load_read_keeps state bytes x (then_ok (free_for hand state.locks.forms) _ x is).2 sound

drop_form_keeps : (state : State) (hand : Hand) (id : List ℕ) (x : State × Answer) → drop_form state hand id ≡ Ok x
    → IsSound state → Follows state x.0
drop_form_keeps state hand id x is sound =
    let nobody = then_ok (free_for hand state.locks.forms) _ x is in
    let there = then_ok (refused_if (not (list_any (is_shown id) state.forms.items)) NoForm) _ x nobody.2 in
    came (Follows state) _ _ x (then_ok (not_full state) _ x there.2).2
    (follows state _ sound (hiding_follows id state.forms.items) sound.instances sound.savepoints sound.entry)

-- ---- the open questionnaire

filled_open : (forms : List FormRec) (entry : Option OpenEntry) (sheet : List (List ℕ))
    → IfSome entry (HasOpenForm forms)
    → IfSome (option_map (with_sheet sheet) entry) (HasOpenForm forms)
filled_open forms None sheet has = tt
filled_open forms (Some entry) sheet has = any_then forms (λ r is. record { names = is.names; bytes = is.bytes }) has

-- a savepoint with this key names the record
abbrev key_names : FormRec → Key → Bool
key_names r key = bytes_eq key.form r.id && bytes_eq key.version r.version

fill_keeps : (state : State) (path value : List ℕ) (x : State × Answer) → fill state path value ≡ Ok x → IsSound state
    → Follows state x.0
fill_keeps state path value x is sound =
    let entry = then_ok (open_entry state) _ x is in
    let sheet = then_ok (filled (tables_of state.lists.items) entry.0 path value) _ x entry.2 in
    came (Follows state) _ _ x (then_ok (not_full state) _ x sheet.2).2
    (follows state _ sound (follow_themselves state.forms.items) sound.instances
    (all_put (λ key. AnyByRecursion (λ r. key_names r key ≡ true) state.forms.items) (key_of entry.0) sheet.0
    state.savepoints.items
    (any_then state.forms.items (λ r is. is.names) (open_kept state entry.0 entry.1 sound)) sound.savepoints)
    (filled_open state.forms.items state.entry sheet.0 sound.entry))

leave_keeps : (state : State) (x : State × Answer) → leave state ≡ Ok x → IsSound state → Follows state x.0
leave_keeps state x is sound =
    let entry = then_ok (open_entry state) _ x is in
    came (Follows state) _ _ x (then_ok (not_full state) _ x entry.2).2
    (follows state _ sound (follow_themselves state.forms.items) sound.instances
    (all_gone (HasSavepointForm state.forms.items) (key_of entry.0) state.savepoints.items sound.savepoints) tt)

save_keeps : (state : State) (x : State × Answer) → save_draft state ≡ Ok x → IsSound state → Follows state x.0
save_keeps state x is sound =
    let entry = then_ok (open_entry state) _ x is in
    let name = then_ok (name_of state entry.0.base) _ x entry.2 in
    came (Follows state) (saved state entry.0 name.0) _ x (then_ok (not_full state) _ x name.2).2
    (follows state (saved state entry.0 name.0) sound (follow_themselves state.forms.items)
    (all_with (HasInstanceForm state.forms.items) entry.0.base (draft_of name.0 entry.0) state.instances.items
    (any_then state.forms.items (λ r is. is.names) (open_kept state entry.0 entry.1 sound)) sound.instances)
    (all_gone (HasSavepointForm state.forms.items) (key_of entry.0) state.savepoints.items sound.savepoints) tt)

-- ---- instances

drop_instance_keeps : (state : State) (hand : Hand) (number : ℕ) (x : State × Answer)
    → drop_instance state hand number ≡ Ok x → IsSound state → Follows state x.0
drop_instance_keeps state hand number x is sound =
    came (Follows state) _ _ x (dropping state hand number x is).made
    (follows state _ sound (follow_themselves state.forms.items)
    (all_dropped (HasInstanceForm state.forms.items) number state.instances.items sound.instances)
    (all_gone_on (HasSavepointForm state.forms.items) number state.savepoints.items sound.savepoints) sound.entry)

-- ---- sends

-- with one of the instances changed so, and what no form is named by
sent_sound : (state : State) (f : InstanceRec → InstanceRec) (number : ℕ)
    → ((i : InstanceRec) → HasInstanceForm state.forms.items i → HasInstanceForm state.forms.items (f i))
    → IsSound state
    → AllByRecursion (HasInstanceForm state.forms.items) (changed_at f number state.instances.items)
sent_sound state f number keeps sound =
    all_changed f number (HasInstanceForm state.forms.items) keeps state.instances.items sound.instances

take_lock_keeps : (state : State) (hand : Hand) (round : Round) (x : State × Answer) → take_lock state hand round ≡ Ok x
    → IsSound state → Follows state x.0
take_lock_keeps state hand rounds.Forms x is sound = not_built_keeps state x is sound
take_lock_keeps state hand rounds.Lists x is sound = not_built_keeps state x is sound
take_lock_keeps state hand rounds.Send x is sound = came (Follows state) _ _ x (taking state hand x is).made
    (follows state _ sound (follow_themselves state.forms.items) sound.instances sound.savepoints sound.entry)

release_keeps : (state : State) (hand : Hand) (lock : Lock) (x : State × Answer) → release state hand lock ≡ Ok x
    → IsSound state → Follows state x.0
release_keeps state hand lock x is sound = came (Follows state) _ _ x (releasing state hand lock x is).made
    (follows state _ sound (follow_themselves state.forms.items) sound.instances sound.savepoints sound.entry)

send_begun_keeps : (state : State) (hand : Hand) (number : ℕ) (x : State × Answer) → send_begun state hand number ≡ Ok x
    → IsSound state → Follows state x.0
send_begun_keeps state hand number x is sound =
    came (Follows state) _ _ x (beginning state hand number x is).made
    (follows state (sending state hand number) sound (follow_themselves state.forms.items)
    (sent_sound state (with_tried (state.counters.position + 1)) number (λ i has. has) sound)
    sound.savepoints sound.entry)

send_ended_keeps : (state : State) (hand : Hand) (number : ℕ) (outcome : Outcome) (x : State × Answer)
    → send_ended state hand number outcome ≡ Ok x → IsSound state → Follows state x.0
send_ended_keeps state hand number outcome x is sound =
    came (Follows state) _ _ x (ending state hand number outcome x is).made
    (follows state (ended_as state hand number (is_taken outcome)) sound (follow_themselves state.forms.items)
    (sent_sound state (with_status (status_after (is_taken outcome))) number (λ i has. has) sound)
    sound.savepoints sound.entry)

-- ---- any entry

obeyed_keeps : (state : State) (hand : Hand) (command : Command) (x : State × Answer) → obeyed state hand command ≡ Ok x
    → IsSound state → Follows state x.0
obeyed_keeps state hand (commands.AutoSend on) x is sound = auto_keeps state on x is sound
obeyed_keeps state hand (commands.UpdateMode mode) x is sound = mode_keeps state mode x is sound
obeyed_keeps state hand (commands.TakeLock round) x is sound = take_lock_keeps state hand round x is sound
obeyed_keeps state hand (commands.Release lock) x is sound = release_keeps state hand lock x is sound
obeyed_keeps state hand (commands.Load bytes) x is sound = load_keeps state hand bytes x is sound
obeyed_keeps state hand (commands.Ask id) x is sound = not_built_keeps state x is sound
obeyed_keeps state hand (commands.Fetched job at outcome) x is sound = not_built_keeps state x is sound
obeyed_keeps state hand commands.RoundDone x is sound = not_built_keeps state x is sound
obeyed_keeps state hand (commands.DropForm id) x is sound = drop_form_keeps state hand id x is sound
obeyed_keeps state hand (commands.Start base how) x is sound = start_keeps state base how x is sound
obeyed_keeps state hand (commands.Fill path value) x is sound = fill_keeps state path value x is sound
obeyed_keeps state hand commands.SaveDraft x is sound = save_keeps state x is sound
obeyed_keeps state hand commands.Leave x is sound = leave_keeps state x is sound
obeyed_keeps state hand commands.Finalize x is sound = finalize_keeps state x is sound
obeyed_keeps state hand commands.FinalizeAll x is sound = finalize_all_keeps state hand x is sound
obeyed_keeps state hand (commands.DropInstance number) x is sound = drop_instance_keeps state hand number x is sound
obeyed_keeps state hand (commands.SendBegun number at) x is sound = send_begun_keeps state hand number x is sound
obeyed_keeps state hand (commands.SendEnded number outcome) x is sound =
    send_ended_keeps state hand number outcome x is sound
obeyed_keeps state hand commands.Tick x is sound = tick_keeps state x is sound

pub entered_keeps : (state : State) (entry : Entry) (x : State × Answer) → entered state entry ≡ Ok x → IsSound state
    → Follows state x.0
entered_keeps state (Opened opening) x is sound = opened_keeps state opening x is sound
entered_keeps state (Done hand command) x is sound =
    obeyed_keeps state hand command x (then_ok (refused_if (not (is_within_limits command)) BadValue) _ x is).2 sound
