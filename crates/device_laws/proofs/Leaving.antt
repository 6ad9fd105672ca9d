-- Each entry leaves finalized instances as they are.
use Rattle.std.proofs.Common.{◌≡◌, ℕ, List, Bool, Option, Some, None, Ok, refl, subst}
use Rattle.std.specs.Prelude.{is_some, not, option_map}
use Rattle.std.specs.List.{list_any}
use Rattle.std.specs.Option.{IfSome}
use Rattle.field_text.proofs.StepLemmas.{then_ok}
use Rattle.device_rules.specs.AutoSend.{auto_send}
use Rattle.device_rules.specs.declared.answer.Answer.{Answer}
use Rattle.device_rules.specs.declared.refused.Refused.TheVariants.{BadValue, EntryThere, NoEntry, NoForm}
use Rattle.device_rules.specs.DropForm.{drop_form}
use Rattle.device_rules.specs.DropInstance.{drop_instance}
use Rattle.device_rules.specs.Fill.{fill, filled}
use Rattle.device_rules.specs.Finalize.{finalize, finalized_as, finish, kept_final}
use Rattle.device_rules.specs.FinalizeAll.{batch_of, finalize_all, finalized_all}
use Rattle.device_rules.specs.Leave.{leave}
use Rattle.device_rules.specs.Limits.{is_within_limits}
use Rattle.device_rules.specs.Holders.{free_for}
use Rattle.device_rules.specs.Load.{load, load_by, load_read, put_form, read_form}
use Rattle.device_rules.specs.NotBuilt.{not_built}
use Rattle.device_rules.specs.Opened.{is_opening, opened}
use Rattle.device_rules.specs.Release.{release}
use Rattle.device_rules.specs.SaveDraft.{draft_of, name_of, save_draft, saved}
use Rattle.device_rules.specs.Start.{begun, key_of_source, opened_with, right_status}
use Rattle.device_rules.specs.Start.{savepoint_met, source_of, start}
use Rattle.device_rules.specs.Step.{entered, obeyed}
use Rattle.device_rules.specs.TakeLock.{take_lock}
use Rattle.device_rules.specs.Tests.{not_full, open_entry, refused_if}
use Rattle.device_rules.specs.Tick.{tick}
use Rattle.device_rules.specs.UpdateMode.{update_mode}
use Rattle.device_state.specs.Changes.{with_sheet}
use Rattle.device_state.specs.declared.entry.OpenEntry.{OpenEntry}
use Rattle.device_state.specs.declared.state.State.{State}
use Rattle.device_state.specs.Numbered.{dropped}
use Rattle.entity_lists.specs.EntityTables.{tables_of}
use Rattle.entry_form.specs.declared.command.Base.{Base}
use Rattle.entry_form.specs.declared.command.Command.{Command}
use Rattle.entry_form.specs.declared.command.Command.TheVariants as commands
use Rattle.entry_form.specs.declared.command.How.{How}
use Rattle.entry_form.specs.declared.entry.Entry.{Entry}
use Rattle.entry_form.specs.declared.entry.Entry.TheVariants.{Opened, Done}
use Rattle.entry_form.specs.declared.entry.Opening.{Opening}
use Rattle.entry_form.specs.declared.hand.Hand.{Hand}
use Rattle.entry_form.specs.declared.hand.Lock.{Lock}
use Rattle.entry_form.specs.declared.hand.Round.{Round}
use Rattle.entry_form.specs.declared.hand.Round.TheVariants as rounds
use Rattle.field_text.specs.declared.mode.Mode.{Mode}
use Rattle.form_store.specs.declared.records.Check.{Check}
use Rattle.form_store.specs.declared.records.Check.TheVariants.{Fresh, Same, OtherBytes, Full}
use Rattle.form_store.specs.Forms.{check, is_shown}
use Rattle.instance_store.specs.declared.records.InstanceRec.{InstanceRec}
use Rattle.kept_forms.specs.KeptForms.{id_of, version_of}
use Rattle.device_laws.specs.Finals.{AreOrderly, HasRightBase, IsOrderly, IsQueued, IsSameFinal}
use Rattle.device_laws.proofs.Batches.{batch_leaves}
use Rattle.device_laws.proofs.Following.{came}
use Rattle.device_laws.proofs.Found.{right_base}
use Rattle.device_laws.proofs.Made.{dropping, releasing, taking}
use Rattle.device_laws.proofs.Pins.{LeavesFinals, gone_held, gone_orderly, leaves, not_both, put_orderly, put_pinned}
use Rattle.device_laws.proofs.Pins.{put_sends, queued_no_draft, sends_on}
use Rattle.device_laws.proofs.Sending.{send_begun_leaves, send_ended_leaves}
use Rattle.device_laws.proofs.Starts.{found_some}

-- ---- entries that change no instance

auto_leaves : (state : State) (on : Bool) (x : State × Answer) → auto_send state on ≡ Ok x → IsOrderly state
    → LeavesFinals state x.0
auto_leaves state on x is orderly = came (LeavesFinals state) _ _ x (then_ok (not_full state) _ x is).2
    (leaves state _ orderly.kept orderly.sends (λ i pinned. pinned))

mode_leaves : (state : State) (mode : Mode) (x : State × Answer) → update_mode state mode ≡ Ok x → IsOrderly state
    → LeavesFinals state x.0
mode_leaves state mode x is orderly = came (LeavesFinals state) _ _ x (then_ok (not_full state) _ x is).2
    (leaves state _ orderly.kept orderly.sends (λ i pinned. pinned))

tick_leaves : (state : State) (x : State × Answer) → tick state ≡ Ok x → IsOrderly state → LeavesFinals state x.0
tick_leaves state x is orderly = came (LeavesFinals state) _ _ x (then_ok (not_full state) _ x is).2
    (leaves state _ orderly.kept orderly.sends (λ i pinned. pinned))

not_built_leaves : (state : State) (x : State × Answer) → not_built state ≡ Ok x → LeavesFinals state x.0
not_built_leaves state x is = absurd (cc ((then_ok (not_full state) _ x is).2))

put_leaves : (state : State) (bytes : List ℕ) (x : State × Answer) → put_form state bytes ≡ Ok x → IsOrderly state
    → LeavesFinals state x.0
put_leaves state bytes x is orderly = came (LeavesFinals state) _ _ x (then_ok (not_full state) _ x is).2
    (leaves state _ orderly.kept orderly.sends (λ i pinned. pinned))

load_by_leaves : (state : State) (bytes : List ℕ) (met : Check) (x : State × Answer) → load_by state bytes met ≡ Ok x
    → IsOrderly state → LeavesFinals state x.0
load_by_leaves state bytes Fresh x is orderly = put_leaves state bytes x is orderly
load_by_leaves state bytes (Same place) x is orderly = put_leaves state bytes x is orderly
load_by_leaves state bytes (OtherBytes place) x is orderly = absurd (cc is)
load_by_leaves state bytes Full x is orderly = absurd (cc is)

load_read_leaves : (state : State) (bytes : List ℕ) (x : State × Answer) → load_read state bytes ≡ Ok x
    → IsOrderly state → LeavesFinals state x.0
load_read_leaves state bytes x is orderly =
    let form = then_ok (read_form bytes) _ x is in
    load_by_leaves state form.0 (check (id_of form.0) (version_of form.0) form.0 state.forms.items) x form.2 orderly

load_leaves : (state : State) (hand : Hand) (bytes : List ℕ) (x : State × Answer) → load state hand bytes ≡ Ok x
    → IsOrderly state → LeavesFinals state x.0
load_leaves state hand bytes x is orderly =
    load_read_leaves state bytes x (then_ok (free_for hand state.locks.forms) _ x is).2 orderly

drop_form_leaves : (state : State) (hand : Hand) (id : List ℕ) (x : State × Answer) → drop_form state hand id ≡ Ok x
    → IsOrderly state → LeavesFinals state x.0
drop_form_leaves state hand id x is orderly =
    let nobody = then_ok (free_for hand state.locks.forms) _ x is in
    let there = then_ok (refused_if (not (list_any (is_shown id) state.forms.items)) NoForm) _ x nobody.2 in
    came (LeavesFinals state) _ _ x (then_ok (not_full state) _ x there.2).2
    (leaves state _ orderly.kept orderly.sends (λ i pinned. pinned))

-- ---- the open questionnaire alone

-- with another questionnaire open, which stands on its base rightly
reopened : (state : State) (entry : Option OpenEntry) → IsOrderly state
    → IfSome entry (HasRightBase state.instances.items)
    → AreOrderly state.instances.items state.counters.next_instance entry
reopened state entry orderly base = record { rise = orderly.kept.rise; below = orderly.kept.below; base = base }

opened_leaves : (state : State) (opening : Opening) (x : State × Answer) → opened state opening ≡ Ok x
    → IsOrderly state → LeavesFinals state x.0
opened_leaves state opening x is orderly =
    let within = then_ok (refused_if (not (is_opening opening)) BadValue) _ x is in
    came (LeavesFinals state) _ _ x (then_ok (not_full state) _ x within.2).2
    (leaves state _ (reopened state None orderly tt) (record { differ = tt; queued = tt }) (λ i pinned. pinned))

leave_leaves : (state : State) (x : State × Answer) → leave state ≡ Ok x → IsOrderly state → LeavesFinals state x.0
leave_leaves state x is orderly =
    let entry = then_ok (open_entry state) _ x is in
    came (LeavesFinals state) _ _ x (then_ok (not_full state) _ x entry.2).2
    (leaves state _ (reopened state None orderly tt) orderly.sends (λ i pinned. pinned))

filled_base : (kept : List InstanceRec) (entry : Option OpenEntry) (sheet : List (List ℕ))
    → IfSome entry (HasRightBase kept) → IfSome (option_map (with_sheet sheet) entry) (HasRightBase kept)
filled_base kept None sheet base = tt
filled_base kept (Some entry) sheet base = base

fill_leaves : (state : State) (path value : List ℕ) (x : State × Answer) → fill state path value ≡ Ok x
    → IsOrderly state → LeavesFinals state x.0
fill_leaves state path value x is orderly =
    let entry = then_ok (open_entry state) _ x is in
    let sheet = then_ok (filled (tables_of state.lists.items) entry.0 path value) _ x entry.2 in
    came (LeavesFinals state) _ _ x (then_ok (not_full state) _ x sheet.2).2
    (leaves state _ (reopened state (option_map (with_sheet sheet.0) state.entry) orderly
    (filled_base state.instances.items state.entry sheet.0 orderly.kept.base)) orderly.sends (λ i pinned. pinned))

start_leaves : (state : State) (base : Base) (how : How) (x : State × Answer) → start state base how ≡ Ok x
    → IsOrderly state → LeavesFinals state x.0
start_leaves state base how x is orderly =
    let source = then_ok (source_of state base how) _ x is in
    let with_what = then_ok (begun state how source.0) _ x source.2 in
    let alone = then_ok (refused_if (is_some state.entry) EntryThere) _ with_what.0 with_what.1 in
    let met = then_ok (savepoint_met state how (key_of_source source.0)) _ with_what.0 alone.2 in
    let status = then_ok (right_status state source.0.base) _ with_what.0 met.2 in
    let left = opened_with state source.0 with_what.0.0 with_what.0.1 in
    came (LeavesFinals state) left _ x with_what.2
    (leaves state left
    (reopened state left.entry orderly (right_base state source.0.base status.0 orderly.kept.rise status.1))
    orderly.sends (λ i pinned. pinned))

-- ---- instances

pub open_base : (state : State) (entry : OpenEntry) → open_entry state ≡ Ok entry → IsOrderly state
    → HasRightBase state.instances.items entry
open_base state entry is orderly =
    subst (λ o. IfSome o (HasRightBase state.instances.items)) (found_some state.entry NoEntry entry is) orderly.kept.base

save_leaves : (state : State) (x : State × Answer) → save_draft state ≡ Ok x → IsOrderly state → LeavesFinals state x.0
save_leaves state x is orderly =
    let entry = then_ok (open_entry state) _ x is in
    let name = then_ok (name_of state entry.0.base) _ x entry.2 in
    let left = saved state entry.0 name.0 in
    let item = draft_of name.0 entry.0 in
    came (LeavesFinals state) left _ x (then_ok (not_full state) _ x name.2).2
    (leaves state left (put_orderly state entry.0.base name.0 item name.1 refl orderly)
    (put_sends state name.0 item refl entry.0.base name.1 (open_base state entry.0 entry.1 orderly) orderly)
    (λ i pinned. put_pinned state name.0 item refl entry.0.base i name.1 (open_base state entry.0 entry.1 orderly)
    pinned))

finalize_leaves : (state : State) (x : State × Answer) → finalize state ≡ Ok x → IsOrderly state
    → LeavesFinals state x.0
finalize_leaves state x is orderly =
    let entry = then_ok (open_entry state) _ x is in
    let done = then_ok (finish state state.lists.items state.counters.draws entry.0) _ x entry.2 in
    let name = then_ok (name_of state entry.0.base) _ x done.2 in
    let left = kept_final state entry.0 done.0 name.0 in
    let item = finalized_as state entry.0 name.0 done.0.last in
    came (LeavesFinals state) left _ x (then_ok (not_full state) _ x name.2).2
    (leaves state left (put_orderly state entry.0.base name.0 item name.1 refl orderly)
    (put_sends state name.0 item refl entry.0.base name.1 (open_base state entry.0 entry.1 orderly) orderly)
    (λ i pinned. put_pinned state name.0 item refl entry.0.base i name.1 (open_base state entry.0 entry.1 orderly)
    pinned))

finalize_all_leaves : (state : State) (hand : Hand) (x : State × Answer) → finalize_all state hand ≡ Ok x
    → IsOrderly state → LeavesFinals state x.0
finalize_all_leaves state hand x is orderly =
    let nobody = then_ok (free_for hand state.locks.instances) _ x is in
    came (LeavesFinals state) (finalized_all state (batch_of state)) _ x (then_ok (not_full state) _ x nobody.2).2
    (batch_leaves state orderly)

drop_instance_leaves : (state : State) (hand : Hand) (number : ℕ) (x : State × Answer)
    → drop_instance state hand number ≡ Ok x → IsOrderly state → LeavesFinals state x.0
drop_instance_leaves state hand number x is orderly =
    let kept = state.instances.items in
    let next = state.counters.next_instance in
    came (LeavesFinals state) _ _ x (dropping state hand number x is).made
    (leaves state _ (gone_orderly number kept next state.entry orderly.kept)
    (sends_on kept (dropped number kept) next next state.flights.items
    (λ n under. gone_held n IsQueued queued_no_draft number kept next under) orderly.sends)
    (λ i pinned. gone_held i.number (IsSameFinal i) (not_both i) number kept next pinned))

-- ---- locks

take_lock_leaves : (state : State) (hand : Hand) (round : Round) (x : State × Answer)
    → take_lock state hand round ≡ Ok x → IsOrderly state → LeavesFinals state x.0
take_lock_leaves state hand rounds.Forms x is orderly = not_built_leaves state x is
take_lock_leaves state hand rounds.Lists x is orderly = not_built_leaves state x is
take_lock_leaves state hand rounds.Send x is orderly =
    came (LeavesFinals state) _ _ x (taking state hand x is).made
    (leaves state _ orderly.kept orderly.sends (λ i pinned. pinned))

release_leaves : (state : State) (hand : Hand) (lock : Lock) (x : State × Answer) → release state hand lock ≡ Ok x
    → IsOrderly state → LeavesFinals state x.0
release_leaves state hand lock x is orderly =
    came (LeavesFinals state) _ _ x (releasing state hand lock x is).made
    (leaves state _ orderly.kept orderly.sends (λ i pinned. pinned))

-- ---- any entry

obeyed_leaves : (state : State) (hand : Hand) (command : Command) (x : State × Answer) → obeyed state hand command ≡ Ok x
    → IsOrderly state → LeavesFinals state x.0
obeyed_leaves state hand (commands.AutoSend on) x is orderly = auto_leaves state on x is orderly
obeyed_leaves state hand (commands.UpdateMode mode) x is orderly = mode_leaves state mode x is orderly
obeyed_leaves state hand (commands.TakeLock round) x is orderly = take_lock_leaves state hand round x is orderly
obeyed_leaves state hand (commands.Release lock) x is orderly = release_leaves state hand lock x is orderly
obeyed_leaves state hand (commands.Load bytes) x is orderly = load_leaves state hand bytes x is orderly
obeyed_leaves state hand (commands.Ask id) x is orderly = not_built_leaves state x is
obeyed_leaves state hand (commands.Fetched job at outcome) x is orderly = not_built_leaves state x is
obeyed_leaves state hand commands.RoundDone x is orderly = not_built_leaves state x is
obeyed_leaves state hand (commands.DropForm id) x is orderly = drop_form_leaves state hand id x is orderly
obeyed_leaves state hand (commands.Start base how) x is orderly = start_leaves state base how x is orderly
obeyed_leaves state hand (commands.Fill path value) x is orderly = fill_leaves state path value x is orderly
obeyed_leaves state hand commands.SaveDraft x is orderly = save_leaves state x is orderly
obeyed_leaves state hand commands.Leave x is orderly = leave_leaves state x is orderly
obeyed_leaves state hand commands.Finalize x is orderly = finalize_leaves state x is orderly
obeyed_leaves state hand commands.FinalizeAll x is orderly = finalize_all_leaves state hand x is orderly
obeyed_leaves state hand (commands.DropInstance number) x is orderly =
    drop_instance_leaves state hand number x is orderly
obeyed_leaves state hand (commands.SendBegun number at) x is orderly = send_begun_leaves state hand number x is orderly
obeyed_leaves state hand (commands.SendEnded number outcome) x is orderly =
    send_ended_leaves state hand number outcome x is orderly
obeyed_leaves state hand commands.Tick x is orderly = tick_leaves state x is orderly

pub entered_leaves : (state : State) (entry : Entry) (x : State × Answer) → entered state entry ≡ Ok x
    → IsOrderly state → LeavesFinals state x.0
entered_leaves state (Opened opening) x is orderly = opened_leaves state opening x is orderly
entered_leaves state (Done hand command) x is orderly =
    obeyed_leaves state hand command x (then_ok (refused_if (not (is_within_limits command)) BadValue) _ x is).2 orderly
