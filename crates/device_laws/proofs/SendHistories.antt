-- Instances are sent as a history records, over every legal one.
use Rattle.std.proofs.Common.{◌≡◌, ◌≢◌, inl, inr, ℕ, zero, suc, ◌+◌, List, [], ◌∷◌, ◌++◌, Bool, true, false, Some, None, Ok, Err, refl}
use Rattle.std.proofs.Common.{arith, sym, ◌∙◌, ap, subst, append_assoc}
use Rattle.std.specs.Prelude.{if◌then◌else◌, not, option_map}
use Rattle.std.specs.List.{AllByRecursion}
use Rattle.std.specs.Option.{option_and_then}
use Rattle.std.specs.Result.{result_ok}
use Rattle.std.proofs.lemmas.Bool.{and_parts, eqb-true}
use Rattle.std.proofs.lemmas.List.{append-nil}
use Rattle.std.proofs.lemmas.Option.{same_Some}
use Rattle.field_text.proofs.StepLemmas.{then_ok}
use Rattle.change_locks.specs.Locks.{Holders, holder_of, with_holder}
use Rattle.device_rules.specs.declared.answer.Answer.{Answer}
use Rattle.device_rules.specs.declared.refused.Refused.TheVariants.{BadValue, InFlight}
use Rattle.device_rules.specs.Answers.{is_sent}
use Rattle.device_rules.specs.Due.{is_queued}
use Rattle.device_rules.specs.Limits.{is_within_limits}
use Rattle.device_rules.specs.Opened.{is_opening, opened}
use Rattle.device_rules.specs.Release.{release, without_lock}
use Rattle.device_rules.specs.SendBegun.{send_begun, sending}
use Rattle.device_rules.specs.SendEnded.{ended_as, is_taken, send_ended, status_after}
use Rattle.device_rules.specs.Start.{is_draft}
use Rattle.device_rules.specs.Step.{entered, obeyed, step}
use Rattle.device_rules.specs.TakeLock.{take_lock, with_round}
use Rattle.device_rules.specs.Tests.{Stepped, not_full, refused_if}
use Rattle.device_rules.specs.Trail.{replay}
use Rattle.device_state.specs.declared.flight.Flight.{Flight}
use Rattle.device_state.specs.declared.state.State.{State}
use Rattle.device_state.specs.Flights.{ended, has_flight, is_by, is_flight, is_sending}
use Rattle.device_state.specs.Holding.{is_held_by, released}
use Rattle.device_state.specs.Numbered.{changed_at}
use Rattle.device_state.specs.Purging.{purged}
use Rattle.device_state.specs.State.{initial}
use Rattle.entry_form.specs.declared.command.Command.{Command}
use Rattle.entry_form.specs.declared.command.Command.TheVariants as commands
use Rattle.entry_form.specs.declared.command.Outcome.{Outcome}
use Rattle.entry_form.specs.declared.entry.Entry.{Entry}
use Rattle.entry_form.specs.declared.entry.Entry.TheVariants.{Opened, Done}
use Rattle.entry_form.specs.declared.entry.Opening.{Opening}
use Rattle.entry_form.specs.declared.hand.Hand.{Hand}
use Rattle.entry_form.specs.declared.hand.Hand.TheVariants as hands
use Rattle.entry_form.specs.declared.hand.Lock.{Lock}
use Rattle.entry_form.specs.declared.hand.Lock.TheVariants as locks
use Rattle.entry_form.specs.declared.hand.Round.{Round}
use Rattle.entry_form.specs.declared.hand.Round.TheVariants as rounds
use Rattle.entry_form.specs.Hand.{hand_number}
use Rattle.instance_store.specs.Instances.{with_status, with_tried}
use Rattle.instance_store.specs.declared.records.InstanceRec.{InstanceRec}
use Rattle.instance_store.specs.declared.records.Status.{Status}
use Rattle.instance_store.specs.declared.records.Status.TheVariants as status
use Rattle.device_laws.specs.Finals.{IsOfQueue, IsOrIsOther, IsOrderly, IsQueued, StaysFinal, numbers_of}
use Rattle.device_laws.specs.Sends.{HasOneFlightEach, IsFinalOf, IsQueuedAs, IsSentAsRecorded, KeepsSends}
use Rattle.device_laws.specs.Sends.{StaysUnlessDropped, WasBegun, drops, was_taken}
use Rattle.device_laws.specs.Soundness.{AnyByRecursion}
use Rattle.device_laws.proofs.Changed.{all_changed, numbers_changed}
use Rattle.device_laws.proofs.FinalHistories.{finals_stay, initial_orderly}
use Rattle.device_laws.proofs.Flights.{flight_number, none_sent, all_sent, one_passes}
use Rattle.device_laws.proofs.Following.{came}
use Rattle.device_laws.proofs.Found.{found_at}
use Rattle.device_laws.proofs.Leaving.{entered_leaves}
use Rattle.device_laws.proofs.Lists.{IsAmong, all_among, all_elements, all_joined, all_then, one_of}
use Rattle.device_laws.proofs.Made.{beginning, dropping, ending, releasing, taking}
use Rattle.device_laws.proofs.Passing.{KeepsNumbers, PassesOn, same_passes}
use Rattle.device_laws.proofs.SendEntries.{auto_passes, drop_form_passes, drop_instance_passes, fill_passes}
use Rattle.device_laws.proofs.SendEntries.{finalize_all_passes, finalize_passes, leave_passes, load_passes, mode_passes}
use Rattle.device_laws.proofs.SendEntries.{not_built_passes, save_passes, start_passes, tick_passes}
use Rattle.device_laws.proofs.Sending.{all_left, ends_under, is_flown, left_differ, passed}
use Rattle.device_laws.proofs.SendSteps.{IsFlown, IsQuiet, IsRecorded, begun_on, ended_none, ended_sent, ends_no_other}
use Rattle.device_laws.proofs.SendSteps.{holds_now, none_flown, none_of_holder, none_on, other_number, quiet_recorded}
use Rattle.device_laws.proofs.SendSteps.{sent_on}

-- what an entry leaves recorded, and which instances it keeps
record IsStepped (entries : List Entry) (entry : Entry) (state next : State) : Type 0 where
  recorded : IsRecorded (entries ++ entry ∷ []) next
  kept : KeepsNumbers entry state.instances.items next.instances.items

-- where the next state is orderly
abbrev StepsTo : List Entry → Entry → State → State → Type 0
StepsTo entries entry state next = IsOrderly next → IsStepped entries entry state next

-- ---- entries of no send

quietly : (entries : List Entry) (entry : Entry) (state next : State) → IsQuiet entry
    → AllByRecursion (λ (f : Flight). drops f.number entry ≡ false) state.flights.items → PassesOn entry state next
    → IsRecorded entries state → IsOrderly next → IsStepped entries entry state next
quietly entries entry state next quiet stays passes recorded orderly = record {
  recorded = quiet_recorded entries entry state next quiet passes stays recorded orderly;
  kept = passes.kept;
}

-- and which throw no instance away
record IsPlain (entry : Entry) : Type 0 where
  quiet : IsQuiet entry
  no_drop : (n : ℕ) → drops n entry ≡ false

plainly : (entries : List Entry) (entry : Entry) (state next : State) → IsPlain entry → PassesOn entry state next
    → IsRecorded entries state → IsOrderly next → IsStepped entries entry state next
plainly entries entry state next is_plain passes recorded orderly =
    quietly entries entry state next is_plain.quiet
    (all_elements state.flights.items (λ f among. is_plain.no_drop f.number)) passes recorded orderly

quiet_drop : (hand : Hand) (number : ℕ) → IsQuiet (Done hand (commands.DropInstance number))
quiet_drop hand number = record { taken = λ n. refl; ends = λ h n. refl }

drop_stepped : (entries : List Entry) (state : State) (hand : Hand) (number : ℕ) (x : State × Answer)
    → obeyed state hand (commands.DropInstance number) ≡ Ok x → IsRecorded entries state → IsOrderly x.0
    → IsStepped entries (Done hand (commands.DropInstance number)) state x.0
drop_stepped entries state hand number x is recorded orderly =
    let idle = passed (has_flight number state.flights.items) (InFlight number) tt
    (dropping state hand number x is).idle in
    quietly entries (Done hand (commands.DropInstance number)) state x.0 (quiet_drop hand number)
    (all_then state.flights.items (λ (f : Flight) (off : number ≢ f.number). other_number number f.number off)
    (all_sent (λ m. number ≢ m) state.flights.items (none_sent number state.flights.items idle)))
    (drop_instance_passes state hand number x is) recorded orderly

-- ---- openings and locks

opened_stepped : (entries : List Entry) (state : State) (opening : Opening) (x : State × Answer)
    → opened state opening ≡ Ok x → IsRecorded entries state → IsOrderly x.0
    → IsStepped entries (Opened opening) state x.0
opened_stepped entries state opening x is recorded orderly =
    let within = then_ok (refused_if (not (is_opening opening)) BadValue) _ x is in
    came (StepsTo entries (Opened opening) state) _ _ x (then_ok (not_full state) _ x within.2).2
    (λ fine. record {
      recorded = record {
        orderly = fine;
        sent = sent_on entries (Opened opening) (λ n. refl) state.instances.items recorded.sent;
        none = none_on entries (Opened opening) (λ n. refl) state.counters.next_instance state.counters.next_instance
            (omega arith) recorded.none;
        flights = tt;
      };
      kept = λ n off among. among;
    }) orderly

taken_stepped : (entries : List Entry) (state : State) (hand : Hand) (x : State × Answer)
    → take_lock state hand rounds.Send ≡ Ok x → IsRecorded entries state → IsOrderly x.0
    → IsStepped entries (Done hand (commands.TakeLock rounds.Send)) state x.0
taken_stepped entries state hand x is recorded orderly =
    let entry = Done hand (commands.TakeLock rounds.Send) in
    let t = taking state hand x is in
    came (StepsTo entries entry state) (with_round state hand) _ x t.made (λ fine. record {
      recorded = record {
        orderly = fine;
        sent = sent_on entries entry (λ n. refl) state.instances.items recorded.sent;
        none = none_on entries entry (λ n. refl) state.counters.next_instance state.counters.next_instance
            (omega arith) recorded.none;
        flights = none_flown entries state state.flights.items
            (IsFlown (entries ++ entry ∷ []) (with_round state hand)) t.nobody recorded.flights;
      };
      kept = λ n off among. among;
    }) orderly

released_forms : (hand : Hand) (holders : Holders)
    → (released locks.Forms hand holders).instances ≡ holders.instances
released_forms hand holders = by (is_held_by hand (holder_of holders locks.Forms))
  where
    by : (b : Bool) → (if b then with_holder holders locks.Forms None else holders).instances ≡ holders.instances
    by true = refl
    by false = refl

released_stepped : (entries : List Entry) (state : State) (hand : Hand) (lock : Lock) (x : State × Answer)
    → release state hand lock ≡ Ok x → IsRecorded entries state → IsOrderly x.0
    → IsStepped entries (Done hand (commands.Release lock)) state x.0
released_stepped entries state hand locks.Forms x is recorded orderly =
    let entry = Done hand (commands.Release locks.Forms) in
    plainly entries entry state x.0 (record {
      quiet = record { taken = λ n. refl; ends = λ h n. refl };
      no_drop = λ n. refl;
    })
    (came (PassesOn entry state) (without_lock state hand locks.Forms) _ x (releasing state hand locks.Forms x is).made
    (same_passes entry state (without_lock state hand locks.Forms) refl refl refl (released_forms hand state.locks)))
    recorded orderly
released_stepped entries state hand locks.Instances x is recorded orderly =
    let entry = Done hand (commands.Release locks.Instances) in
    let r = releasing state hand locks.Instances x is in
    came (StepsTo entries entry state) (without_lock state hand locks.Instances) _ x r.made (λ fine. record {
      recorded = record {
        orderly = fine;
        sent = sent_on entries entry (λ n. refl) state.instances.items recorded.sent;
        none = none_on entries entry (λ n. refl) state.counters.next_instance state.counters.next_instance
            (omega arith) recorded.none;
        flights = none_of_holder entries state hand state.flights.items
            (IsFlown (entries ++ entry ∷ []) (without_lock state hand locks.Instances)) r.held r.none
            recorded.flights;
      };
      kept = λ n off among. among;
    }) orderly

-- ---- sends

among_numbers : (kept : List InstanceRec) (i : InstanceRec) → IsAmong kept i → IsAmong (numbers_of kept) i.number
among_numbers [] i among = absurd among
among_numbers (k ∷ ks) i (inl here) = inl (ap (λ (x : InstanceRec). x.number) here)
among_numbers (k ∷ ks) i (inr there) = inr (among_numbers ks i there)

changed_among : (f : InstanceRec → InstanceRec) (number : ℕ) (same : (i : InstanceRec) → (f i).number ≡ i.number)
    (kept : List InstanceRec) (n : ℕ) → IsAmong (numbers_of kept) n
    → IsAmong (numbers_of (changed_at f number kept)) n
changed_among f number same kept n among =
    subst (λ ns. IsAmong ns n) (sym (numbers_changed f number same kept)) among

begun_stepped : (entries : List Entry) (state : State) (hand : Hand) (number at : ℕ) (x : State × Answer)
    → send_begun state hand number ≡ Ok x → IsRecorded entries state → IsOrderly x.0
    → IsStepped entries (Done hand (commands.SendBegun number at)) state x.0
begun_stepped entries state hand number at x is recorded orderly =
    let entry = Done hand (commands.SendBegun number at) in
    let b = beginning state hand number x is in
    let f = with_tried (state.counters.position + 1) in
    let kept = state.instances.items in
    let next = sending state hand number in
    let found = found_at kept number b.instance b.found in
    came (StepsTo entries entry state) next _ x b.made (λ fine. record {
      recorded = record {
        orderly = fine;
        sent = all_changed f number _ (λ i s. s) kept (sent_on entries entry (λ n. refl) kept recorded.sent);
        none = none_on entries entry (λ n. refl) state.counters.next_instance state.counters.next_instance
            (omega arith) recorded.none;
        flights = all_joined (IsFlown (entries ++ entry ∷ []) next) state.flights.items
            (record { hand = hand; number = number } ∷ [])
            (all_then state.flights.items (λ (g : Flight) (flown : IsFlown entries state g). record {
              holder = flown.holder;
              kept = changed_among f number (λ i. refl) kept g.number flown.kept;
              begun = begun_on entries entry g.hand g.number refl flown.begun;
            }) recorded.flights) (
              record {
                holder = holds_now hand state.locks.instances b.held;
                kept = changed_among f number (λ i. refl) kept number
                    (subst (IsAmong (numbers_of kept)) found.1 (among_numbers kept b.instance found.0));
                begun = record { before = entries; between = []; at = at; is = refl; unended = refl };
              },
              tt,
            );
      };
      kept = λ n off among. changed_among f number (λ i. refl) kept n among;
    }) orderly

ended_stepped : (entries : List Entry) (state : State) (hand : Hand) (number : ℕ) (outcome : Outcome)
    (x : State × Answer) → send_ended state hand number outcome ≡ Ok x → IsRecorded entries state → IsOrderly x.0
    → IsStepped entries (Done hand (commands.SendEnded number outcome)) state x.0
ended_stepped entries state hand number outcome x is recorded orderly =
    let entry = Done hand (commands.SendEnded number outcome) in
    let e = ending state hand number outcome x is in
    let f = with_status (status_after (is_taken outcome)) in
    let kept = state.instances.items in
    let flights = state.flights.items in
    let next = ended_as state hand number (is_taken outcome) in
    let flown = is_flown state hand number outcome x e in
    let under = ends_under hand number flights flown kept state.counters.next_instance
    recorded.orderly.sends.queued in
    let left = left_differ hand number flights flown recorded.orderly.sends.differ in
    came (StepsTo entries entry state) next _ x e.made (λ fine. record {
      recorded = record {
        orderly = fine;
        sent = ended_sent entries hand number outcome kept recorded.orderly.kept.rise under.holds recorded.sent;
        none = ended_none entries hand number outcome state.counters.next_instance under.below recorded.none;
        flights = all_among (ended hand number flights)
            (λ (g : Flight) among (flies : IsFlown entries state g). record {
              holder = flies.holder;
              kept = changed_among f number (λ i. refl) kept g.number flies.kept;
              begun = begun_on entries entry g.hand g.number (ends_no_other entries hand number outcome g.hand g.number
                  (one_of (λ (h : Flight). h.number ≢ number) (ended hand number flights) g among left.1)) flies.begun;
            })
            (all_left hand number flights flown (IsFlown entries state) recorded.flights);
      };
      kept = λ n off among. changed_among f number (λ i. refl) kept n among;
    }) orderly

-- ---- any entry

module _ (entries : List Entry) (state : State) (hand : Hand) (x : State × Answer) (recorded : IsRecorded entries state)
    (orderly : IsOrderly x.0) where
  abbrev Stepped_by : Command → Type 0
  Stepped_by command = IsStepped entries (Done hand command) state x.0

  simply : (command : Command) → IsPlain (Done hand command) → PassesOn (Done hand command) state x.0
      → Stepped_by command
  simply command is_plain passes = plainly entries (Done hand command) state x.0 is_plain passes recorded orderly

  take_lock_stepped : (round : Round) → take_lock state hand round ≡ Ok x → Stepped_by (commands.TakeLock round)
  take_lock_stepped rounds.Forms is = simply (commands.TakeLock rounds.Forms)
      (record { quiet = record { taken = λ n. refl; ends = λ h n. refl }; no_drop = λ n. refl })
      (not_built_passes _ state x is)
  take_lock_stepped rounds.Lists is = simply (commands.TakeLock rounds.Lists)
      (record { quiet = record { taken = λ n. refl; ends = λ h n. refl }; no_drop = λ n. refl })
      (not_built_passes _ state x is)
  take_lock_stepped rounds.Send is = taken_stepped entries state hand x is recorded orderly

  obeyed_stepped : (command : Command) → obeyed state hand command ≡ Ok x → Stepped_by command
  obeyed_stepped (commands.AutoSend on) is = simply (commands.AutoSend on)
      (record { quiet = record { taken = λ n. refl; ends = λ h n. refl }; no_drop = λ n. refl })
      (auto_passes _ state x on is)
  obeyed_stepped (commands.UpdateMode mode) is = simply (commands.UpdateMode mode)
      (record { quiet = record { taken = λ n. refl; ends = λ h n. refl }; no_drop = λ n. refl })
      (mode_passes _ state x mode is)
  obeyed_stepped (commands.TakeLock round) is = take_lock_stepped round is
  obeyed_stepped (commands.Release lock) is = released_stepped entries state hand lock x is recorded orderly
  obeyed_stepped (commands.Load bytes) is = simply (commands.Load bytes)
      (record { quiet = record { taken = λ n. refl; ends = λ h n. refl }; no_drop = λ n. refl })
      (load_passes _ state x hand bytes is)
  obeyed_stepped (commands.Ask id) is = simply (commands.Ask id)
      (record { quiet = record { taken = λ n. refl; ends = λ h n. refl }; no_drop = λ n. refl })
      (not_built_passes _ state x is)
  obeyed_stepped (commands.Fetched job at outcome) is = simply (commands.Fetched job at outcome)
      (record { quiet = record { taken = λ n. refl; ends = λ h n. refl }; no_drop = λ n. refl })
      (not_built_passes _ state x is)
  obeyed_stepped commands.RoundDone is = simply commands.RoundDone
      (record { quiet = record { taken = λ n. refl; ends = λ h n. refl }; no_drop = λ n. refl })
      (not_built_passes _ state x is)
  obeyed_stepped (commands.DropForm id) is = simply (commands.DropForm id)
      (record { quiet = record { taken = λ n. refl; ends = λ h n. refl }; no_drop = λ n. refl })
      (drop_form_passes _ state x hand id is)
  obeyed_stepped (commands.Start base how) is = simply (commands.Start base how)
      (record { quiet = record { taken = λ n. refl; ends = λ h n. refl }; no_drop = λ n. refl })
      (start_passes _ state x base how is)
  obeyed_stepped (commands.Fill path value) is = simply (commands.Fill path value)
      (record { quiet = record { taken = λ n. refl; ends = λ h n. refl }; no_drop = λ n. refl })
      (fill_passes _ state x path value is)
  obeyed_stepped commands.SaveDraft is = simply commands.SaveDraft
      (record { quiet = record { taken = λ n. refl; ends = λ h n. refl }; no_drop = λ n. refl })
      (save_passes _ state x recorded.orderly is)
  obeyed_stepped commands.Leave is = simply commands.Leave
      (record { quiet = record { taken = λ n. refl; ends = λ h n. refl }; no_drop = λ n. refl })
      (leave_passes _ state x is)
  obeyed_stepped commands.Finalize is = simply commands.Finalize
      (record { quiet = record { taken = λ n. refl; ends = λ h n. refl }; no_drop = λ n. refl })
      (finalize_passes _ state x recorded.orderly is)
  obeyed_stepped commands.FinalizeAll is = simply commands.FinalizeAll
      (record { quiet = record { taken = λ n. refl; ends = λ h n. refl }; no_drop = λ n. refl })
      (finalize_all_passes _ state x hand is)
  obeyed_stepped (commands.DropInstance number) is = drop_stepped entries state hand number x is recorded orderly
  obeyed_stepped (commands.SendBegun number at) is = begun_stepped entries state hand number at x is recorded orderly
  obeyed_stepped (commands.SendEnded number outcome) is =
      ended_stepped entries state hand number outcome x is recorded orderly
  obeyed_stepped commands.Tick is = simply commands.Tick
      (record { quiet = record { taken = λ n. refl; ends = λ h n. refl }; no_drop = λ n. refl })
      (tick_passes _ state x is)

entered_stepped : (entries : List Entry) (state : State) (entry : Entry) (x : State × Answer)
    → entered state entry ≡ Ok x → IsRecorded entries state → IsOrderly x.0 → IsStepped entries entry state x.0
entered_stepped entries state (Opened opening) x is recorded orderly =
    opened_stepped entries state opening x is recorded orderly
entered_stepped entries state (Done hand command) x is recorded orderly =
    obeyed_stepped entries state hand x recorded orderly command
    (then_ok (refused_if (not (is_within_limits command)) BadValue) _ x is).2

-- behind the entry the hidden forms that nothing names are gone
purged_stepped : (entries : List Entry) (entry : Entry) (state next : State) → IsStepped entries entry state next
    → IsStepped entries entry state (purged next)
purged_stepped entries entry state next stepped = record {
  recorded = record {
    orderly = record { kept = stepped.recorded.orderly.kept; sends = stepped.recorded.orderly.sends };
    sent = stepped.recorded.sent;
    none = stepped.recorded.none;
    flights = all_then next.flights.items (λ (f : Flight) (flown : IsFlown (entries ++ entry ∷ []) next f).
        record { holder = flown.holder; kept = flown.kept; begun = flown.begun }) stepped.recorded.flights;
  };
  kept = stepped.kept;
}

step_stepped : (entries : List Entry) (state next : State) (entry : Entry) (answer : Answer) → IsRecorded entries state
    → step state entry ≡ Ok (next, answer) → IsStepped entries entry state next
step_stepped entries state next entry answer recorded is =
    let mid = then_ok (entered state entry) _ (next, answer) is in
    came (IsStepped entries entry state) (purged mid.0.0) mid.0.1 (next, answer) mid.2
    (purged_stepped entries entry state mid.0.0 (entered_stepped entries state entry mid.0 mid.1 recorded
    (entered_leaves state entry mid.0 mid.1 recorded.orderly).orderly))

-- ---- histories

after_one : (before : List Entry) (start state : State) (entry : Entry) (entries : List Entry) (r : Stepped)
    → step start entry ≡ r → IsRecorded before start
    → ((next : State) → IsRecorded (before ++ entry ∷ []) next → replay next entries ≡ Some state
    → IsRecorded ((before ++ entry ∷ []) ++ entries) state)
    → option_and_then (λ next. replay next entries) (option_map (λ (x : State × Answer). x.0) (result_ok r)) ≡ Some state
    → IsRecorded ((before ++ entry ∷ []) ++ entries) state
after_one before start state entry entries (Ok x) is recorded rest reached =
    rest x.0 (step_stepped before start x.0 entry x.1 recorded is).recorded reached
after_one before start state entry entries (Err why) is recorded rest reached = absurd (cc reached)

recorded_on : (entries before : List Entry) (start state : State) → IsRecorded before start
    → replay start entries ≡ Some state → IsRecorded (before ++ entries) state
recorded_on [] before start state recorded reached =
    subst (λ l. IsRecorded l state) (sym (append-nil before))
    (subst (IsRecorded before) (same_Some start state reached) recorded)
recorded_on (entry ∷ entries) before start state recorded reached =
    subst (λ l. IsRecorded l state) (append_assoc before (entry ∷ []) entries)
    (after_one before start state entry entries (step start entry) refl recorded
    (λ next good. recorded_on entries (before ++ entry ∷ []) next state good) reached)

initial_recorded : IsRecorded [] initial
initial_recorded = record { orderly = initial_orderly; sent = tt; none = λ n more. refl; flights = tt }

history_recorded : (entries : List Entry) (state : State) → replay initial entries ≡ Some state
    → IsRecorded entries state
history_recorded entries state reached = recorded_on entries [] initial state initial_recorded reached

-- ---- what is told of it

waits_again : (s : Status) (i : InstanceRec) → i.status ≡ s → not (is_draft s) ≡ true → is_queued i ≡ not (is_sent i)
waits_again status.Draft i is final = absurd (cc final)
waits_again status.Invalid i is final = absurd (cc final)
waits_again status.Finalized i is final =
    ap (λ t. is_queued (record i { status = t })) is ∙ sym (ap (λ t. not (is_sent (record i { status = t }))) is)
waits_again status.SendFailed i is final =
    ap (λ t. is_queued (record i { status = t })) is ∙ sym (ap (λ t. not (is_sent (record i { status = t }))) is)
waits_again status.Sent i is final =
    ap (λ t. is_queued (record i { status = t })) is ∙ sym (ap (λ t. not (is_sent (record i { status = t }))) is)

sent_as_recorded : (entries : List Entry) (i : InstanceRec) → is_sent i ≡ was_taken i.number entries
    → IsSentAsRecorded entries i
sent_as_recorded entries i sent = record {
  sent = sent;
  queued = λ final. waits_again i.status i refl final ∙ ap not sent;
}

any_queued : (kept : List InstanceRec) (n : ℕ) → IsAmong (numbers_of kept) n
    → AllByRecursion (λ (i : InstanceRec). i.number ≡ n → IsQueued i) kept → AnyByRecursion (IsQueuedAs n) kept
any_queued [] n among all = absurd among
any_queued (k ∷ ks) n (inl here) (holds, rest) = inl (record { same = here; queued = holds here })
any_queued (k ∷ ks) n (inr there) (holds, rest) = inr (any_queued ks n there rest)

one_each_of : (entries : List Entry) (state : State) → IsRecorded entries state → HasOneFlightEach state
one_each_of entries state recorded = record {
  differ = recorded.orderly.sends.differ;
  right = all_among state.flights.items (λ (f : Flight) among (flown : IsFlown entries state f). record {
    holder = flown.holder;
    queued = any_queued state.instances.items f.number flown.kept
        (one_of (IsOfQueue state.instances.items state.counters.next_instance) state.flights.items f among
        recorded.orderly.sends.queued).holds;
  }) recorded.flights;
}

abbrev hand_of : ℕ → Hand
hand_of zero = hands.Script
hand_of (suc zero) = hands.Sender
hand_of (suc (suc zero)) = hands.Updater
hand_of (suc (suc (suc n))) = hands.Lister

same_hand : (a b : Hand) → hand_number a ≡ hand_number b → a ≡ b
same_hand a b same = sym (back a) ∙ ap hand_of same ∙ back b
  where
    back : (h : Hand) → hand_of (hand_number h) ≡ h
    back hands.Script = refl
    back hands.Sender = refl
    back hands.Updater = refl
    back hands.Lister = refl

was_begun : (entries : List Entry) (state : State) (hand : Hand) (number : ℕ) (outcome : Outcome) (x : State × Answer)
    → IsRecorded entries state → entered state (Done hand (commands.SendEnded number outcome)) ≡ Ok x
    → WasBegun entries hand number
was_begun entries state hand number outcome x recorded is =
    let command = commands.SendEnded number outcome in
    let e = ending state hand number outcome x
    (then_ok (refused_if (not (is_within_limits command)) BadValue) _ x is).2 in
    let p = one_passes (is_flight hand number) (IsFlown entries state) state.flights.items
    (is_flown state hand number outcome x e) recorded.flights in
    let by = same_hand p.one.hand hand (eqb-true (hand_number p.one.hand) (hand_number hand)
    (and_parts (is_by hand p.one) (is_sending number p.one) p.passes).0) in
    subst (λ h. WasBegun entries h number) by
    (subst (WasBegun entries p.one.hand) (flight_number hand number p.one p.passes) p.holds.begun)

any_final : (kept : List InstanceRec) (i : InstanceRec) → IsAmong (numbers_of kept) i.number
    → AllByRecursion (IsOrIsOther i) kept → AnyByRecursion (IsFinalOf i.number) kept
any_final [] i among all = absurd among
any_final (k ∷ ks) i (inl here) (holds, rest) = inl (record { same = here; final = (holds here).final })
any_final (k ∷ ks) i (inr there) (holds, rest) = inr (any_final ks i there rest)

leads_on : (state next : State) (entry : Entry) (answer : Answer) → step state entry ≡ Ok (next, answer)
    → replay state (entry ∷ []) ≡ Some next
leads_on state next entry answer is =
    ap (λ r. option_and_then (λ s. Some s) (option_map (λ (x : State × Answer). x.0) (result_ok r))) is

stays_kept : (entries : List Entry) (state next : State) (entry : Entry) (answer : Answer) → IsRecorded entries state
    → step state entry ≡ Ok (next, answer) → AllByRecursion (StaysUnlessDropped entry next) state.instances.items
stays_kept entries state next entry answer recorded is =
    let stepped = step_stepped entries state next entry answer recorded is in
    all_among state.instances.items (λ (i : InstanceRec) among (stays : StaysFinal next i) final off.
    any_final next.instances.items i (stepped.kept i.number off (among_numbers state.instances.items i among))
    (stays final))
    (finals_stay (entry ∷ []) state next recorded.orderly (leads_on state next entry answer is))

pub history_keeps_sends : (entries : List Entry) → KeepsSends entries
history_keeps_sends entries = record {
  sent = λ front behind state is reached. all_then state.instances.items (λ i s. sent_as_recorded front i s)
      (history_recorded front state reached).sent;
  begun = λ front behind hand number outcome state next answer is reached steps.
      let mid = then_ok (entered state (Done hand (commands.SendEnded number outcome))) _ (next, answer) steps in
      was_begun front state hand number outcome mid.0 (history_recorded front state reached) mid.1;
  flights = λ front behind state is reached. one_each_of front state (history_recorded front state reached);
  stays = λ front behind entry state next answer is reached steps.
      stays_kept front state next entry answer (history_recorded front state reached) steps;
}
