-- Each entry leaves the instances sent as the entries record, and each send in flight as one that was begun.
use Rattle.std.proofs.Common.{◌≡◌, ◌≢◌, ℕ, ◌<◌, ◌≤◌, List, [], ◌∷◌, ◌++◌, Bool, true, false, Option, Some, None, Ok, refl}
use Rattle.std.proofs.Common.{arith, sym, ◌∙◌, ap, subst, append_assoc}
use Rattle.std.specs.Prelude.{◌==◌, ◌||◌, ◌&&◌, cond, fold, min, not}
use Rattle.std.specs.List.{AllByRecursion, filter, list_any}
use Rattle.std.proofs.lemmas.Bool.{eqb-true}
use Rattle.std.proofs.lemmas.Bool.Decides.{nat_tests}
use Rattle.std.proofs.lemmas.List.Folds.{list_any-append}
use Rattle.change_locks.specs.declared.held.Held.{Held}
use Rattle.device_rules.specs.declared.refused.Refused.TheVariants.{NotHolder}
use Rattle.device_rules.specs.Answers.{is_sent}
use Rattle.device_rules.specs.Due.{is_queued, is_waiting}
use Rattle.device_rules.specs.Holders.{free, held_by}
use Rattle.device_rules.specs.Release.{least_by, lesser, none_left}
use Rattle.device_rules.specs.SendEnded.{is_taken, status_after}
use Rattle.device_rules.specs.Tests.{refused_if}
use Rattle.device_state.specs.declared.flight.Flight.{Flight}
use Rattle.device_state.specs.declared.state.State.{State}
use Rattle.device_state.specs.Flights.{is_by}
use Rattle.device_state.specs.Holding.{is_held_by}
use Rattle.device_state.specs.Numbered.{changed_at}
use Rattle.entry_form.specs.declared.command.Command.TheVariants as commands
use Rattle.entry_form.specs.declared.command.Outcome.{Outcome}
use Rattle.entry_form.specs.declared.entry.Entry.{Entry}
use Rattle.entry_form.specs.declared.entry.Entry.TheVariants.{Done}
use Rattle.entry_form.specs.declared.hand.Hand.{Hand}
use Rattle.entry_form.specs.Hand.{hand_number}
use Rattle.instance_store.specs.Instances.{with_status}
use Rattle.instance_store.specs.declared.records.InstanceRec.{InstanceRec}
use Rattle.instance_store.specs.declared.records.Status.{Status}
use Rattle.instance_store.specs.declared.records.Status.TheVariants as status
use Rattle.device_laws.specs.Finals.{DoRise, IsOrderly, IsQueued, numbers_of}
use Rattle.device_laws.specs.Sends.{WasBegun, drops, ends_send, records_taken, was_taken}
use Rattle.device_laws.proofs.Changed.{all_changed_apart}
use Rattle.device_laws.proofs.Lists.{IsAmong, all_among, all_then, one_of}
use Rattle.device_laws.proofs.Passing.{IsSentBy, PassesOn}

-- ---- what is kept from entry to entry

-- the hand holds the instances, has begun the send, and the instance is kept
pub record IsFlown (entries : List Entry) (state : State) (f : Flight) : Type 0 where
  pub holder : is_held_by f.hand state.locks.instances ≡ true
  pub kept : IsAmong (numbers_of state.instances.items) f.number
  pub begun : WasBegun entries f.hand f.number

abbrev pub is_taken_in : List Entry → ℕ → Bool
is_taken_in entries n = was_taken n entries

pub record IsRecorded (entries : List Entry) (state : State) : Type 0 where
  pub orderly : IsOrderly state
  pub sent : AllByRecursion (IsSentBy (is_taken_in entries)) state.instances.items
  pub none : (n : ℕ) → state.counters.next_instance ≤ n → was_taken n entries ≡ false
  pub flights : AllByRecursion (IsFlown entries state) state.flights.items

-- ---- one entry more

or_nothing : (b : Bool) → (b || (false || false)) ≡ b
or_nothing true = refl
or_nothing false = refl

any_on : (test : Entry → Bool) (entries : List Entry) (entry : Entry) → test entry ≡ false
    → list_any test (entries ++ entry ∷ []) ≡ list_any test entries
any_on test entries entry fails = list_any-append test entries (entry ∷ [])
    ∙ ap (λ b. list_any test entries || (b || false)) fails ∙ or_nothing (list_any test entries)

pub begun_on : (entries : List Entry) (entry : Entry) (hand : Hand) (n : ℕ) → ends_send hand n entry ≡ false
    → WasBegun entries hand n → WasBegun (entries ++ entry ∷ []) hand n
begun_on entries entry hand n no_end b = record {
  before = b.before;
  between = b.between ++ entry ∷ [];
  at = b.at;
  is = ap (λ l. l ++ entry ∷ []) b.is
      ∙ append_assoc b.before (Done hand (commands.SendBegun n b.at) ∷ b.between) (entry ∷ []);
  unended = any_on (ends_send hand n) b.between entry no_end ∙ b.unended;
}

-- ---- an entry of no send

-- it records no reply, and ends no send
pub record IsQuiet (entry : Entry) : Type 0 where
  pub taken : (n : ℕ) → records_taken n entry ≡ false
  pub ends : (hand : Hand) (n : ℕ) → ends_send hand n entry ≡ false

module _ (entries : List Entry) (entry : Entry) (taken : (n : ℕ) → records_taken n entry ≡ false) where
  taken_on : (n : ℕ) → was_taken n (entries ++ entry ∷ []) ≡ was_taken n entries
  taken_on n = any_on (records_taken n) entries entry (taken n)

  -- what is sent as these entries record is so as one more records
  pub sent_on : (instances : List InstanceRec) → AllByRecursion (IsSentBy (is_taken_in entries)) instances
      → AllByRecursion (IsSentBy (is_taken_in (entries ++ entry ∷ []))) instances
  sent_on instances all =
      all_then instances (λ i (s : IsSentBy (is_taken_in entries) i). s ∙ sym (taken_on i.number)) all

  pub none_on : (next later : ℕ) → next ≤ later → ((n : ℕ) → next ≤ n → was_taken n entries ≡ false) → (n : ℕ)
      → later ≤ n → was_taken n (entries ++ entry ∷ []) ≡ false
  none_on next later le none n more = taken_on n ∙ none n (omega (arith, le, more))

pub quiet_recorded : (entries : List Entry) (entry : Entry) (state next : State) → IsQuiet entry
    → PassesOn entry state next
    → AllByRecursion (λ (f : Flight). drops f.number entry ≡ false) state.flights.items → IsRecorded entries state
    → IsOrderly next → IsRecorded (entries ++ entry ∷ []) next
quiet_recorded entries entry state next quiet passes stays recorded orderly = record {
  orderly = orderly;
  sent = sent_on entries entry quiet.taken next.instances.items
      (passes.sent (is_taken_in entries) recorded.none recorded.sent);
  none = none_on entries entry quiet.taken state.counters.next_instance next.counters.next_instance passes.later
      recorded.none;
  flights = subst (AllByRecursion (IsFlown (entries ++ entry ∷ []) next)) (sym passes.flights)
      (all_among state.flights.items (λ (f : Flight) among (flown : IsFlown entries state f). record {
        holder = ap (is_held_by f.hand) passes.holder ∙ flown.holder;
        kept = passes.kept f.number (one_of (λ (g : Flight). drops g.number entry ≡ false) state.flights.items f among
            stays) flown.kept;
        begun = begun_on entries entry f.hand f.number (quiet.ends f.hand f.number) flown.begun;
      }) recorded.flights);
}

-- ---- a lock is taken and given back

free_of : (holder : Option Held) → free holder ≡ Ok tt → holder ≡ None
free_of None is = refl
free_of (Some held) is = absurd (cc is)

pub holds_now : (hand : Hand) (holder : Option Held) → held_by hand holder ≡ Ok tt → is_held_by hand holder ≡ true
holds_now hand holder is = by (is_held_by hand holder) is
  where
    by : (b : Bool) → refused_if (not b) (NotHolder holder) ≡ Ok tt → b ≡ true
    by true is = refl
    by false is = absurd (cc is)

-- nothing is in flight where nobody holds the instances
pub none_flown : (entries : List Entry) (state : State) (flights : List Flight) (Q : Flight → Type 0)
    → free state.locks.instances ≡ Ok tt → AllByRecursion (IsFlown entries state) flights → AllByRecursion Q flights
none_flown entries state flights Q nobody all = all_then flights
    (λ (f : Flight) (flown : IsFlown entries state f). absurd (cc (sym (ap (is_held_by f.hand)
    (free_of state.locks.instances nobody)) ∙ flown.holder))) all

some_stays : (n : ℕ) (flights : List Flight) → fold lesser (Some n) flights ≡ None → ⊥
some_stays n [] is = absurd (cc is)
some_stays n (f ∷ fs) is = some_stays (min n f.number) fs is

not_by : (hand : Hand) (flights : List Flight) → least_by hand flights ≡ None
    → AllByRecursion (λ (f : Flight). is_by hand f ≡ false) flights
not_by hand [] is = tt
not_by hand (f ∷ fs) is = by (is_by hand f) refl (λ less. not_by hand fs less) is
  where
    by : (b : Bool) → is_by hand f ≡ b
        → (least_by hand fs ≡ None → AllByRecursion (λ (g : Flight). is_by hand g ≡ false) fs)
        → fold lesser None (cond b (f ∷ filter (is_by hand) fs) (filter (is_by hand) fs)) ≡ None
        → AllByRecursion (λ (g : Flight). is_by hand g ≡ false) (f ∷ fs)
    by true here rest is = absurd (some_stays f.number (filter (is_by hand) fs) is)
    by false here rest is = (here, rest is)

none_so : (o : Option ℕ) → none_left o ≡ Ok tt → o ≡ None
none_so None is = refl
none_so (Some n) is = absurd (cc is)

same_holder : (hand other : Hand) (holder : Option Held) → is_held_by hand holder ≡ true
    → is_held_by other holder ≡ true → (hand_number other == hand_number hand) ≡ true
same_holder hand other None is so = absurd (cc is)
same_holder hand other (Some held) is so =
    let one = eqb-true (hand_number held.hand) (hand_number hand) is in
    let two = eqb-true (hand_number held.hand) (hand_number other) so in
    grind (arith, nat_tests, one, two)

-- nothing is in flight where the holder has nothing in flight
pub none_of_holder : (entries : List Entry) (state : State) (hand : Hand) (flights : List Flight) (Q : Flight → Type 0)
    → held_by hand state.locks.instances ≡ Ok tt → none_left (least_by hand flights) ≡ Ok tt
    → AllByRecursion (IsFlown entries state) flights → AllByRecursion Q flights
none_of_holder entries state hand flights Q held none all = all_among flights
    (λ (f : Flight) among (flown : IsFlown entries state f).
    absurd (cc (sym (one_of (λ (g : Flight). is_by hand g ≡ false) flights f among
    (not_by hand flights (none_so (least_by hand flights) none)))
    ∙ same_holder hand f.hand state.locks.instances (holds_now hand state.locks.instances held) flown.holder))) all

-- ---- a send ends

pub other_number : (m n : ℕ) → m ≢ n → (m == n) ≡ false
other_number m n off = by (m == n) refl
  where
    by : (b : Bool) → (m == n) ≡ b → (m == n) ≡ false
    by true is = absurd (off (eqb-true m n is))
    by false is = is

same_test : (m n : ℕ) → n ≡ m → (m == n) ≡ true
same_test m n same = grind (arith, nat_tests, same)

waiting_unsent : (s : Status) (i : InstanceRec) → i.status ≡ s → is_waiting s ≡ true → is_sent i ≡ false
waiting_unsent status.Draft i is waits = absurd (cc waits)
waiting_unsent status.Invalid i is waits = absurd (cc waits)
waiting_unsent status.Finalized i is waits = ap (λ t. is_sent (record i { status = t })) is
waiting_unsent status.SendFailed i is waits = ap (λ t. is_sent (record i { status = t })) is
waiting_unsent status.Sent i is waits = absurd (cc waits)

sent_after : (taken : Bool) (i : InstanceRec) → is_sent (with_status (status_after taken) i) ≡ taken
sent_after true i = refl
sent_after false i = refl

last_alone : (a b c : Bool) → a ≡ false → b ≡ true → (a || ((b && c) || false)) ≡ c
last_alone false true true first second = refl
last_alone false true false first second = refl
last_alone true b c first second = absurd (cc first)
last_alone false false c first second = absurd (cc second)

module _ (entries : List Entry) (hand : Hand) (number : ℕ) (outcome : Outcome) where
  abbrev last : Entry
  last = Done hand (commands.SendEnded number outcome)

  others_taken : (n : ℕ) → number ≢ n → was_taken n (entries ++ last ∷ []) ≡ was_taken n entries
  others_taken n off = any_on (records_taken n) entries last
      (ap (λ b. b && is_taken outcome) (other_number number n off))

  taken_now : (i : InstanceRec) → i.number ≡ number → is_sent i ≡ was_taken i.number entries → is_queued i ≡ true
      → is_taken outcome ≡ was_taken i.number (entries ++ last ∷ [])
  taken_now i here sent queued = sym (list_any-append (records_taken i.number) entries (last ∷ [])
      ∙ last_alone (was_taken i.number entries) (number == i.number) (is_taken outcome)
      (sym sent ∙ waiting_unsent i.status i refl queued) (same_test number i.number here))

  pub ended_sent : (kept : List InstanceRec) (rises : DoRise (numbers_of kept))
      → AllByRecursion (λ (i : InstanceRec). i.number ≡ number → IsQueued i) kept
      → AllByRecursion (IsSentBy (is_taken_in entries)) kept
      → AllByRecursion (IsSentBy (is_taken_in (entries ++ last ∷ [])))
      (changed_at (with_status (status_after (is_taken outcome))) number kept)
  ended_sent kept rises queued all = all_changed_apart (with_status (status_after (is_taken outcome))) number
      (λ i. IsSentBy (is_taken_in entries) i × (i.number ≡ number → IsQueued i))
      (IsSentBy (is_taken_in (entries ++ last ∷ [])))
      (λ i off both. both.0 ∙ sym (others_taken i.number (λ same. off (sym same))))
      (λ i here both. sent_after (is_taken outcome) i ∙ taken_now i here both.0 (both.1 here))
      kept rises
      (all_among kept (λ (i : InstanceRec) among (s : IsSentBy (is_taken_in entries) i).
      (s, one_of (λ (k : InstanceRec). k.number ≡ number → IsQueued k) kept i among queued)) all)

  pub ended_none : (next : ℕ) → number < next → ((n : ℕ) → next ≤ n → was_taken n entries ≡ false) → (n : ℕ)
      → next ≤ n → was_taken n (entries ++ last ∷ []) ≡ false
  ended_none next below none n le = others_taken n (λ same. omega (arith, below, le, same)) ∙ none n le

  -- it ends no send of another instance
  pub ends_no_other : (other : Hand) (n : ℕ) → n ≢ number → ends_send other n last ≡ false
  ends_no_other other n off = by (hand_number hand == hand_number other)
    where
      by : (b : Bool) → (b && (number == n)) ≡ false
      by true = other_number number n (λ same. off (sym same))
      by false = refl
