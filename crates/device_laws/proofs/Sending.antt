-- Beginning and ending a send leave finalized instances as they are, and what is in flight in the queue.
use Rattle.std.proofs.Common.{◌≡◌, ◌≢◌, ℕ, ◌+◌, ◌<◌, List, [], ◌∷◌, Bool, true, false, Option, Some, None, Ok, refl}
use Rattle.std.proofs.Common.{sym, ◌∙◌, ap, subst}
use Rattle.std.specs.Prelude.{◌&&◌, not, position, remove}
use Rattle.std.specs.List.{AllByRecursion, list_any}
use Rattle.std.specs.Option.{IfSome, option_map_or}
use Rattle.std.proofs.lemmas.Bool.{and_parts}
use Rattle.device_rules.specs.declared.answer.Answer.{Answer}
use Rattle.device_rules.specs.declared.refused.Refused.{Refused}
use Rattle.device_rules.specs.declared.refused.Refused.TheVariants.{NotInFlight, NothingDue, WrongStatus}
use Rattle.device_rules.specs.Due.{is_due, is_for, is_queued, is_resting, is_waiting}
use Rattle.device_rules.specs.FinalizeAll.{is_finalized}
use Rattle.device_rules.specs.SendBegun.{is_early, send_begun, sending}
use Rattle.device_rules.specs.SendEnded.{ended_as, is_taken, send_ended, status_after}
use Rattle.device_rules.specs.Start.{has_status, instance_of}
use Rattle.device_rules.specs.Tests.{refused_if}
use Rattle.device_state.specs.declared.entry.OpenEntry.{OpenEntry}
use Rattle.device_state.specs.declared.flight.Flight.{Flight}
use Rattle.device_state.specs.declared.state.State.{State}
use Rattle.device_state.specs.Flights.{ended, has_flight, is_flight}
use Rattle.device_state.specs.Numbered.{changed_at}
use Rattle.entry_form.specs.declared.command.Outcome.{Outcome}
use Rattle.entry_form.specs.declared.hand.Hand.{Hand}
use Rattle.instance_store.specs.Instances.{with_status, with_tried}
use Rattle.instance_store.specs.declared.records.InstanceRec.{InstanceRec}
use Rattle.instance_store.specs.declared.records.Status.{Status}
use Rattle.instance_store.specs.declared.records.Status.TheVariants as status
use Rattle.savepoints.specs.declared.keys.KeyBase.{KeyBase}
use Rattle.savepoints.specs.declared.keys.KeyBase.TheVariants.{Blank, Draft, Edit}
use Rattle.device_laws.specs.Finals.{AreOrderly, DoDiffer, DoRise, HasRightBase, HoldsUnder, IsOfQueue}
use Rattle.device_laws.specs.Finals.{IsOrderly, IsQueued, IsRightBase, IsSameFinal, numbers_of, sent_numbers}
use Rattle.device_laws.proofs.Changed.{all_changed, all_changed_apart, numbers_changed}
use Rattle.device_laws.proofs.Flights.{begun_differ, ended_differ, first_at, flight_number, not_so, one_passes}
use Rattle.device_laws.proofs.Flights.{others_left}
use Rattle.device_laws.proofs.Following.{came}
use Rattle.device_laws.proofs.Found.{all_numbers, allowed, found_at, one_each}
use Rattle.device_laws.proofs.Lists.{all_among, all_joined, all_removed, all_then, none_passes, one_of}
use Rattle.device_laws.proofs.Made.{IsBeginning, IsEnding, beginning, ending}
use Rattle.device_laws.proofs.Pins.{LeavesFinals, leaves}

-- ---- any change of one instance

module _ (f : InstanceRec → InstanceRec) (number : ℕ) (same : (i : InstanceRec) → (f i).number ≡ i.number) where
  changed_under : (n : ℕ) (P : InstanceRec → Type 0) (kept : List InstanceRec) (next : ℕ)
      → ((i : InstanceRec) → P i → P (f i)) → HoldsUnder n P kept next
      → HoldsUnder n P (changed_at f number kept) next
  changed_under n P kept next keeps under = record {
    below = under.below;
    holds = all_changed f number (λ i. i.number ≡ n → P i)
        (λ i (h : i.number ≡ n → P i) (is : (f i).number ≡ n). keeps i (h (sym (same i) ∙ is))) kept under.holds;
  }

  changed_orderly : (kept : List InstanceRec) (next : ℕ) (entry : Option OpenEntry)
      → IfSome entry (HasRightBase (changed_at f number kept)) → AreOrderly kept next entry
      → AreOrderly (changed_at f number kept) next entry
  changed_orderly kept next entry base orderly = record {
    rise = subst DoRise (sym (numbers_changed f number same kept)) orderly.rise;
    below = subst (AllByRecursion (λ m. m < next)) (sym (numbers_changed f number same kept)) orderly.below;
    base = base;
  }

-- ---- a send is begun

pub passed : (b : Bool) (why : Refused) (t : Unit {0}) → refused_if b why ≡ Ok t → b ≡ false
passed true why t is = absurd (cc is)
passed false why t is = refl

then_due : (a b : Bool) → a ≡ true → (a && not b) ≡ false → b ≡ true
then_due true true is early = refl
then_due true false is early = absurd (cc early)
then_due false b is early = absurd (cc is)

module _ (state : State) (hand : Hand) (number : ℕ) (x : State × Answer) (b : IsBeginning state hand number x) where
  pub is_waiting_there : is_queued b.instance ≡ true
  is_waiting_there = allowed (is_queued b.instance) (WrongStatus b.instance.status) tt b.queued

  is_due_there : is_due state hand b.instance ≡ true
  is_due_there = then_due (is_queued b.instance) (is_due state hand b.instance) is_waiting_there
      (ap (λ o. option_map_or (is_early state hand) o false) (sym b.found)
      ∙ passed (option_map_or (is_early state hand) (instance_of state number) false) NothingDue tt b.due)

  pub number_there : b.instance.number ≡ number
  number_there = (found_at state.instances.items number b.instance b.found).1

  pub none_there : has_flight number state.flights.items ≡ false
  none_there =
      let rests = (and_parts (is_resting state b.instance) (is_for state hand b.instance) is_due_there).0 in
      subst (λ n. has_flight n state.flights.items ≡ false) number_there
      (not_so (has_flight b.instance.number state.flights.items)
      (and_parts (is_queued b.instance) (not (has_flight b.instance.number state.flights.items)) rests).1)

  pub begun_under : IsOrderly state → HoldsUnder number IsQueued state.instances.items state.counters.next_instance
  begun_under orderly =
      let kept = state.instances.items in
      let among = (found_at kept number b.instance b.found).0 in
      record {
        below = subst (λ n. n < state.counters.next_instance) number_there
            (one_of (λ (k : InstanceRec). k.number < state.counters.next_instance) kept b.instance among
            (all_numbers (λ m. m < state.counters.next_instance) kept orderly.kept.below));
        holds = all_then kept (λ (k : InstanceRec) (one : k.number ≡ b.instance.number → k ≡ b.instance)
            (is : k.number ≡ number). ap is_queued (one (is ∙ sym number_there)) ∙ is_waiting_there)
            (one_each kept b.instance orderly.kept.rise among);
      }

tried_base : (position number : ℕ) (kept : List InstanceRec) (entry : Option OpenEntry)
    → IfSome entry (HasRightBase kept)
    → IfSome entry (HasRightBase (changed_at (with_tried position) number kept))
tried_base position number kept None base = tt
tried_base position number kept (Some entry) base =
    all_changed (with_tried position) number (IsRightBase entry.base) (λ i right. right) kept base

tried_same : (position : ℕ) (i k : InstanceRec) → IsSameFinal i k → IsSameFinal i (with_tried position k)
tried_same position i k s = record {
  final = s.final;
  form = s.form;
  version = s.version;
  sheet = s.sheet;
  doc = s.doc;
  instance_id = s.instance_id;
  edit_of = s.edit_of;
  deprecated = s.deprecated;
  final_at = s.final_at;
}

pub send_begun_leaves : (state : State) (hand : Hand) (number : ℕ) (x : State × Answer)
    → send_begun state hand number ≡ Ok x → IsOrderly state → LeavesFinals state x.0
send_begun_leaves state hand number x is orderly =
    let b = beginning state hand number x is in
    let position = state.counters.position + 1 in
    let f = with_tried position in
    let kept = state.instances.items in
    let next = state.counters.next_instance in
    let there = changed_under f number (λ i. refl) in
    came (LeavesFinals state) _ _ x b.made
    (leaves state (sending state hand number)
    (changed_orderly f number (λ i. refl) kept next state.entry
    (tried_base position number kept state.entry orderly.kept.base) orderly.kept)
    (record {
      differ = begun_differ state.flights.items (record { hand = hand; number = number })
          (none_there state hand number x b) orderly.sends.differ;
      queued = all_joined (IsOfQueue (changed_at f number kept) next) state.flights.items
          (record { hand = hand; number = number } ∷ [])
          (all_then state.flights.items (λ (g : Flight) (under : IsOfQueue kept next g).
          there g.number IsQueued kept next (λ i q. q) under) orderly.sends.queued)
          (there number IsQueued kept next (λ i q. q) (begun_under state hand number x b orderly), tt);
    })
    (λ i pinned. there i.number (IsSameFinal i) kept next (λ k s. tried_same position i k s) pinned))

-- ---- a send has ended

-- what an edit may begin from it may still begin from
has_again : (base : KeyBase) (s : Status) (taken : Bool) → has_status base s ≡ true → is_waiting s ≡ true
    → has_status base (status_after taken) ≡ true
has_again Blank s taken has waits = refl
has_again (Edit n) s true has waits = refl
has_again (Edit n) s false has waits = refl
has_again (Draft n) status.Draft taken has waits = absurd (cc waits)
has_again (Draft n) status.Invalid taken has waits = absurd (cc waits)
has_again (Draft n) status.Finalized taken has waits = absurd (cc has)
has_again (Draft n) status.SendFailed taken has waits = absurd (cc has)
has_again (Draft n) status.Sent taken has waits = absurd (cc has)

ended_base : (taken : Bool) (number : ℕ) (kept : List InstanceRec) (entry : Option OpenEntry) → DoRise (numbers_of kept)
    → AllByRecursion (λ (i : InstanceRec). i.number ≡ number → IsQueued i) kept → IfSome entry (HasRightBase kept)
    → IfSome entry (HasRightBase (changed_at (with_status (status_after taken)) number kept))
ended_base taken number kept None rise queued base = tt
ended_base taken number kept (Some entry) rise queued base =
    all_changed_apart (with_status (status_after taken)) number
    (λ i. IsRightBase entry.base i × (i.number ≡ number → IsQueued i)) (IsRightBase entry.base)
    (λ i off both. both.0)
    (λ i here both on. has_again entry.base i.status taken (both.0 on) (both.1 here))
    kept rise
    (all_among kept (λ (i : InstanceRec) among (right : IsRightBase entry.base i).
    (right, one_of (λ (k : InstanceRec). k.number ≡ number → IsQueued k) kept i among queued)) base)

final_again : (taken : Bool) (k : InstanceRec) → is_finalized (with_status (status_after taken) k) ≡ true
final_again true k = refl
final_again false k = refl

ended_same : (taken : Bool) (i k : InstanceRec) → IsSameFinal i k → IsSameFinal i (with_status (status_after taken) k)
ended_same taken i k s = record {
  final = final_again taken k;
  form = s.form;
  version = s.version;
  sheet = s.sheet;
  doc = s.doc;
  instance_id = s.instance_id;
  edit_of = s.edit_of;
  deprecated = s.deprecated;
  final_at = s.final_at;
}

-- the queue has the instances of other numbers as it had
ended_under : (taken : Bool) (number n : ℕ) (kept : List InstanceRec) (next : ℕ) → n ≢ number
    → DoRise (numbers_of kept) → HoldsUnder n IsQueued kept next
    → HoldsUnder n IsQueued (changed_at (with_status (status_after taken)) number kept) next
ended_under taken number n kept next off rise under = record {
  below = under.below;
  holds = all_changed_apart (with_status (status_after taken)) number (λ i. i.number ≡ n → IsQueued i)
      (λ i. i.number ≡ n → IsQueued i) (λ i other h. h)
      (λ i here h is. absurd (off (sym is ∙ here))) kept rise under.holds;
}

module _ (hand : Hand) (number : ℕ) (flights : List Flight) (any : list_any (is_flight hand number) flights ≡ true) where
  -- the instance of a send that ends is in the queue
  pub ends_under : (kept : List InstanceRec) (next : ℕ) → AllByRecursion (IsOfQueue kept next) flights
      → HoldsUnder number IsQueued kept next
  ends_under kept next queued =
      let p = one_passes (is_flight hand number) (IsOfQueue kept next) flights any queued in
      subst (λ n. HoldsUnder n IsQueued kept next) (flight_number hand number p.one p.passes) p.holds

  not_none : position (is_flight hand number) flights ≡ None → ⊥
  not_none is =
      let p = one_passes (is_flight hand number) (λ f. is_flight hand number f ≡ false) flights any
      (none_passes (is_flight hand number) flights is) in
      absurd (cc (sym p.passes ∙ p.holds))

  -- what holds of the sends in flight holds of those that are left, which are of other numbers
  left_at : (o : Option ℕ) → position (is_flight hand number) flights ≡ o → DoDiffer (sent_numbers flights)
      → DoDiffer (sent_numbers (option_map_or (λ place. remove flights place) o flights))
      × AllByRecursion (λ (g : Flight). g.number ≢ number) (option_map_or (λ place. remove flights place) o flights)
  left_at None is differ = absurd (not_none is)
  left_at (Some place) is differ =
      let first = first_at (is_flight hand number) flights place is in (
        ended_differ flights place differ,
        subst (λ n. AllByRecursion (λ (g : Flight). g.number ≢ n) (remove flights place))
            (flight_number hand number first.one first.passes) (others_left flights place first.one first.at differ),
      )

  pub left_differ : DoDiffer (sent_numbers flights) → DoDiffer (sent_numbers (ended hand number flights))
      × AllByRecursion (λ (g : Flight). g.number ≢ number) (ended hand number flights)
  left_differ differ = left_at (position (is_flight hand number) flights) refl differ

  all_left_at : (P : Flight → Type 0) (o : Option ℕ) → AllByRecursion P flights
      → AllByRecursion P (option_map_or (λ place. remove flights place) o flights)
  all_left_at P None all = all
  all_left_at P (Some place) all = all_removed P flights place all

  pub all_left : (P : Flight → Type 0) → AllByRecursion P flights → AllByRecursion P (ended hand number flights)
  all_left P all = all_left_at P (position (is_flight hand number) flights) all

module _ (state : State) (hand : Hand) (number : ℕ) (outcome : Outcome) (x : State × Answer)
    (e : IsEnding state hand number outcome x) where
  pub is_flown : list_any (is_flight hand number) state.flights.items ≡ true
  is_flown = allowed (list_any (is_flight hand number) state.flights.items) NotInFlight tt e.flown

  ended_leaves : IsOrderly state → LeavesFinals state x.0
  ended_leaves orderly =
      let taken = is_taken outcome in
      let f = with_status (status_after taken) in
      let kept = state.instances.items in
      let next = state.counters.next_instance in
      let flights = state.flights.items in
      let under = ends_under hand number flights is_flown kept next orderly.sends.queued in
      let left = left_differ hand number flights is_flown orderly.sends.differ in
      came (LeavesFinals state) _ _ x e.made
      (leaves state (ended_as state hand number taken)
      (changed_orderly f number (λ i. refl) kept next state.entry
      (ended_base taken number kept state.entry orderly.kept.rise under.holds orderly.kept.base) orderly.kept)
      (record {
        differ = left.0;
        queued = all_among (ended hand number flights) (λ (g : Flight) among (q : IsOfQueue kept next g).
            ended_under taken number g.number kept next
            (one_of (λ (h : Flight). h.number ≢ number) (ended hand number flights) g among left.1)
            orderly.kept.rise q)
            (all_left hand number flights is_flown (IsOfQueue kept next) orderly.sends.queued);
      })
      (λ i pinned. changed_under f number (λ k. refl) i.number (IsSameFinal i) kept next
      (λ k s. ended_same taken i k s) pinned))

pub send_ended_leaves : (state : State) (hand : Hand) (number : ℕ) (outcome : Outcome) (x : State × Answer)
    → send_ended state hand number outcome ≡ Ok x → IsOrderly state → LeavesFinals state x.0
send_ended_leaves state hand number outcome x is orderly =
    ended_leaves state hand number outcome x (ending state hand number outcome x is) orderly
