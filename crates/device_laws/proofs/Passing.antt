-- What an entry that is none of a send leaves of the instances as far as sends go: which are sent, and which are kept.
use Rattle.std.proofs.Common.{◌≡◌, ◌≢◌, inl, inr, ℕ, zero, suc, ◌≤◌, List, [], ◌∷◌, ◌++◌, Bool, true, false, cond}
use Rattle.std.proofs.Common.{Option, Some, None, Result, Ok, Err, refl, arith, sym, ◌∙◌, ap, subst}
use Rattle.std.specs.Prelude.{if◌then◌else◌, option_map, remove, slice_get}
use Rattle.std.specs.List.{AllByRecursion, filter, fold}
use Rattle.std.specs.Option.{option_map_or}
use Rattle.std.proofs.lemmas.Option.{same_Some}
use Rattle.field_text.proofs.StepLemmas.{then_ok}
use Rattle.device_rules.specs.Answers.{is_sent}
use Rattle.device_rules.specs.declared.finalize_all.Tried.{Tried}
use Rattle.device_rules.specs.declared.refused.Refused.{Refused}
use Rattle.device_rules.specs.declared.save_draft.Named.{Named}
use Rattle.device_rules.specs.Finalize.{finish}
use Rattle.device_rules.specs.FinalizeAll.{Batch, after_one, as_invalid, batch_from, batch_of, draft_entry, first_batch}
use Rattle.device_rules.specs.FinalizeAll.{is_tried, try_draft, with_tried}
use Rattle.device_rules.specs.SaveDraft.{counters_after, id_of_instance, instances_with, name_of}
use Rattle.device_rules.specs.Start.{is_draft}
use Rattle.device_state.specs.declared.state.Counters.{Counters}
use Rattle.device_state.specs.declared.state.State.{State}
use Rattle.device_state.specs.Numbered.{can_add, dropped}
use Rattle.entry_form.specs.declared.entry.Entry.{Entry}
use Rattle.instance_store.proofs.Places.{place-Some}
use Rattle.instance_store.specs.Instances.{place_of}
use Rattle.instance_store.specs.declared.records.InstanceRec.{InstanceRec}
use Rattle.instance_store.specs.declared.records.Status.{Status}
use Rattle.instance_store.specs.declared.records.Status.TheVariants as status
use Rattle.savepoints.specs.declared.keys.KeyBase.{KeyBase}
use Rattle.savepoints.specs.declared.keys.KeyBase.TheVariants.{Blank, Draft, Edit}
use Rattle.device_laws.specs.Finals.{IsRightBase, numbers_of}
use Rattle.device_laws.specs.Sends.{drops}
use Rattle.device_laws.proofs.Batches.{changed_drafts}
use Rattle.device_laws.proofs.Finals.{all_with}
use Rattle.device_laws.proofs.Lists.{IsAmong, all_among, all_joined, any_front, one_of}
use Rattle.device_laws.proofs.Numbers.{numbers_joined, numbers_replaced}
use Rattle.device_laws.proofs.Pins.{HasDraft, new_number, old_draft}
use Rattle.device_laws.proofs.Starts.{same_okay}

-- sent exactly where g says so of its number
abbrev pub IsSentBy : (ℕ → Bool) → InstanceRec → Type 0
IsSentBy g i = is_sent i ≡ g i.number

-- g holds of no number that isn't given yet
abbrev pub IsOfGiven : ℕ → (ℕ → Bool) → Type 0
IsOfGiven next g = (n : ℕ) → next ≤ n → g n ≡ false

-- the instances that an entry doesn't throw away are kept
abbrev pub KeepsNumbers : Entry → List InstanceRec → List InstanceRec → Type 0
KeepsNumbers entry kept left =
    (n : ℕ) → drops n entry ≡ false → IsAmong (numbers_of kept) n → IsAmong (numbers_of left) n

pub record PassesOn (entry : Entry) (state next : State) : Type 0 where
  pub sent : (g : ℕ → Bool) → IsOfGiven state.counters.next_instance g
      → AllByRecursion (IsSentBy g) state.instances.items → AllByRecursion (IsSentBy g) next.instances.items
  pub kept : KeepsNumbers entry state.instances.items next.instances.items
  pub later : state.counters.next_instance ≤ next.counters.next_instance
  pub flights : next.flights.items ≡ state.flights.items
  pub holder : next.locks.instances ≡ state.locks.instances

-- nothing of this has changed
pub same_passes : (entry : Entry) (state next : State) → next.instances.items ≡ state.instances.items
    → next.counters.next_instance ≡ state.counters.next_instance → next.flights.items ≡ state.flights.items
    → next.locks.instances ≡ state.locks.instances → PassesOn entry state next
same_passes entry state next same number flights holder = record {
  sent = λ g none all. subst (AllByRecursion (IsSentBy g)) (sym same) all;
  kept = λ n off among. subst (λ l. IsAmong (numbers_of l) n) (sym same) among;
  later = omega (arith, number);
  flights = flights;
  holder = holder;
}

-- ---- an instance is put

draft_unsent : (s : Status) (i : InstanceRec) → i.status ≡ s → is_draft s ≡ true → is_sent i ≡ false
draft_unsent status.Draft i is draft = ap (λ t. is_sent (record i { status = t })) is
draft_unsent status.Invalid i is draft = ap (λ t. is_sent (record i { status = t })) is
draft_unsent status.Finalized i is draft = absurd (cc draft)
draft_unsent status.SendFailed i is draft = absurd (cc draft)
draft_unsent status.Sent i is draft = absurd (cc draft)

pub draft_none : (g : ℕ → Bool) (kept : List InstanceRec) (m : ℕ) → HasDraft kept m → AllByRecursion (IsSentBy g) kept
    → g m ≡ false
draft_none g [] m has all = absurd has
draft_none g (k ∷ ks) m (inl d) (here, there) =
    ap g (sym d.same) ∙ sym here ∙ draft_unsent k.status k refl d.draft
draft_none g (k ∷ ks) m (inr has) (here, there) = draft_none g ks m has there

pub later_on : (base : KeyBase) (counters : Counters)
    → counters.next_instance ≤ (counters_after base counters).next_instance
later_on Blank counters = omega arith
later_on (Edit number) counters = omega arith
later_on (Draft number) counters = omega arith

added_by : (b : Bool) (item : InstanceRec) (kept : List InstanceRec) (n : ℕ) → IsAmong (numbers_of kept) n
    → IsAmong (numbers_of (if b then kept ++ item ∷ [] else kept)) n
added_by true item kept n among = subst (λ ns. IsAmong ns n) (sym (numbers_joined kept item))
    (any_front (λ m. m ≡ n) (numbers_of kept) (item.number ∷ []) among)
added_by false item kept n among = among

pub with_among : (base : KeyBase) (item : InstanceRec) (kept : List InstanceRec) (n : ℕ) → IsAmong (numbers_of kept) n
    → IsAmong (numbers_of (instances_with base item kept)) n
with_among Blank item kept n among = added_by (can_add item.number kept) item kept n among
with_among (Edit number) item kept n among = added_by (can_add item.number kept) item kept n among
with_among (Draft number) item kept n among =
    subst (λ ns. IsAmong ns n) (sym (numbers_replaced item kept)) among

module _ (state : State) (name : Named) (item : InstanceRec) (is : item.number ≡ name.number)
    (unsent : is_sent item ≡ false) (g : ℕ → Bool) (none : IsOfGiven state.counters.next_instance g)
    (all : AllByRecursion (IsSentBy g) state.instances.items) where
  new_sent : name.number ≡ state.counters.next_instance → IsSentBy g item
  new_sent new = unsent ∙ sym (none item.number (omega (arith, is, new)))

  pub put_sent : (base : KeyBase) → name_of state base ≡ Ok name
      → AllByRecursion (IsRightBase base) state.instances.items
      → AllByRecursion (IsSentBy g) (instances_with base item state.instances.items)
  put_sent Blank named right = all_with (IsSentBy g) Blank item state.instances.items
      (new_sent (new_number state None None name named)) all
  put_sent (Edit n) named right = all_with (IsSentBy g) (Edit n) item state.instances.items
      (new_sent (new_number state (Some n) (id_of_instance state n) name named)) all
  put_sent (Draft n) named right = all_with (IsSentBy g) (Draft n) item state.instances.items
      (unsent ∙ sym (draft_none g state.instances.items item.number
      (subst (HasDraft state.instances.items) (sym is) (old_draft state n name named right)) all)) all

-- ---- all drafts are finalized

abbrev IsUnsent : InstanceRec → Type 0
IsUnsent i = is_sent i ≡ false

module _ (state : State) where
  outcome_unsent : (batch : Batch) (i : InstanceRec) (r : Result Tried Refused)
      → try_draft state batch.lists batch.draws i ≡ r → AllByRecursion IsUnsent batch.changed
      → AllByRecursion IsUnsent (with_tried batch i r).changed
  outcome_unsent batch i (Ok done) is all =
      let entry = then_ok (draft_entry state i) _ done is in
      let made = then_ok (finish state batch.lists batch.draws entry.0) _ done entry.2 in
      all_joined IsUnsent batch.changed (done.instance ∷ []) all
      (subst (λ (d : Tried). IsUnsent d.instance) (same_okay _ done made.2) refl, tt)
  outcome_unsent batch i (Err why) is all = all_joined IsUnsent batch.changed (as_invalid i ∷ []) all (refl, tt)

  batch_unsent : (instances : List InstanceRec) (batch : Batch) → AllByRecursion IsUnsent batch.changed
      → AllByRecursion IsUnsent (batch_from state batch instances).changed
  batch_unsent [] batch changed = changed
  batch_unsent (i ∷ is) batch changed = by (is_tried state i) (λ next all. batch_unsent is next all)
    where
      by : (b : Bool)
          → ((next : Batch) → AllByRecursion IsUnsent next.changed
          → AllByRecursion IsUnsent (batch_from state next is).changed)
          → AllByRecursion IsUnsent
          (fold (after_one state) batch (cond b (i ∷ filter (is_tried state) is) (filter (is_tried state) is))).changed
      by true rest = rest (after_one state batch i)
          (outcome_unsent batch i (try_draft state batch.lists batch.draws i) refl changed)
      by false rest = rest batch changed

  pub changed_sent : (g : ℕ → Bool) → AllByRecursion (IsSentBy g) state.instances.items
      → AllByRecursion (IsSentBy g) (batch_of state).changed
  changed_sent g all = all_among (batch_of state).changed
      (λ (i : InstanceRec) among (has : HasDraft state.instances.items i.number).
      one_of IsUnsent (batch_of state).changed i among (batch_unsent state.instances.items (first_batch state) tt)
      ∙ sym (draft_none g state.instances.items i.number has all))
      (changed_drafts state)

-- ---- one is gone

removed_among : (kept : List InstanceRec) (place number n : ℕ)
    → option_map (λ (k : InstanceRec). k.number) (slice_get kept place) ≡ Some number → number ≢ n
    → IsAmong (numbers_of kept) n → IsAmong (numbers_of (remove kept place)) n
removed_among [] place number n at off among = absurd among
removed_among (k ∷ ks) zero number n at off (inl here) =
    absurd (off (sym (same_Some k.number number at) ∙ here))
removed_among (k ∷ ks) zero number n at off (inr there) = there
removed_among (k ∷ ks) (suc place) number n at off (inl here) = inl here
removed_among (k ∷ ks) (suc place) number n at off (inr there) = inr (removed_among ks place number n at off there)

dropped_at : (kept : List InstanceRec) (number n : ℕ) (o : Option ℕ) → place_of number kept ≡ o → number ≢ n
    → IsAmong (numbers_of kept) n → IsAmong (numbers_of (option_map_or (λ place. remove kept place) o kept)) n
dropped_at kept number n None is off among = among
dropped_at kept number n (Some place) is off among =
    removed_among kept place number n (place-Some number kept place is).1 off among

pub dropped_among : (kept : List InstanceRec) (number n : ℕ) → number ≢ n → IsAmong (numbers_of kept) n
    → IsAmong (numbers_of (dropped number kept)) n
dropped_among kept number n off among = dropped_at kept number n (place_of number kept) refl off among
