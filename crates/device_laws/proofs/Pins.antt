-- A finalized instance through each change of the list.
use Rattle.std.proofs.Common.{◌≡◌, inl, inr, ℕ, ◌+◌, List, [], ◌∷◌, true, Option, Some, None, Ok}
use Rattle.std.proofs.Common.{arith, sym, ◌∙◌, ap, subst}
use Rattle.std.specs.Prelude.{length, nat_le, not}
use Rattle.std.specs.List.{AllByRecursion}
use Rattle.std.specs.Option.{IfSome}
use Rattle.field_text.proofs.StepLemmas.{then_ok}
use Rattle.device_rules.specs.declared.refused.Refused.TheVariants.{Limit, NoInstance}
use Rattle.device_rules.specs.declared.refused.Which.TheVariants.{Counters as TooMany, Instances}
use Rattle.device_rules.specs.declared.save_draft.Named.{Named}
use Rattle.device_rules.specs.Due.{is_waiting}
use Rattle.device_rules.specs.Limits.{most_entries}
use Rattle.device_rules.specs.SaveDraft.{counters_after, id_of_instance, instances_with, name_of, new_name, old_name}
use Rattle.device_rules.specs.Start.{instance_of, is_draft}
use Rattle.device_rules.specs.Tests.{found_or, refused_if}
use Rattle.device_state.specs.declared.entry.OpenEntry.{OpenEntry}
use Rattle.device_state.specs.declared.flight.Flight.{Flight}
use Rattle.device_state.specs.declared.state.State.{State}
use Rattle.device_state.specs.Numbered.{added, dropped, each_replaced}
use Rattle.instance_store.specs.Instances.{instance_limit}
use Rattle.instance_store.specs.declared.records.InstanceRec.{InstanceRec}
use Rattle.instance_store.specs.declared.records.Status.{Status}
use Rattle.instance_store.specs.declared.records.Status.TheVariants as status
use Rattle.savepoints.specs.declared.keys.KeyBase.{KeyBase}
use Rattle.savepoints.specs.declared.keys.KeyBase.TheVariants.{Blank, Draft, Edit}
use Rattle.savepoints.specs.Savepoints.{base_on}
use Rattle.device_laws.specs.Finals.{AreOrderly, AreSendsOrderly, HasRightBase, HoldsUnder, IsOfQueue, IsOrderly}
use Rattle.device_laws.specs.Finals.{IsQueued, IsRightBase, IsSameFinal}
use Rattle.device_laws.specs.Soundness.{AnyByRecursion}
use Rattle.device_laws.proofs.Finals.{each_with}
use Rattle.device_laws.proofs.Found.{found_at}
use Rattle.device_laws.proofs.Lists.{all_then, any_then, one_of}
use Rattle.device_laws.proofs.Numbers.{added_orderly, dropped_below, dropped_rise, each_below, each_rise}
use Rattle.device_laws.proofs.Rows.{all_added, all_dropped}
use Rattle.device_laws.proofs.Starts.{found_some, same_okay}

abbrev pub IsPinned : InstanceRec → List InstanceRec → ℕ → Type 0
IsPinned i kept next = HoldsUnder i.number (IsSameFinal i) kept next

abbrev pub IsPinnedIn : State → InstanceRec → Type 0
IsPinnedIn state i = IsPinned i state.instances.items state.counters.next_instance

-- the state behind is orderly, and each instance that is pinned to its number is so there too
pub record LeavesFinals (state next : State) : Type 0 where
  pub orderly : IsOrderly next
  pub pins : (i : InstanceRec) → IsPinnedIn state i → IsPinnedIn next i

pub leaves : (state next : State) → AreOrderly next.instances.items next.counters.next_instance next.entry
    → AreSendsOrderly next.instances.items next.counters.next_instance next.flights.items
    → ((i : InstanceRec) → IsPinnedIn state i → IsPinnedIn next i) → LeavesFinals state next
leaves state next kept sends pins = record { orderly = record { kept = kept; sends = sends }; pins = pins }

-- sends are orderly where the queue has what it had
pub sends_on : (kept left : List InstanceRec) (next after : ℕ) (flights : List Flight)
    → ((number : ℕ) → HoldsUnder number IsQueued kept next → HoldsUnder number IsQueued left after)
    → AreSendsOrderly kept next flights → AreSendsOrderly left after flights
sends_on kept left next after flights stays sends = record {
  differ = sends.differ;
  queued = all_then flights (λ (f : Flight) (holds : IsOfQueue kept next f). stays f.number holds) sends.queued;
}

-- ---- drafts alone are replaced

-- a draft of this number is kept
pub record IsDraftOf (number : ℕ) (k : InstanceRec) : Type 0 where
  pub same : k.number ≡ number
  pub draft : is_draft k.status ≡ true

abbrev pub HasDraft : List InstanceRec → ℕ → Type 0
HasDraft kept number = AnyByRecursion (IsDraftOf number) kept

-- what never holds of a draft
abbrev pub IsOfNoDraft : (InstanceRec → Type 0) → Type 0
IsOfNoDraft P = (k : InstanceRec) → is_draft k.status ≡ true → P k → ⊥

pub not_both : (i : InstanceRec) → IsOfNoDraft (IsSameFinal i)
not_both i k draft same = absurd (cc (sym (ap not draft) ∙ same.final))

waiting_no_draft : (s : Status) → is_draft s ≡ true → is_waiting s ≡ true → ⊥
waiting_no_draft status.Draft draft waits = absurd (cc waits)
waiting_no_draft status.Invalid draft waits = absurd (cc waits)
waiting_no_draft status.Finalized draft waits = absurd (cc draft)
waiting_no_draft status.SendFailed draft waits = absurd (cc draft)
waiting_no_draft status.Sent draft waits = absurd (cc draft)

pub queued_no_draft : IsOfNoDraft IsQueued
queued_no_draft k draft queued = waiting_no_draft k.status draft queued

module _ (number : ℕ) (P : InstanceRec → Type 0) (no_draft : IsOfNoDraft P) where
  abbrev IsIf : InstanceRec → Type 0
  IsIf k = k.number ≡ number → P k

  not_held : (m : ℕ) (kept : List InstanceRec) → HasDraft kept m → AllByRecursion IsIf kept → m ≡ number → ⊥
  not_held m [] has all is = absurd has
  not_held m (k ∷ ks) (inl draft) (here, there) is = no_draft k draft.draft (here (draft.same ∙ is))
  not_held m (k ∷ ks) (inr has) (here, there) is = not_held m ks has there is

  pub each_held : (items kept : List InstanceRec) (next : ℕ)
      → AllByRecursion (λ (item : InstanceRec). HasDraft kept item.number) items → HoldsUnder number P kept next
      → HoldsUnder number P (each_replaced items kept) next
  each_held items kept next drafts under = record {
    below = under.below;
    holds = each_with IsIf items kept
        (all_then items (λ (item : InstanceRec) (has : HasDraft kept item.number) (is : item.number ≡ number).
        absurd (not_held item.number kept has under.holds is)) drafts) under.holds;
  }

  pub gone_held : (m : ℕ) (kept : List InstanceRec) (next : ℕ) → HoldsUnder number P kept next
      → HoldsUnder number P (dropped m kept) next
  gone_held m kept next under = record { below = under.below; holds = all_dropped IsIf m kept under.holds }

  pub new_held : (item : InstanceRec) (kept : List InstanceRec) (next : ℕ) → item.number ≡ next
      → HoldsUnder number P kept next → HoldsUnder number P (added item kept) (next + 1)
  new_held item kept next is under = record {
    below = omega (arith, under.below);
    holds = all_added IsIf item kept
        (λ (same : item.number ≡ number). absurd (omega (arith, under.below, is, same))) under.holds;
  }

-- ---- one is gone

gone_base : (number : ℕ) (kept : List InstanceRec) (entry : Option OpenEntry) → IfSome entry (HasRightBase kept)
    → IfSome entry (HasRightBase (dropped number kept))
gone_base number kept None base = tt
gone_base number kept (Some entry) base = all_dropped (IsRightBase entry.base) number kept base

pub gone_orderly : (number : ℕ) (kept : List InstanceRec) (next : ℕ) (entry : Option OpenEntry)
    → AreOrderly kept next entry → AreOrderly (dropped number kept) next entry
gone_orderly number kept next entry orderly = record {
  rise = dropped_rise number kept orderly.rise;
  below = dropped_below number kept next orderly.below;
  base = gone_base number kept entry orderly.base;
}

-- ---- what the open questionnaire becomes

pub new_number : (state : State) (edit_of : Option ℕ) (deprecated : Option (List ℕ)) (name : Named)
    → new_name state edit_of deprecated ≡ Ok name → name.number ≡ state.counters.next_instance
new_number state edit_of deprecated name is =
    let few = then_ok (refused_if (nat_le instance_limit (length state.instances.items))
    (Limit Instances instance_limit)) _ name is in
    let numbers = then_ok (refused_if (nat_le most_entries state.counters.next_instance)
    (Limit TooMany most_entries)) _ name few.2 in
    sym (ap (λ (n : Named). n.number) (same_okay _ name numbers.2))

pub old_draft : (state : State) (number : ℕ) (name : Named) → old_name state number ≡ Ok name
    → AllByRecursion (IsRightBase (Draft number)) state.instances.items → HasDraft state.instances.items name.number
old_draft state number name is right =
    let there = then_ok (found_or (instance_of state number) NoInstance) _ name is in
    let found = found_at state.instances.items number there.0
    (found_some (instance_of state number) NoInstance there.0 there.1) in
    let same : there.0.number ≡ name.number = ap (λ (n : Named). n.number) (same_okay _ name there.2) in
    let on : base_on there.0.number (Draft number) ≡ true = on_itself there.0.number number found.1 in
    let draft = one_of (IsRightBase (Draft number)) state.instances.items there.0 found.0 right on in
    any_then state.instances.items (λ (k : InstanceRec) (here : k ≡ there.0). record {
      same = ap (λ (x : InstanceRec). x.number) here ∙ same;
      draft = ap (λ (x : InstanceRec). is_draft x.status) here ∙ draft;
    }) found.0
  where
    on_itself : (n number : ℕ) → n ≡ number → base_on n (Draft number) ≡ true
    on_itself n number same = grind (arith, same)

-- the item is put under its name
module _ (state : State) (name : Named) (item : InstanceRec) (is : item.number ≡ name.number) where
  put_held : (base : KeyBase) (number : ℕ) (P : InstanceRec → Type 0) → IsOfNoDraft P → name_of state base ≡ Ok name
      → AllByRecursion (IsRightBase base) state.instances.items
      → HoldsUnder number P state.instances.items state.counters.next_instance
      → HoldsUnder number P (instances_with base item state.instances.items)
      (counters_after base state.counters).next_instance
  put_held Blank number P no_draft named right under =
      new_held number P no_draft item state.instances.items state.counters.next_instance
      (is ∙ new_number state None None name named) under
  put_held (Edit n) number P no_draft named right under =
      new_held number P no_draft item state.instances.items state.counters.next_instance
      (is ∙ new_number state (Some n) (id_of_instance state n) name named) under
  put_held (Draft n) number P no_draft named right under =
      each_held number P no_draft (item ∷ []) state.instances.items state.counters.next_instance
      (subst (HasDraft state.instances.items) (sym is) (old_draft state n name named right), tt) under

  pub put_sends : (base : KeyBase) → name_of state base ≡ Ok name
      → AllByRecursion (IsRightBase base) state.instances.items → IsOrderly state
      → AreSendsOrderly (instances_with base item state.instances.items)
      (counters_after base state.counters).next_instance state.flights.items
  put_sends base named right orderly =
      sends_on state.instances.items (instances_with base item state.instances.items) state.counters.next_instance
      (counters_after base state.counters).next_instance state.flights.items
      (λ number under. put_held base number IsQueued queued_no_draft named right under) orderly.sends

  pub put_pinned : (base : KeyBase) (i : InstanceRec) → name_of state base ≡ Ok name
      → AllByRecursion (IsRightBase base) state.instances.items → IsPinnedIn state i
      → IsPinned i (instances_with base item state.instances.items) (counters_after base state.counters).next_instance
  put_pinned base i named right pinned = put_held base i.number (IsSameFinal i) (not_both i) named right pinned

pub put_orderly : (state : State) (base : KeyBase) (name : Named) (item : InstanceRec) → name_of state base ≡ Ok name
    → item.number ≡ name.number → IsOrderly state
    → AreOrderly (instances_with base item state.instances.items)
    (counters_after base state.counters).next_instance None
put_orderly state Blank name item named is orderly =
    added_orderly item state.instances.items state.counters.next_instance state.entry
    (is ∙ new_number state None None name named) orderly.kept
put_orderly state (Edit number) name item named is orderly =
    added_orderly item state.instances.items state.counters.next_instance state.entry
    (is ∙ new_number state (Some number) (id_of_instance state number) name named) orderly.kept
put_orderly state (Draft number) name item named is orderly = record {
  rise = each_rise (item ∷ []) state.instances.items orderly.kept.rise;
  below = each_below (item ∷ []) state.instances.items state.counters.next_instance orderly.kept.below;
  base = tt;
}
