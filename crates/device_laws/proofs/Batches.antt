-- What finalizing all drafts replaces: drafts that no questionnaire stands on.
use Rattle.std.proofs.Common.{◌≡◌, ℕ, List, [], ◌∷◌, Bool, true, false, cond, Option, Some, None, Result, Ok, Err, refl}
use Rattle.std.proofs.Common.{sym, ◌∙◌, ap, subst}
use Rattle.std.specs.Prelude.{◌||◌, not}
use Rattle.std.specs.List.{AllByRecursion, filter, fold, list_any}
use Rattle.std.specs.Option.{IfSome}
use Rattle.std.proofs.lemmas.Bool.{and_parts}
use Rattle.field_text.proofs.StepLemmas.{then_ok}
use Rattle.device_rules.specs.declared.finalize_all.Tried.{Tried}
use Rattle.device_rules.specs.declared.refused.Refused.{Refused}
use Rattle.device_rules.specs.DropInstance.{stands_on}
use Rattle.device_rules.specs.Finalize.{finish}
use Rattle.device_rules.specs.FinalizeAll.{Batch, after_one, as_invalid, batch_from, batch_of, draft_entry, draft_key}
use Rattle.device_rules.specs.FinalizeAll.{finalized_all, first_batch, is_begun, is_tried, try_draft, with_tried}
use Rattle.device_rules.specs.Start.{is_draft}
use Rattle.device_state.specs.declared.entry.OpenEntry.{OpenEntry}
use Rattle.device_state.specs.declared.state.State.{State}
use Rattle.device_state.specs.Numbered.{each_replaced}
use Rattle.instance_store.specs.declared.records.InstanceRec.{InstanceRec}
use Rattle.savepoints.specs.Savepoints.{base_on, is_at}
use Rattle.device_laws.specs.Finals.{HasRightBase, IsOrderly, IsQueued, IsRightBase, IsSameFinal}
use Rattle.device_laws.proofs.Finals.{each_with}
use Rattle.device_laws.proofs.Lists.{all_elements, all_joined, all_then, any_then}
use Rattle.device_laws.proofs.Numbers.{each_below, each_rise}
use Rattle.device_laws.proofs.Pins.{HasDraft, LeavesFinals, each_held, leaves, not_both, queued_no_draft}
use Rattle.device_laws.proofs.Pins.{sends_on}
use Rattle.device_laws.proofs.Starts.{same_okay}

-- ---- which numbers

-- what is asked of the number of each instance that is tried
module _ (state : State) (P : ℕ → Type 0) where
  abbrev HasOf : InstanceRec → Type 0
  HasOf i = P i.number

  abbrev IsIfTried : InstanceRec → Type 0
  IsIfTried i = is_tried state i ≡ true → P i.number

  outcome_has : (batch : Batch) (i : InstanceRec) (r : Result Tried Refused)
      → try_draft state batch.lists batch.draws i ≡ r → P i.number → AllByRecursion HasOf batch.changed
      → AllByRecursion HasOf (with_tried batch i r).changed
  outcome_has batch i (Ok done) is has all =
      let entry = then_ok (draft_entry state i) _ done is in
      let made = then_ok (finish state batch.lists batch.draws entry.0) _ done entry.2 in
      let same : i.number ≡ done.instance.number =
      ap (λ (d : Tried). d.instance.number) (same_okay _ done made.2) in
      all_joined HasOf batch.changed (done.instance ∷ []) all (subst P same has, tt)
  outcome_has batch i (Err why) is has all = all_joined HasOf batch.changed (as_invalid i ∷ []) all (has, tt)

  changed_have : (instances : List InstanceRec) (batch : Batch) → AllByRecursion IsIfTried instances
      → AllByRecursion HasOf batch.changed → AllByRecursion HasOf (batch_from state batch instances).changed
  changed_have [] batch all changed = changed
  changed_have (i ∷ is) batch (here, there) changed =
      by (is_tried state i) refl (λ next all. changed_have is next there all)
    where
      by : (b : Bool) → is_tried state i ≡ b
          → ((next : Batch) → AllByRecursion HasOf next.changed
          → AllByRecursion HasOf (batch_from state next is).changed)
          → AllByRecursion HasOf
          (fold (after_one state) batch (cond b (i ∷ filter (is_tried state) is) (filter (is_tried state) is))).changed
      by true tried rest = rest (after_one state batch i)
          (outcome_has batch i (try_draft state batch.lists batch.draws i) refl (here tried) changed)
      by false tried rest = rest batch changed

  pub all_changed_have : AllByRecursion IsIfTried state.instances.items
      → AllByRecursion (λ (i : InstanceRec). P i.number) (batch_of state).changed
  all_changed_have all = changed_have state.instances.items (first_batch state) all tt

-- ---- drafts

pub changed_drafts : (state : State)
    → AllByRecursion (λ (i : InstanceRec). HasDraft state.instances.items i.number) (batch_of state).changed
changed_drafts state = all_changed_have state (HasDraft state.instances.items)
    (all_elements state.instances.items (λ i among tried. any_then state.instances.items
    (λ (k : InstanceRec) (here : k ≡ i). record {
      same = ap (λ (x : InstanceRec). x.number) here;
      draft = ap (λ (x : InstanceRec). is_draft x.status) here
          ∙ (and_parts (is_draft i.status) (not (is_begun state i)) tried).0;
    }) among))

-- ---- no questionnaire stands on them

first_no : (a b : Bool) → not (a || b) ≡ true → a ≡ false
first_no true b is = absurd (cc is)
first_no false b is = refl

abbrev IsFree : Option OpenEntry → ℕ → Type 0
IsFree entry number = IfSome entry (λ e. base_on number e.base ≡ false)

free_of : (number : ℕ) (entry : Option OpenEntry) → stands_on number entry ≡ false → IsFree entry number
free_of number None is = tt
free_of number (Some entry) is = is

changed_free : (state : State)
    → AllByRecursion (λ (i : InstanceRec). IsFree state.entry i.number) (batch_of state).changed
changed_free state = all_changed_have state (IsFree state.entry)
    (all_elements state.instances.items (λ i among tried. free_of i.number state.entry
    (first_no (stands_on i.number state.entry) (list_any (is_at (draft_key i)) state.savepoints.items)
    (and_parts (is_draft i.status) (not (is_begun state i)) tried).1)))

each_base : (items kept : List InstanceRec) (entry : Option OpenEntry)
    → AllByRecursion (λ (i : InstanceRec). IsFree entry i.number) items → IfSome entry (HasRightBase kept)
    → IfSome entry (HasRightBase (each_replaced items kept))
each_base items kept None free base = tt
each_base items kept (Some entry) free base = each_with (IsRightBase entry.base) items kept
    (all_then items (λ (i : InstanceRec) (off : base_on i.number entry.base ≡ false)
    (on : base_on i.number entry.base ≡ true). absurd (cc (sym off ∙ on))) free) base

pub batch_leaves : (state : State) → IsOrderly state → LeavesFinals state (finalized_all state (batch_of state))
batch_leaves state orderly = leaves state (finalized_all state (batch_of state))
    (record {
      rise = each_rise (batch_of state).changed state.instances.items orderly.kept.rise;
      below = each_below (batch_of state).changed state.instances.items state.counters.next_instance orderly.kept.below;
      base = each_base (batch_of state).changed state.instances.items state.entry (changed_free state) orderly.kept.base;
    })
    (sends_on state.instances.items (each_replaced (batch_of state).changed state.instances.items)
    state.counters.next_instance state.counters.next_instance state.flights.items
    (λ number under. each_held number IsQueued queued_no_draft (batch_of state).changed state.instances.items
    state.counters.next_instance (changed_drafts state) under) orderly.sends)
    (λ i pinned. each_held i.number (IsSameFinal i) (not_both i) (batch_of state).changed state.instances.items
    state.counters.next_instance (changed_drafts state) pinned)
