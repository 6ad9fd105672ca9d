-- The ids of instances while all drafts are finalized.
use Rattle.std.proofs.Common.{◌≡◌, List, [], ◌∷◌, ◌++◌, Bool, true, false, cond, Result, Ok, Err, refl}
use Rattle.std.proofs.Common.{arith, sym, subst}
use Rattle.std.specs.Prelude.{not}
use Rattle.std.specs.List.{AllByRecursion, filter, fold}
use Rattle.std.specs.Option.{IfSome}
use Rattle.std.proofs.lemmas.Bool.{and_parts}
use Rattle.field_text.proofs.StepLemmas.{then_ok}
use Rattle.device_rules.specs.declared.finalize_all.Tried.{Tried}
use Rattle.device_rules.specs.declared.refused.Refused.{Refused}
use Rattle.device_rules.specs.Finalize.{finish}
use Rattle.device_rules.specs.FinalizeAll.{Batch, after_one, as_invalid, batch_from, batch_of, draft_entry}
use Rattle.device_rules.specs.FinalizeAll.{finalized_all, first_batch, is_begun, is_tried, try_draft, with_tried}
use Rattle.device_rules.specs.Start.{is_draft}
use Rattle.device_state.specs.declared.state.State.{State}
use Rattle.device_state.specs.Numbered.{each_replaced, replaced_by}
use Rattle.field_ids.specs.Draws.{NextDraw}
use Rattle.instance_store.specs.declared.records.InstanceRec.{InstanceRec}
use Rattle.device_laws.specs.DrawnIds.{HasIdsApart, HasNoIdYet, IsDrawnFrom}
use Rattle.device_laws.proofs.DrawnIds.{HasNewId, LeavesIds, leaves_itself, leaves_then, put_leaves}
use Rattle.device_laws.proofs.FinalDraws.{finish_draws}
use Rattle.device_laws.proofs.Rows.{all_replaced}
use Rattle.device_laws.proofs.Starts.{same_okay}

each_joined : (items kept : List InstanceRec) (item : InstanceRec)
    → each_replaced (items ++ item ∷ []) kept ≡ replaced_by item (each_replaced items kept)
each_joined [] kept item = refl
each_joined (i ∷ is) kept item = each_joined is (replaced_by i kept) item

module _ (state : State) (apart : HasIdsApart state) where
  -- what the batch leaves so far
  abbrev LeavesSo : Batch → Type 0
  LeavesSo batch = LeavesIds state.instances.items state.counters.draws
      (each_replaced batch.changed state.instances.items) batch.draws

  one_more : (changed : List InstanceRec) (draws after : NextDraw) (item : InstanceRec)
      → LeavesIds state.instances.items state.counters.draws (each_replaced changed state.instances.items) draws
      → LeavesIds (each_replaced changed state.instances.items) draws
      (replaced_by item (each_replaced changed state.instances.items)) after
      → LeavesIds state.instances.items state.counters.draws
      (each_replaced (changed ++ item ∷ []) state.instances.items) after
  one_more changed draws after item so next =
      subst (λ left. LeavesIds state.instances.items state.counters.draws left after)
      (sym (each_joined changed state.instances.items item))
      (leaves_then state.instances.items (each_replaced changed state.instances.items)
      (replaced_by item (each_replaced changed state.instances.items)) state.counters.draws draws after so next)

  outcome_leaves : (batch : Batch) (i : InstanceRec) (r : Result Tried Refused)
      → try_draft state batch.lists batch.draws i ≡ r → is_draft i.status ≡ true → HasNoIdYet i → LeavesSo batch
      → LeavesSo (with_tried batch i r)
  outcome_leaves batch i (Ok done) is draft none so =
      let entry = then_ok (draft_entry state i) _ done is in
      let made = then_ok (finish state batch.lists batch.draws entry.0) _ done entry.2 in
      let draws = finish_draws state batch.lists batch.draws entry.0 made.0 so.apart.range made.1 in
      let kept = each_replaced batch.changed state.instances.items in
      subst (λ (d : Tried). LeavesSo (with_tried batch i (Ok d))) (same_okay _ done made.2)
      (one_more batch.changed batch.draws made.0.acted.draws _ so
      (put_leaves _ kept (replaced_by _ kept) batch.draws made.0.acted.draws so.apart draws.further draws.drawn
      (λ P here all. all_replaced P _ kept here all) draws.range (λ is. absurd (cc is))))
  outcome_leaves batch i (Err why) is draft none so =
      let kept = each_replaced batch.changed state.instances.items in
      let new : HasNewId batch.draws batch.draws (as_invalid i) =
      subst (λ o. IfSome o (IsDrawnFrom batch.draws.next batch.draws.next)) (sym (none draft)) tt in
      one_more batch.changed batch.draws batch.draws (as_invalid i) so
      (put_leaves (as_invalid i) kept (replaced_by (as_invalid i) kept) batch.draws batch.draws so.apart (omega arith)
      new (λ P here all. all_replaced P (as_invalid i) kept here all) so.apart.range (λ is. none draft))

  from_leaves : (instances : List InstanceRec) (batch : Batch) → AllByRecursion HasNoIdYet instances → LeavesSo batch
      → LeavesSo (batch_from state batch instances)
  from_leaves [] batch all so = so
  from_leaves (i ∷ is) batch (here, there) so =
      by (is_tried state i) refl (λ next all. from_leaves is next there all)
    where
      by : (b : Bool) → is_tried state i ≡ b
          → ((next : Batch) → LeavesSo next → LeavesSo (batch_from state next is))
          → LeavesSo
          (fold (after_one state) batch (cond b (i ∷ filter (is_tried state) is) (filter (is_tried state) is)))
      by true tried rest = rest (after_one state batch i)
          (outcome_leaves batch i (try_draft state batch.lists batch.draws i) refl
          (and_parts (is_draft i.status) (not (is_begun state i)) tried).0 here so)
      by false tried rest = rest batch so

  pub batch_leaves_ids : LeavesIds state.instances.items state.counters.draws
      (finalized_all state (batch_of state)).instances.items (batch_of state).draws
  batch_leaves_ids = from_leaves state.instances.items (first_batch state) apart.drafts
      (leaves_itself state.instances.items state.counters.draws apart)
