-- What finalizing leaves names a kept form, as what it began from did.
use Rattle.std.proofs.Common.{◌≡◌, List, [], ◌∷◌, Bool, true, false, cond, Result, Ok, Err, refl}
use Rattle.std.proofs.Common.{ap, subst}
use Rattle.std.specs.List.{AllByRecursion, filter, fold}
use Rattle.std.specs.Option.{IfSome}
use Rattle.field_text.proofs.StepLemmas.{then_ok}
use Rattle.field_ids.specs.Draws.{NextDraw}
use Rattle.device_rules.specs.declared.answer.Answer.{Answer}
use Rattle.device_rules.specs.declared.finalize_all.Tried.{Tried}
use Rattle.device_rules.specs.declared.refused.Refused.{Refused}
use Rattle.device_rules.specs.declared.refused.Refused.TheVariants.{NoEntry}
use Rattle.device_rules.specs.Finalize.{finalize, finalized_as, finish, kept_final}
use Rattle.device_rules.specs.FinalizeAll.{Batch, after_one, as_invalid, batch_from, batch_of, draft_entry}
use Rattle.device_rules.specs.FinalizeAll.{finalize_all, finalized_all, first_batch, is_tried, try_draft, with_tried}
use Rattle.device_rules.specs.Holders.{free_for}
use Rattle.device_rules.specs.SaveDraft.{instances_with, name_of}
use Rattle.device_rules.specs.Start.{source_of}
use Rattle.device_rules.specs.Tests.{not_full, open_entry}
use Rattle.device_state.specs.declared.entry.OpenEntry.{OpenEntry}
use Rattle.device_state.specs.declared.state.State.{State}
use Rattle.device_state.specs.Entries.{key_of}
use Rattle.device_state.specs.Numbered.{each_replaced, replaced_by}
use Rattle.entity_lists.specs.declared.entity_list.EntityList.{EntityList}
use Rattle.entry_form.specs.declared.command.Base.TheVariants as bases
use Rattle.entry_form.specs.declared.command.How.TheVariants.{Fresh}
use Rattle.entry_form.specs.declared.hand.Hand.{Hand}
use Rattle.instance_store.specs.declared.records.InstanceRec.{InstanceRec}
use Rattle.savepoints.specs.declared.keys.KeyBase.{KeyBase}
use Rattle.savepoints.specs.declared.keys.KeyBase.TheVariants.{Blank, Draft, Edit}
use Rattle.device_laws.specs.Soundness.{HasInstanceForm, HasOpenForm, HasSavepointForm, IsSound}
use Rattle.device_laws.proofs.Following.{Follows, came, follows}
use Rattle.device_laws.proofs.Forms.{follow_themselves}
use Rattle.device_laws.proofs.Lists.{all_joined, any_then}
use Rattle.device_laws.proofs.Rows.{all_added, all_gone, all_replaced}
use Rattle.device_laws.proofs.Starts.{found_some, same_okay, source_kept}

-- ---- one instance

-- the form of the open questionnaire is kept
pub open_kept : (state : State) (entry : OpenEntry) → open_entry state ≡ Ok entry → IsSound state
    → HasOpenForm state.forms.items entry
open_kept state entry is sound =
    subst (λ o. IfSome o (HasOpenForm state.forms.items)) (found_some state.entry NoEntry entry is) sound.entry

pub all_with : (P : InstanceRec → Type 0) (base : KeyBase) (item : InstanceRec) (kept : List InstanceRec) → P item
    → AllByRecursion P kept → AllByRecursion P (instances_with base item kept)
all_with P Blank item kept holds all = all_added P item kept holds all
all_with P (Edit number) item kept holds all = all_added P item kept holds all
all_with P (Draft number) item kept holds all = all_replaced P item kept holds all

pub finalize_keeps : (state : State) (x : State × Answer) → finalize state ≡ Ok x → IsSound state → Follows state x.0
finalize_keeps state x is sound =
    let entry = then_ok (open_entry state) _ x is in
    let done = then_ok (finish state state.lists.items state.counters.draws entry.0) _ x entry.2 in
    let name = then_ok (name_of state entry.0.base) _ x done.2 in
    let left = kept_final state entry.0 done.0 name.0 in
    came (Follows state) left _ x (then_ok (not_full state) _ x name.2).2
    (follows state left sound (follow_themselves state.forms.items)
    (all_with (HasInstanceForm state.forms.items) entry.0.base (finalized_as state entry.0 name.0 done.0.last)
    state.instances.items
    (any_then state.forms.items (λ r is. is.names) (open_kept state entry.0 entry.1 sound)) sound.instances)
    (all_gone (HasSavepointForm state.forms.items) (key_of entry.0) state.savepoints.items sound.savepoints) tt)

-- ---- all drafts

module _ (state : State) (sound : IsSound state) where
  abbrev IsNamed : InstanceRec → Type 0
  IsNamed = HasInstanceForm state.forms.items

  draft_kept : (instance : InstanceRec) (entry : OpenEntry) → draft_entry state instance ≡ Ok entry
      → HasOpenForm state.forms.items entry
  draft_kept instance entry is =
      let source = then_ok (source_of state (bases.Draft instance.number) Fresh) _ entry is in
      source_kept state (bases.Draft instance.number) Fresh source.0 entry source.1 sound.read
      (ap (λ (e : OpenEntry). e.form) (same_okay _ entry source.2))

  tried_named : (lists : List EntityList) (draws : NextDraw) (instance : InstanceRec) (done : Tried)
      → try_draft state lists draws instance ≡ Ok done → IsNamed done.instance
  tried_named lists draws instance done is =
      let entry = then_ok (draft_entry state instance) _ done is in
      let made = then_ok (finish state lists draws entry.0) _ done entry.2 in
      subst (λ (d : Tried). IsNamed d.instance) (same_okay _ done made.2)
      (any_then state.forms.items (λ r is. is.names) (draft_kept instance entry.0 entry.1))

  outcome_named : (batch : Batch) (instance : InstanceRec) (r : Result Tried Refused)
      → try_draft state batch.lists batch.draws instance ≡ r → IsNamed instance → AllByRecursion IsNamed batch.changed
      → AllByRecursion IsNamed (with_tried batch instance r).changed
  outcome_named batch instance (Ok done) is named all =
      all_joined IsNamed batch.changed (done.instance ∷ []) all
      (tried_named batch.lists batch.draws instance done is, tt)
  outcome_named batch instance (Err why) is named all =
      all_joined IsNamed batch.changed (as_invalid instance ∷ []) all (named, tt)

  batch_named : (instances : List InstanceRec) (batch : Batch) → AllByRecursion IsNamed instances
      → AllByRecursion IsNamed batch.changed → AllByRecursion IsNamed (batch_from state batch instances).changed
  batch_named [] batch all changed = changed
  batch_named (i ∷ is) batch (here, there) changed =
      by (is_tried state i) (λ next all. batch_named is next there all)
    where
      by : (b : Bool)
          → ((next : Batch) → AllByRecursion IsNamed next.changed
          → AllByRecursion IsNamed (batch_from state next is).changed)
          → AllByRecursion IsNamed
          (fold (after_one state) batch (cond b (i ∷ filter (is_tried state) is) (filter (is_tried state) is))).changed
      by true rest = rest (after_one state batch i)
          (outcome_named batch i (try_draft state batch.lists batch.draws i) refl here changed)
      by false rest = rest batch changed

pub each_with : (P : InstanceRec → Type 0) (items kept : List InstanceRec) → AllByRecursion P items
    → AllByRecursion P kept → AllByRecursion P (each_replaced items kept)
each_with P [] kept all others = others
each_with P (item ∷ items) kept (here, there) others =
    each_with P items (replaced_by item kept) there (all_replaced P item kept here others)

pub finalize_all_keeps : (state : State) (hand : Hand) (x : State × Answer) → finalize_all state hand ≡ Ok x
    → IsSound state → Follows state x.0
finalize_all_keeps state hand x is sound =
    let nobody = then_ok (free_for hand state.locks.instances) _ x is in
    let left = finalized_all state (batch_of state) in
    came (Follows state) left _ x (then_ok (not_full state) _ x nobody.2).2
    (follows state left sound (follow_themselves state.forms.items)
    (each_with (HasInstanceForm state.forms.items) (batch_of state).changed state.instances.items
    (batch_named state sound state.instances.items (first_batch state) sound.instances tt) sound.instances)
    sound.savepoints sound.entry)
