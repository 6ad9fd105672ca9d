-- Every draft and invalid instance is finalized by rising number, over the entity lists that those before it leave; where a rule
-- refuses it, it becomes invalid. One that is being filled in, or has a savepoint, stays. No other hand may hold the instances.
use Rattle.std.specs.Prelude.{◌+◌, Bool, not, ◌&&◌, ◌||◌, List, [], ◌∷◌, ◌++◌, length, fold, Result, Ok, Err}
use Rattle.std.specs.List.{filter, list_any}
use Rattle.device_state.specs.declared.entry.OpenEntry.{OpenEntry}
use Rattle.device_state.specs.declared.state.State.{State}
use Rattle.device_state.specs.Numbered.{each_replaced}
use Rattle.device_state.specs.State.{bare, one_further}
use Rattle.entity_lists.specs.declared.entity_list.EntityList.{EntityList}
use Rattle.entry_form.specs.declared.command.Base.TheVariants as bases
use Rattle.entry_form.specs.declared.command.How.TheVariants.{Fresh}
use Rattle.entry_form.specs.declared.hand.Hand.{Hand}
use Rattle.field_ids.specs.Draws.{NextDraw}
use Rattle.field_text.specs.Steps.{◌>>=◌}
use Rattle.instance_store.specs.declared.records.InstanceRec.{InstanceRec}
use Rattle.instance_store.specs.declared.records.Status.{Status}
use Rattle.instance_store.specs.declared.records.Status.TheVariants as status
use Rattle.savepoints.specs.Savepoints.{is_at}
use Rattle.savepoints.specs.declared.keys.Key.{Key}
use Rattle.savepoints.specs.declared.keys.KeyBase.TheVariants as keys
use Rattle.device_rules.specs.declared.answer.Answer.TheVariants.{Bulk}
use Rattle.device_rules.specs.declared.answer.Finalized.{Finalized}
use Rattle.device_rules.specs.declared.finalize_all.Tried.{Tried}
use Rattle.device_rules.specs.declared.refused.Refused.{Refused}
use Rattle.device_rules.specs.Acting.{lists_with}
use Rattle.device_rules.specs.DropInstance.{stands_on}
use Rattle.device_rules.specs.Finalize.{drawn_to, finalized_at, finish}
use Rattle.device_rules.specs.Holders.{free_for}
use Rattle.device_rules.specs.SaveDraft.{draft_of, kept_name}
use Rattle.device_rules.specs.Start.{is_draft, source_of}
use Rattle.device_rules.specs.Tests.{Stepped, not_full}

-- ---- which instances

abbrev pub draft_key : InstanceRec → Key
draft_key instance = record { form = instance.form; version = instance.version; base = keys.Draft instance.number }

-- it is being filled in, or there is a savepoint of it
abbrev pub is_begun : State → InstanceRec → Bool
is_begun state instance =
    stands_on instance.number state.entry || list_any (is_at (draft_key instance)) state.savepoints.items

abbrev pub is_skipped : State → InstanceRec → Bool
is_skipped state instance = is_draft instance.status && is_begun state instance

abbrev pub is_tried : State → InstanceRec → Bool
is_tried state instance = is_draft instance.status && not (is_begun state instance)

-- ---- one instance

-- as it would be opened, with its sheet
abbrev pub draft_entry : State → InstanceRec → Result OpenEntry Refused
draft_entry state instance = do
  source ← source_of state (bases.Draft instance.number) Fresh
  Ok (record { base = source.base; form = source.form; sheet = instance.sheet })

-- the instance as it is finalized with these lists and draws, and what its action leaves
abbrev pub try_entry : State → List EntityList → NextDraw → InstanceRec → OpenEntry → Result Tried Refused
try_entry state lists draws instance entry = do
  done ← finish state lists draws entry
  Ok (record {
    instance = finalized_at (state.counters.position + 1) done.last (draft_of (kept_name instance) entry);
    acted = done.acted;
  })

abbrev pub try_draft : State → List EntityList → NextDraw → InstanceRec → Result Tried Refused
try_draft state lists draws instance = do
  entry ← draft_entry state instance
  try_entry state lists draws instance entry

abbrev pub as_invalid : InstanceRec → InstanceRec
as_invalid instance = record instance { status = status.Invalid }

-- ---- all of them

-- the instances that were changed so far, and the lists and the draws that they left
pub record Batch : Type 0 where
  pub changed : List InstanceRec
  pub lists : List EntityList
  pub draws : NextDraw

abbrev pub with_tried : Batch → InstanceRec → Result Tried Refused → Batch
with_tried batch instance (Ok done) = record {
  changed = batch.changed ++ done.instance ∷ [];
  lists = lists_with done.acted.list batch.lists;
  draws = done.acted.draws;
}
with_tried batch instance (Err why) = record batch { changed = batch.changed ++ as_invalid instance ∷ [] }

abbrev pub after_one : State → Batch → InstanceRec → Batch
after_one state batch instance = with_tried batch instance (try_draft state batch.lists batch.draws instance)

abbrev pub first_batch : State → Batch
first_batch state = record { changed = []; lists = state.lists.items; draws = state.counters.draws }

abbrev pub batch_from : State → Batch → List InstanceRec → Batch
batch_from state batch instances = fold (after_one state) batch (filter (is_tried state) instances)

abbrev pub batch_of : State → Batch
batch_of state = batch_from state (first_batch state) state.instances.items

abbrev pub is_finalized : InstanceRec → Bool
is_finalized instance = not (is_draft instance.status)

abbrev pub is_invalid : InstanceRec → Bool
is_invalid instance = is_draft instance.status

-- how many were finalized, became invalid, and were left
abbrev pub bulk_of : State → Batch → Finalized
bulk_of state batch = record {
  finalized = length (filter is_finalized batch.changed);
  invalid = length (filter is_invalid batch.changed);
  skipped = length (filter (is_skipped state) state.instances.items);
}

abbrev pub finalized_all : State → Batch → State
finalized_all state batch = record state {
  counters = drawn_to batch.draws (one_further state.counters);
  instances = bare (each_replaced batch.changed state.instances.items);
  lists = bare batch.lists;
}

abbrev pub finalize_all : State → Hand → Stepped
finalize_all state hand = do
  nobody ← free_for hand state.locks.instances
  room ← not_full state
  Ok (finalized_all state (batch_of state), Bulk (bulk_of state (batch_of state)))
