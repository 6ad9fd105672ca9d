-- The open questionnaire is finalized: it becomes an instance with its document and closes, its savepoint is gone, and
-- what it does to an entity list is done. A draft takes the place of the one that it began from; a new questionnaire and an
-- edit get the next number.
use Rattle.std.specs.Prelude.{ℕ, ◌+◌, ◌<◌, nat_lt, nat_le, List, Option, Some, None, Result, Ok, length}
use Rattle.std.specs.Option.{option_and_then}
use Rattle.device_state.specs.declared.entry.OpenEntry.{OpenEntry}
use Rattle.device_state.specs.declared.state.Counters.{Counters}
use Rattle.device_state.specs.declared.state.State.{State}
use Rattle.device_state.specs.Entries.{key_of}
use Rattle.device_state.specs.State.{bare}
use Rattle.entity_lists.specs.declared.entity_list.EntityList.{EntityList}
use Rattle.field_ids.specs.Draws.{NextDraw}
use Rattle.field_text.specs.Steps.{◌>>=◌}
use Rattle.finalizer.specs.declared.finals.Final.{Final}
use Rattle.finalizer.specs.declared.finals.MetaIn.{MetaIn}
use Rattle.finalizer.specs.KeptFinals.{finalized_of}
use Rattle.instance_store.specs.Instances.{instance_limit}
use Rattle.instance_store.specs.declared.records.InstanceRec.{InstanceRec}
use Rattle.instance_store.specs.declared.records.Status.TheVariants.{Finalized}
use Rattle.savepoints.specs.Savepoints.{removed}
use Rattle.savepoints.specs.declared.keys.KeyBase.{KeyBase}
use Rattle.savepoints.specs.declared.keys.KeyBase.TheVariants.{Blank, Draft, Edit}
use Rattle.device_rules.specs.declared.finalize.Finished.{Finished}
use Rattle.device_rules.specs.declared.answer.Answer.TheVariants.{Number}
use Rattle.device_rules.specs.declared.refused.Refused.{Refused}
use Rattle.device_rules.specs.declared.refused.Refused.TheVariants.{Limit}
use Rattle.device_rules.specs.declared.refused.Which.TheVariants.{Counters as TooMany, Instances}
use Rattle.device_rules.specs.declared.save_draft.Named.{Named}
use Rattle.device_rules.specs.Acting.{acted_lists, lists_with}
use Rattle.device_rules.specs.Limits.{most_entries}
use Rattle.device_rules.specs.Refused.{or_not_final}
use Rattle.device_rules.specs.SaveDraft.{counters_after, draft_of, id_of_instance, instances_with, name_of}
use Rattle.device_rules.specs.Start.{instance_of}
use Rattle.device_rules.specs.Tests.{Stepped, Tested, not_full, open_entry, refused_if}

-- three ids are left: the instance's, the entity's and the branch's
abbrev pub has_draws : NextDraw → Tested
has_draws draws = refused_if (nat_lt most_entries (draws.next + 3)) (Limit TooMany most_entries)

-- the id of the instance that this one is an edit of
abbrev pub deprecated_of : State → KeyBase → Option (List ℕ)
deprecated_of state Blank = None
deprecated_of state (Edit number) = id_of_instance state number
deprecated_of state (Draft number) = option_and_then (λ i. i.deprecated) (instance_of state number)

abbrev pub meta_of : State → NextDraw → KeyBase → MetaIn
meta_of state draws base = record { draws = draws; deprecated = deprecated_of state base }

abbrev pub final_of : State → List EntityList → NextDraw → OpenEntry → Result Final Refused
final_of state lists draws entry =
    or_not_final (finalized_of entry.form entry.sheet lists (meta_of state draws entry.base))

-- a new instance may be kept
abbrev pub few_instances : State → KeyBase → Tested
few_instances state (Draft number) = Ok tt
few_instances state base =
    refused_if (nat_le instance_limit (length state.instances.items)) (Limit Instances instance_limit)

-- the instance, which the entry at a position finalized
abbrev pub finalized_at : ℕ → Final → InstanceRec → InstanceRec
finalized_at position final draft = record draft {
  status = Finalized;
  sheet = final.sheet;
  doc = Some final.bytes;
  instance_id = Some final.instance_id;
  final_at = position;
}

abbrev pub finalized_as : State → OpenEntry → Named → Final → InstanceRec
finalized_as state entry name final = finalized_at (state.counters.position + 1) final (draft_of name entry)

abbrev pub drawn_to : NextDraw → Counters → Counters
drawn_to draws counters = record counters { draws = draws }

-- the instance and the list behind its action, with these lists and draws
abbrev pub finish : State → List EntityList → NextDraw → OpenEntry → Result Finished Refused
finish state lists draws entry = do
  enough ← has_draws draws
  final ← final_of state lists draws entry
  few ← few_instances state entry.base
  done ← acted_lists lists final.draws final.action
  Ok (record { last = final; acted = done })

abbrev pub kept_final : State → OpenEntry → Finished → Named → State
kept_final state entry done name = record state {
  counters = drawn_to done.acted.draws (counters_after entry.base state.counters);
  instances = bare (instances_with entry.base (finalized_as state entry name done.last) state.instances.items);
  savepoints = bare (removed (key_of entry) state.savepoints.items);
  lists = bare (lists_with done.acted.list state.lists.items);
  entry = None;
}

abbrev pub finalize : State → Stepped
finalize state = do
  entry ← open_entry state
  done ← finish state state.lists.items state.counters.draws entry
  name ← name_of state entry.base
  room ← not_full state
  Ok (kept_final state entry done name, Number name.number)
