-- The open questionnaire is kept as a draft and closed, and its savepoint is gone. A draft takes the place of the one that
-- it began from; a new questionnaire and an edit get the next number.
use Rattle.std.specs.Prelude.{ℕ, ◌<◌, nat_le, List, Option, Some, None, Result, Ok}
use Rattle.std.specs.Prelude.{length}
use Rattle.std.specs.Option.{option_and_then}
use Rattle.device_state.specs.declared.entry.OpenEntry.{OpenEntry}
use Rattle.device_state.specs.declared.state.Counters.{Counters}
use Rattle.device_state.specs.declared.state.State.{State}
use Rattle.device_state.specs.Entries.{key_of}
use Rattle.device_state.specs.Numbered.{added, replaced_by}
use Rattle.device_state.specs.State.{bare, one_further, one_more}
use Rattle.field_text.specs.Steps.{◌>>=◌}
use Rattle.instance_store.specs.Instances.{instance_limit}
use Rattle.instance_store.specs.declared.records.InstanceRec.{InstanceRec}
use Rattle.instance_store.specs.declared.records.Status.TheVariants as status
use Rattle.kept_forms.specs.KeptForms.{id_of, version_of}
use Rattle.savepoints.specs.Savepoints.{removed}
use Rattle.savepoints.specs.declared.keys.KeyBase.{KeyBase}
use Rattle.savepoints.specs.declared.keys.KeyBase.TheVariants.{Blank, Draft, Edit}
use Rattle.device_rules.specs.declared.answer.Answer.TheVariants.{Number}
use Rattle.device_rules.specs.declared.refused.Refused.{Refused}
use Rattle.device_rules.specs.declared.refused.Refused.TheVariants.{Limit, NoInstance}
use Rattle.device_rules.specs.declared.refused.Which.TheVariants.{Counters as TooMany, Instances}
use Rattle.device_rules.specs.declared.save_draft.Named.{Named}
use Rattle.device_rules.specs.Limits.{most_entries}
use Rattle.device_rules.specs.Start.{instance_of}
use Rattle.device_rules.specs.Tests.{Stepped, Tested, found_or, not_full, open_entry, refused_if}

-- ---- what the draft is called

-- the id of the instance with this number, if it has one
abbrev pub id_of_instance : State → ℕ → Option (List ℕ)
id_of_instance state number = option_and_then (λ i. i.instance_id) (instance_of state number)

-- a new instance has the next number, if there may be one more
abbrev pub new_name : State → Option ℕ → Option (List ℕ) → Result Named Refused
new_name state edit_of deprecated = do
  few ← refused_if (nat_le instance_limit (length state.instances.items)) (Limit Instances instance_limit)
  numbers ← refused_if (nat_le most_entries state.counters.next_instance) (Limit TooMany most_entries)
  Ok (record { number = state.counters.next_instance; edit_of = edit_of; deprecated = deprecated })

abbrev pub kept_name : InstanceRec → Named
kept_name i = record { number = i.number; edit_of = i.edit_of; deprecated = i.deprecated }

abbrev pub old_name : State → ℕ → Result Named Refused
old_name state number = do
  instance ← found_or (instance_of state number) NoInstance
  Ok (kept_name instance)

abbrev pub name_of : State → KeyBase → Result Named Refused
name_of state Blank = new_name state None None
name_of state (Edit number) = new_name state (Some number) (id_of_instance state number)
name_of state (Draft number) = old_name state number

-- ---- the draft

abbrev pub draft_of : Named → OpenEntry → InstanceRec
draft_of name entry = record {
  number = name.number;
  form = id_of entry.form;
  version = version_of entry.form;
  status = status.Draft;
  sheet = entry.sheet;
  doc = None;
  instance_id = None;
  edit_of = name.edit_of;
  deprecated = name.deprecated;
  final_at = 0;
  tried = 0;
}

abbrev pub instances_with : KeyBase → InstanceRec → List InstanceRec → List InstanceRec
instances_with Blank item kept = added item kept
instances_with (Edit number) item kept = added item kept
instances_with (Draft number) item kept = replaced_by item kept

abbrev pub counters_after : KeyBase → Counters → Counters
counters_after Blank counters = one_more counters
counters_after (Edit number) counters = one_more counters
counters_after (Draft number) counters = one_further counters

-- a number is left for a new instance
abbrev pub HasNumber : Counters → KeyBase → Type 0
HasNumber counters Blank = counters.next_instance < most_entries
HasNumber counters (Edit number) = counters.next_instance < most_entries
HasNumber counters (Draft number) = Unit {0}

abbrev pub saved : State → OpenEntry → Named → State
saved state entry name = record state {
  counters = counters_after entry.base state.counters;
  instances = bare (instances_with entry.base (draft_of name entry) state.instances.items);
  savepoints = bare (removed (key_of entry) state.savepoints.items);
  entry = None;
}

abbrev pub save_draft : State → Stepped
save_draft state = do
  entry ← open_entry state
  name ← name_of state entry.base
  room ← not_full state
  Ok (saved state entry name, Number name.number)
