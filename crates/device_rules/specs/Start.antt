-- A questionnaire is begun: of a form, from a draft, or as an edit of a finalized instance.
use Rattle.std.specs.Prelude.{ℕ, ◌==◌, Bool, true, false, not, ◌&&◌, if◌then◌else◌, List, slice_get, Option, Some, None}
use Rattle.std.specs.Prelude.{Result, Ok, Err, is_some, position, unwrap_or}
use Rattle.std.specs.List.{list_any}
use Rattle.std.specs.Option.{option_and_then, option_map_or}
use Rattle.std.specs.Str.{bytes_eq}
use Rattle.device_state.specs.declared.entry.OpenEntry.{OpenEntry}
use Rattle.device_state.specs.declared.state.State.{State}
use Rattle.device_state.specs.State.{bare, one_further}
use Rattle.entry_form.specs.declared.command.Base.{Base}
use Rattle.entry_form.specs.declared.command.Base.TheVariants as bases
use Rattle.entry_form.specs.declared.command.How.{How}
use Rattle.entry_form.specs.declared.command.How.TheVariants.{Fresh, Recover, Discard}
use Rattle.entity_lists.specs.EntityTables.{tables_of}
use Rattle.field_text.specs.Steps.{◌>>=◌}
use Rattle.field_text.specs.Tables.{NamedTable}
use Rattle.form_read.specs.declared.refusal.FormRefused.{FormRefused as FormFault}
use Rattle.form_read.specs.declared.refusal.FormRefused.TheVariants as faults
use Rattle.form_store.specs.Forms.{exact, latest}
use Rattle.form_store.specs.declared.records.FormRec.{FormRec}
use Rattle.instance_store.specs.Instances.{place_of}
use Rattle.instance_store.specs.declared.records.InstanceRec.{InstanceRec}
use Rattle.instance_store.specs.declared.records.Status.{Status}
use Rattle.instance_store.specs.declared.records.Status.TheVariants as status
use Rattle.kept_forms.specs.KeptForms.{id_of, initial_of, kept_form, settled_of, version_of}
use Rattle.savepoints.specs.Savepoints.{found, removed}
use Rattle.savepoints.specs.declared.keys.Key.{Key}
use Rattle.savepoints.specs.declared.keys.KeyBase.{KeyBase}
use Rattle.savepoints.specs.declared.keys.KeyBase.TheVariants as keys
use Rattle.savepoints.specs.declared.store.Savepoint.{Savepoint}
use Rattle.device_rules.specs.declared.answer.Answer.TheVariants.{Done}
use Rattle.device_rules.specs.declared.refused.Refused.{Refused}
use Rattle.device_rules.specs.declared.refused.Refused.TheVariants.{NoForm, NoVersion, NoInstance, EntryThere}
use Rattle.device_rules.specs.declared.refused.Refused.TheVariants.{SavepointThere, NoSavepoint, WrongStatus, HasEdit}
use Rattle.device_rules.specs.declared.refused.Refused.TheVariants.{NoMemory}
use Rattle.device_rules.specs.declared.start.Source.{Source}
use Rattle.device_rules.specs.Tests.{Stepped, Tested, found_or, not_full, refused_if}

-- ---- the form

abbrev pub record_at : List FormRec → Option ℕ → Option FormRec
record_at forms place = option_and_then (slice_get forms) place

abbrev pub has_id : List ℕ → List FormRec → Bool
has_id id forms = list_any (λ kept. bytes_eq kept.id id) forms

-- a hidden form counts only where a savepoint is met
abbrev pub counts : How → FormRec → Bool
counts Fresh r = r.visible
counts Recover r = true
counts Discard r = true

abbrev pub counted_record : How → Option FormRec → Result FormRec Refused
counted_record how None = Err NoVersion
counted_record how (Some r) = if counts how r then Ok r else Err NoVersion

-- the form of a new questionnaire: the latest visible one of the id, or that of the version
abbrev pub blank_record : List FormRec → List ℕ → Option (List ℕ) → How → Result FormRec Refused
blank_record forms id None how = found_or (record_at forms (latest id forms)) NoForm
blank_record forms id (Some version) how = do
  there ← refused_if (not (has_id id forms)) NoForm
  counted_record how (record_at forms (exact id version forms))

abbrev pub instance_of : State → ℕ → Option InstanceRec
instance_of state number = option_and_then (slice_get state.instances.items) (place_of number state.instances.items)

-- the form that the instance with this number names
abbrev pub instance_record : State → ℕ → Result FormRec Refused
instance_record state number = do
  instance ← found_or (instance_of state number) NoInstance
  found_or (record_at state.forms.items (exact instance.form instance.version state.forms.items)) NoForm

abbrev pub base_record : State → Base → How → Result FormRec Refused
base_record state (bases.Blank id version) how = blank_record state.forms.items id version how
base_record state (bases.Draft number) how = instance_record state number
base_record state (bases.Edit number) how = instance_record state number

abbrev pub key_base : Base → KeyBase
key_base (bases.Blank id version) = keys.Blank
key_base (bases.Draft number) = keys.Draft number
key_base (bases.Edit number) = keys.Edit number

-- bytes that describe no form count as none
abbrev pub no_form : FormFault → Refused
no_form faults.NoMemory = NoMemory
no_form why = NoForm

abbrev pub or_no_form : Result (List ℕ) FormFault → Result (List ℕ) Refused
or_no_form (Ok bytes) = Ok bytes
or_no_form (Err why) = Err (no_form why)

-- the form of a record
abbrev pub record_form : FormRec → Result (List ℕ) Refused
record_form kept = or_no_form (kept_form kept.bytes)

-- what the questionnaire begins with, and its form
abbrev pub source_of : State → Base → How → Result Source Refused
source_of state base how = do
  kept ← base_record state base how
  form ← record_form kept
  Ok (record { base = key_base base; form = form })

abbrev pub key_of_source : Source → Key
key_of_source source = record { form = id_of source.form; version = version_of source.form; base = source.base }

-- ---- refusals

-- a fresh start meets no savepoint, another one does
abbrev pub savepoint_allows : How → Bool → Tested
savepoint_allows Fresh there = refused_if there SavepointThere
savepoint_allows Recover there = refused_if (not there) NoSavepoint
savepoint_allows Discard there = refused_if (not there) NoSavepoint

abbrev pub savepoint_met : State → How → Key → Tested
savepoint_met state how key = savepoint_allows how (is_some (found key state.savepoints.items))

abbrev pub is_draft : Status → Bool
is_draft status.Draft = true
is_draft status.Invalid = true
is_draft status.Finalized = false
is_draft status.SendFailed = false
is_draft status.Sent = false

-- a draft is filled in further, a finalized instance is edited
abbrev pub has_status : KeyBase → Status → Bool
has_status keys.Blank s = true
has_status (keys.Draft number) s = is_draft s
has_status (keys.Edit number) s = not (is_draft s)

abbrev pub status_allows : KeyBase → Option InstanceRec → Tested
status_allows base None = Ok tt
status_allows base (Some instance) = refused_if (not (has_status base instance.status)) (WrongStatus instance.status)

abbrev pub base_instance : State → KeyBase → Option InstanceRec
base_instance state keys.Blank = None
base_instance state (keys.Draft number) = instance_of state number
base_instance state (keys.Edit number) = instance_of state number

abbrev pub right_status : State → KeyBase → Tested
right_status state base = status_allows base (base_instance state base)

abbrev pub is_edit_of : ℕ → InstanceRec → Bool
is_edit_of number instance = option_map_or (λ edited. edited == number) instance.edit_of false

-- the first instance that is an edit of the one with this number
abbrev pub edit_of : List InstanceRec → ℕ → Option InstanceRec
edit_of instances number = option_and_then (slice_get instances) (position (is_edit_of number) instances)

abbrev pub refused_by_edit : Option InstanceRec → Tested
refused_by_edit None = Ok tt
refused_by_edit (Some edit) = Err (HasEdit edit.number)

abbrev pub not_edited : State → KeyBase → Tested
not_edited state keys.Blank = Ok tt
not_edited state (keys.Draft number) = refused_by_edit (edit_of state.instances.items number)
not_edited state (keys.Edit number) = refused_by_edit (edit_of state.instances.items number)

-- ---- the sheet

abbrev pub sheet_from : List NamedTable → List ℕ → Option InstanceRec → List (List ℕ)
sheet_from tables form None = initial_of tables form
sheet_from tables form (Some instance) = settled_of tables form instance.sheet

-- the sheet that a questionnaire begins with: the form's first values or the instance's, settled
abbrev pub fresh_sheet : State → Source → List (List ℕ)
fresh_sheet state source =
    sheet_from (tables_of state.lists.items) source.form (base_instance state source.base)

-- the sheet of the savepoint where it is gone on with, else a fresh one
abbrev pub sheet_of : State → How → Source → List (List ℕ)
sheet_of state Fresh source = fresh_sheet state source
sheet_of state Recover source = unwrap_or (found (key_of_source source) state.savepoints.items) (fresh_sheet state source)
sheet_of state Discard source = fresh_sheet state source

-- ---- the step

-- the savepoints once a questionnaire is begun so
abbrev pub savepoints_left : How → Key → List Savepoint → List Savepoint
savepoints_left Fresh key savepoints = savepoints
savepoints_left Recover key savepoints = savepoints
savepoints_left Discard key savepoints = removed key savepoints

abbrev pub opened_with : State → Source → List Savepoint → List (List ℕ) → State
opened_with state source savepoints sheet = record state {
  counters = one_further state.counters;
  savepoints = bare savepoints;
  entry = Some (record { base = source.base; form = source.form; sheet = sheet });
}

-- the savepoints and the sheet that the questionnaire begins with
abbrev pub begun : State → How → Source → Result (List Savepoint × List (List ℕ)) Refused
begun state how source = do
  alone ← refused_if (is_some state.entry) EntryThere
  savepoint ← savepoint_met state how (key_of_source source)
  status ← right_status state source.base
  edit ← not_edited state source.base
  room ← not_full state
  Ok (savepoints_left how (key_of_source source) state.savepoints.items, sheet_of state how source)

abbrev pub start : State → Base → How → Stepped
start state base how = do
  source ← source_of state base how
  with_what ← begun state how source
  Ok (opened_with state source with_what.0 with_what.1, Done)
