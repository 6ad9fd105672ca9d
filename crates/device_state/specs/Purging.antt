-- Which forms are kept: the visible ones, and the hidden ones that an instance, a savepoint or the open entry names by
-- id and version.
use Rattle.std.specs.Prelude.{Bool, false, ◌&&◌, ◌||◌, List, Option}
use Rattle.std.specs.List.{filter, list_any}
use Rattle.std.specs.Option.{option_map_or}
use Rattle.std.specs.Str.{bytes_eq}
use Rattle.form_store.specs.declared.records.FormRec.{FormRec}
use Rattle.instance_store.specs.declared.records.InstanceRec.{InstanceRec}
use Rattle.kept_forms.specs.KeptForms.{id_of, version_of}
use Rattle.savepoints.specs.declared.store.Savepoint.{Savepoint}
use Rattle.device_state.specs.declared.entry.OpenEntry.{OpenEntry}
use Rattle.device_state.specs.declared.state.State.{State}
use Rattle.device_state.specs.State.{bare}

abbrev pub instance_names : FormRec → InstanceRec → Bool
instance_names r instance = bytes_eq instance.form r.id && bytes_eq instance.version r.version

abbrev pub savepoint_names : FormRec → Savepoint → Bool
savepoint_names r savepoint = bytes_eq savepoint.key.form r.id && bytes_eq savepoint.key.version r.version

abbrev pub open_names : FormRec → OpenEntry → Bool
open_names r entry = bytes_eq (id_of entry.form) r.id && bytes_eq (version_of entry.form) r.version

abbrev pub entry_names : FormRec → Option OpenEntry → Bool
entry_names r entry = option_map_or (open_names r) entry false

abbrev pub is_kept : List InstanceRec → List Savepoint → Option OpenEntry → FormRec → Bool
is_kept instances savepoints entry r =
    r.visible || (entry_names r entry || (list_any (savepoint_names r) savepoints
    || list_any (instance_names r) instances))

-- the state without the hidden forms that nothing names
abbrev pub purged : State → State
purged state = record state {
  forms = bare (filter (is_kept state.instances.items state.savepoints.items state.entry) state.forms.items);
}
