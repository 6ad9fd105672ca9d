-- The questionnaire that is being filled in.
use Rattle.kept_forms.specs.KeptForms.{id_of, version_of}
use Rattle.savepoints.specs.declared.keys.Key.{Key}
use Rattle.device_state.specs.declared.entry.OpenEntry.{OpenEntry}

-- by which its savepoint is found
abbrev pub key_of : OpenEntry → Key
key_of entry = record { form = id_of entry.form; version = version_of entry.form; base = entry.base }
