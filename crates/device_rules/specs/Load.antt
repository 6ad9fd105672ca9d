-- A form is loaded from its document: it is kept, visible and complete. No other hand may hold the forms.
use Rattle.std.specs.Prelude.{ℕ, ◌+◌, true, List, [], slice_get, Result, Ok, Err}
use Rattle.std.specs.Option.{option_map_or}
use Rattle.device_state.specs.declared.state.State.{State}
use Rattle.device_state.specs.State.{bare, one_further}
use Rattle.entry_form.specs.declared.hand.Hand.{Hand}
use Rattle.field_ids.specs.Hashes.{hash_of}
use Rattle.field_text.specs.Steps.{◌>>=◌}
use Rattle.form_store.specs.Forms.{check, form_limit, put}
use Rattle.form_store.specs.declared.records.Check.{Check}
use Rattle.form_store.specs.declared.records.Check.TheVariants.{Fresh, Same, OtherBytes, Full}
use Rattle.form_store.specs.declared.records.FormRec.{FormRec}
use Rattle.kept_forms.specs.KeptForms.{auto_of, id_of, kept_form, version_of}
use Rattle.device_rules.specs.declared.answer.Answer.TheVariants.{Done}
use Rattle.device_rules.specs.declared.refused.Refused.{Refused}
use Rattle.device_rules.specs.declared.refused.Refused.TheVariants as refusals
use Rattle.device_rules.specs.declared.refused.Which.TheVariants as limits
use Rattle.device_rules.specs.Holders.{free_for}
use Rattle.device_rules.specs.Refused.{or_form_refused}
use Rattle.device_rules.specs.Tests.{Stepped, not_full}

-- the bytes, where they describe a form
abbrev pub read_form : List ℕ → Result (List ℕ) Refused
read_form bytes = or_form_refused (kept_form bytes)

-- the hash of the form that is kept at this place
abbrev pub hash_at : State → ℕ → List ℕ
hash_at state place = option_map_or (λ r. r.hash) (slice_get state.forms.items place) []

-- a form of these bytes that is put by the entry at this position
abbrev pub form_record : List ℕ → ℕ → FormRec
form_record bytes put_at = record {
  id = id_of bytes;
  version = version_of bytes;
  bytes = bytes;
  hash = hash_of bytes;
  auto = auto_of bytes;
  put_at = put_at;
  visible = true;
  complete = true;
}

abbrev pub put_form : State → List ℕ → Stepped
put_form state bytes = do
  room ← not_full state
  Ok (
    record state {
      counters = one_further state.counters;
      forms = bare (put (form_record bytes (state.counters.position + 1)) state.forms.items);
    },
    Done,
  )

abbrev pub other_bytes : State → List ℕ → ℕ → Refused
other_bytes state bytes place = refusals.OtherBytes (hash_at state place) (hash_of bytes)

abbrev pub load_by : State → List ℕ → Check → Stepped
load_by state bytes Fresh = put_form state bytes
load_by state bytes (Same place) = put_form state bytes
load_by state bytes (OtherBytes place) = Err (other_bytes state bytes place)
load_by state bytes Full = Err (refusals.Limit limits.Forms form_limit)

abbrev pub load_form : State → List ℕ → Stepped
load_form state bytes = load_by state bytes (check (id_of bytes) (version_of bytes) bytes state.forms.items)

abbrev pub load_read : State → List ℕ → Stepped
load_read state bytes = do
  form ← read_form bytes
  load_form state form

abbrev pub load : State → Hand → List ℕ → Stepped
load state hand bytes = do
  nobody ← free_for hand state.locks.forms
  load_read state bytes
