-- An answer is given to a question of the open questionnaire, and its savepoint is kept.
use Rattle.std.specs.Prelude.{ℕ, List, Result, Ok, option_map}
use Rattle.device_state.specs.declared.entry.OpenEntry.{OpenEntry}
use Rattle.device_state.specs.declared.state.State.{State}
use Rattle.device_state.specs.Changes.{with_sheet}
use Rattle.device_state.specs.Entries.{key_of}
use Rattle.device_state.specs.State.{bare, one_further}
use Rattle.entity_lists.specs.EntityTables.{tables_of}
use Rattle.field_text.specs.Steps.{◌>>=◌}
use Rattle.field_text.specs.Tables.{NamedTable}
use Rattle.kept_forms.specs.KeptForms.{filled_of}
use Rattle.savepoints.specs.Savepoints.{put}
use Rattle.device_rules.specs.declared.answer.Answer.TheVariants.{Done}
use Rattle.device_rules.specs.declared.refused.Refused.{Refused}
use Rattle.device_rules.specs.Refused.{or_answer_refused}
use Rattle.device_rules.specs.Tests.{Stepped, not_full, open_entry}

-- the sheet of the open questionnaire behind an answer
abbrev pub filled : List NamedTable → OpenEntry → List ℕ → List ℕ → Result (List (List ℕ)) Refused
filled tables entry path value = or_answer_refused (filled_of tables entry.form entry.sheet path value)

abbrev pub fill : State → List ℕ → List ℕ → Stepped
fill state path value = do
  entry ← open_entry state
  sheet ← filled (tables_of state.lists.items) entry path value
  room ← not_full state
  Ok (
    record state {
      counters = one_further state.counters;
      savepoints = bare (put (key_of entry) sheet state.savepoints.items);
      entry = option_map (with_sheet sheet) state.entry;
    },
    Done,
  )
