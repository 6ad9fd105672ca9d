-- The open questionnaire is closed without being kept, and its savepoint is gone.
use Rattle.std.specs.Prelude.{None, Ok}
use Rattle.device_state.specs.declared.state.State.{State}
use Rattle.device_state.specs.Entries.{key_of}
use Rattle.device_state.specs.State.{bare, one_further}
use Rattle.field_text.specs.Steps.{◌>>=◌}
use Rattle.savepoints.specs.Savepoints.{removed}
use Rattle.device_rules.specs.declared.answer.Answer.TheVariants.{Done}
use Rattle.device_rules.specs.Tests.{Stepped, not_full, open_entry}

abbrev pub leave : State → Stepped
leave state = do
  entry ← open_entry state
  room ← not_full state
  Ok (
    record state {
      counters = one_further state.counters;
      savepoints = bare (removed (key_of entry) state.savepoints.items);
      entry = None;
    },
    Done,
  )
