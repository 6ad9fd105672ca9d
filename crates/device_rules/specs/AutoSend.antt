-- Whether finalized instances are sent without being asked.
use Rattle.std.specs.Prelude.{Bool, Ok}
use Rattle.device_state.specs.declared.state.State.{State}
use Rattle.device_state.specs.State.{one_further}
use Rattle.field_text.specs.Steps.{◌>>=◌}
use Rattle.device_rules.specs.declared.answer.Answer.TheVariants.{Done}
use Rattle.device_rules.specs.Tests.{Stepped, not_full}

abbrev pub auto_send : State → Bool → Stepped
auto_send state on = do
  room ← not_full state
  Ok (
    record state {
      settings = record state.settings { auto_send = on };
      counters = one_further state.counters;
    },
    Done,
  )
