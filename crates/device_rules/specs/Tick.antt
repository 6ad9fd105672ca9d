-- What waits to be sent or updated may be tried again.
use Rattle.std.specs.Prelude.{Ok}
use Rattle.device_state.specs.declared.state.State.{State}
use Rattle.device_state.specs.State.{ticked}
use Rattle.field_text.specs.Steps.{◌>>=◌}
use Rattle.device_rules.specs.declared.answer.Answer.TheVariants.{Done}
use Rattle.device_rules.specs.Tests.{Stepped, not_full}

abbrev pub tick : State → Stepped
tick state = do
  room ← not_full state
  Ok (record state { counters = ticked state.counters }, Done)
