-- How forms are kept up to date with the server.
use Rattle.std.specs.Prelude.{Ok}
use Rattle.device_state.specs.declared.state.State.{State}
use Rattle.device_state.specs.State.{one_further}
use Rattle.field_text.specs.Steps.{◌>>=◌}
use Rattle.field_text.specs.declared.mode.Mode.{Mode}
use Rattle.device_rules.specs.declared.answer.Answer.TheVariants.{Done}
use Rattle.device_rules.specs.Tests.{Stepped, not_full}

abbrev pub update_mode : State → Mode → Stepped
update_mode state mode = do
  room ← not_full state
  Ok (
    record state {
      settings = record state.settings { mode = mode };
      counters = one_further state.counters;
    },
    Done,
  )
