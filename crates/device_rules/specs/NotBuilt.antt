-- A command that this device doesn't know yet. It is always refused.
use Rattle.std.specs.Prelude.{Err}
use Rattle.device_state.specs.declared.state.State.{State}
use Rattle.field_text.specs.Steps.{◌>>=◌}
use Rattle.device_rules.specs.declared.refused.Refused.TheVariants as refusals
use Rattle.device_rules.specs.Tests.{Stepped, not_full}

abbrev pub not_built : State → Stepped
not_built state = do
  room ← not_full state
  Err refusals.NotBuilt
