-- An instance is thrown away, and the savepoints that stand on it. No other hand may hold the instances, and no send of
-- it may be in flight.
use Rattle.std.specs.Prelude.{ℕ, Bool, false, Option, Ok}
use Rattle.std.specs.Option.{option_map_or}
use Rattle.device_state.specs.declared.entry.OpenEntry.{OpenEntry}
use Rattle.device_state.specs.declared.state.State.{State}
use Rattle.device_state.specs.Numbered.{dropped}
use Rattle.device_state.specs.State.{bare, one_further}
use Rattle.device_state.specs.Flights.{has_flight}
use Rattle.entry_form.specs.declared.hand.Hand.{Hand}
use Rattle.field_text.specs.Steps.{◌>>=◌}
use Rattle.savepoints.specs.Savepoints.{base_on, removed_on}
use Rattle.device_rules.specs.declared.answer.Answer.TheVariants.{Done}
use Rattle.device_rules.specs.declared.refused.Refused.TheVariants.{InFlight, InUse, NoInstance}
use Rattle.device_rules.specs.Holders.{free_for}
use Rattle.device_rules.specs.Start.{instance_of}
use Rattle.device_rules.specs.Tests.{Stepped, found_or, not_full, refused_if}

-- the open questionnaire stands on the instance with this number
abbrev pub stands_on : ℕ → Option OpenEntry → Bool
stands_on number entry = option_map_or (λ e. base_on number e.base) entry false

-- the state without the instance
abbrev pub without : State → ℕ → State
without state number = record state {
  counters = one_further state.counters;
  instances = bare (dropped number state.instances.items);
  savepoints = bare (removed_on number state.savepoints.items);
}

abbrev pub drop_instance : State → Hand → ℕ → Stepped
drop_instance state hand number = do
  nobody ← free_for hand state.locks.instances
  instance ← found_or (instance_of state number) NoInstance
  unused ← refused_if (stands_on number state.entry) (InUse number)
  room ← not_full state
  idle ← refused_if (has_flight number state.flights.items) (InFlight number)
  Ok (without state number, Done)
