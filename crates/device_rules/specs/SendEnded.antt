-- A hand has ended a send that it began. The instance is sent where the recorded reply accepts it; else it stays in the
-- queue as one whose send failed.
use Rattle.std.specs.Prelude.{ℕ, Bool, true, false, not, if◌then◌else◌, Ok}
use Rattle.std.specs.List.{list_any}
use Rattle.device_state.specs.declared.state.State.{State}
use Rattle.device_state.specs.Flights.{ended, is_flight}
use Rattle.device_state.specs.Numbered.{status_at}
use Rattle.device_state.specs.State.{bare, one_further}
use Rattle.entry_form.specs.declared.command.Outcome.{Outcome}
use Rattle.entry_form.specs.declared.command.Outcome.TheVariants.{Fault, Reply}
use Rattle.entry_form.specs.declared.hand.Hand.{Hand}
use Rattle.field_text.specs.Steps.{◌>>=◌}
use Rattle.instance_store.specs.declared.records.Status.{Status}
use Rattle.instance_store.specs.declared.records.Status.TheVariants.{Sent, SendFailed}
use Rattle.wire_laws.specs.Accepted.{accepts}
use Rattle.device_rules.specs.declared.answer.Answer.TheVariants.{Number}
use Rattle.device_rules.specs.declared.refused.Refused.TheVariants.{NotInFlight}
use Rattle.device_rules.specs.Tests.{Stepped, not_full, refused_if}

-- a reply came, and it accepts what was sent
abbrev pub is_taken : Outcome → Bool
is_taken (Reply bytes) = accepts bytes
is_taken (Fault stage) = false

abbrev pub status_after : Bool → Status
status_after taken = if taken then Sent else SendFailed

abbrev pub ended_as : State → Hand → ℕ → Bool → State
ended_as state hand number taken = record state {
  counters = one_further state.counters;
  instances = bare (status_at (status_after taken) number state.instances.items);
  flights = bare (ended hand number state.flights.items);
}

abbrev pub send_ended : State → Hand → ℕ → Outcome → Stepped
send_ended state hand number outcome = do
  room ← not_full state
  flown ← refused_if (not (list_any (is_flight hand number) state.flights.items)) NotInFlight
  Ok (ended_as state hand number (is_taken outcome), Number (if is_taken outcome then 1 else 0))
