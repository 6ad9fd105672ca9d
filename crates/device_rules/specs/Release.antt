-- A hand gives back a lock that it holds; that of the instances only once none of its sends is in flight.
use Rattle.std.specs.Prelude.{ℕ, min, List, Option, Some, None, fold, Ok, Err}
use Rattle.std.specs.List.{filter}
use Rattle.change_locks.specs.Locks.{holder_of}
use Rattle.device_state.specs.declared.flight.Flight.{Flight}
use Rattle.device_state.specs.declared.state.State.{State}
use Rattle.device_state.specs.Flights.{is_by}
use Rattle.device_state.specs.Holding.{released}
use Rattle.device_state.specs.State.{one_further}
use Rattle.entry_form.specs.declared.hand.Hand.{Hand}
use Rattle.entry_form.specs.declared.hand.Lock.{Lock}
use Rattle.entry_form.specs.declared.hand.Lock.TheVariants.{Forms, Instances}
use Rattle.field_text.specs.Steps.{◌>>=◌}
use Rattle.device_rules.specs.declared.answer.Answer.TheVariants.{Done}
use Rattle.device_rules.specs.declared.refused.Refused.TheVariants.{InFlight}
use Rattle.device_rules.specs.Holders.{held_by}
use Rattle.device_rules.specs.Tests.{Stepped, Tested, not_full}

abbrev pub lesser : Option ℕ → Flight → Option ℕ
lesser None flight = Some flight.number
lesser (Some number) flight = Some (min number flight.number)

-- the least number of the sends that this hand has in flight
abbrev pub least_by : Hand → List Flight → Option ℕ
least_by hand flights = fold lesser None (filter (is_by hand) flights)

abbrev pub none_left : Option ℕ → Tested
none_left None = Ok tt
none_left (Some number) = Err (InFlight number)

abbrev pub none_in_flight : State → Hand → Lock → Tested
none_in_flight state hand Forms = Ok tt
none_in_flight state hand Instances = none_left (least_by hand state.flights.items)

abbrev pub without_lock : State → Hand → Lock → State
without_lock state hand lock = record state {
  counters = one_further state.counters;
  locks = released lock hand state.locks;
}

abbrev pub release : State → Hand → Lock → Stepped
release state hand lock = do
  held ← held_by hand (holder_of state.locks lock)
  room ← not_full state
  none ← none_in_flight state hand lock
  Ok (without_lock state hand lock, Done)
