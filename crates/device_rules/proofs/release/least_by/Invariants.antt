use Rattle.std.proofs.Common.{◌≡◌, drop}
use Rattle.std.specs.Prelude.{fold}
use Rattle.std.specs.List.{filter}
use Rattle.device_state.specs.Flights.{is_by}
use Rattle.device_rules.specs.Release.{least_by, lesser}
use Rattle.device_rules.proofs.release.least_by.Given as goal

-- what the rest makes of the least so far is what all make
abbrev pub invariant-loop-flight : goal.invariant-loop-flight
invariant-loop-flight l =
    fold lesser l.least (filter (is_by l.hand) (drop l.flight-index l.flights)) ≡ least_by l.hand l.flights
