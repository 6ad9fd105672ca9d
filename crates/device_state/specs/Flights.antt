-- The sends in flight: each was begun by a hand, for the instance with a number, and not ended.
use Rattle.std.specs.Prelude.{ℕ, Bool, ◌==◌, ◌&&◌, List, [], ◌∷◌, ◌++◌, Option, position, remove}
use Rattle.std.specs.List.{list_any}
use Rattle.std.specs.Option.{option_map_or}
use Rattle.entry_form.specs.declared.hand.Hand.{Hand}
use Rattle.entry_form.specs.Hand.{hand_number}
use Rattle.device_state.specs.declared.flight.Flight.{Flight}
use Rattle.device_state.specs.declared.flight.FlightChange.{FlightChange}
use Rattle.device_state.specs.declared.flight.FlightChange.TheVariants as flights

-- this hand has begun it
abbrev pub is_by : Hand → Flight → Bool
is_by hand flight = hand_number flight.hand == hand_number hand

abbrev pub is_sending : ℕ → Flight → Bool
is_sending number flight = flight.number == number

abbrev pub is_flight : Hand → ℕ → Flight → Bool
is_flight hand number flight = is_by hand flight && is_sending number flight

-- a send of the instance with this number is in flight
abbrev pub has_flight : ℕ → List Flight → Bool
has_flight number kept = list_any (is_sending number) kept

abbrev pub place_of : Hand → ℕ → List Flight → Option ℕ
place_of hand number kept = position (is_flight hand number) kept

-- without the one that this hand has begun for this number
abbrev pub ended : Hand → ℕ → List Flight → List Flight
ended hand number kept = option_map_or (λ place. remove kept place) (place_of hand number kept) kept

abbrev pub flights_changed : FlightChange → List Flight → List Flight
flights_changed flights.Keep kept = kept
flights_changed (flights.Begin flight) kept = kept ++ flight ∷ []
flights_changed (flights.End flight) kept = ended flight.hand flight.number kept
flights_changed (flights.All all) kept = all.items
