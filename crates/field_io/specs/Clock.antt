-- Moments are seconds since 1970, before the year 10000.
use Rattle.std.specs.Prelude.{ℕ, ◌<◌}

abbrev pub IsMoment : ℕ → Type 0
IsMoment moment = moment < 253402300800
