-- A list with another row in the place of one of them.
use Rattle.std.specs.Prelude.{ℕ, List, slice_get, slice_set}
use Rattle.std.specs.Option.{option_map_or}

abbrev pub edited : {T : Type 0} → (T → T) → ℕ → List T → List T
edited f place rows = option_map_or (λ r. slice_set rows place (f r)) (slice_get rows place) rows
