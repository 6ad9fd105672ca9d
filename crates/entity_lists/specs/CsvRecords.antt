-- The records of a CSV text (RFC 4180), as the crate `csv` reads them with its default settings, a header too.
use Rattle.std.specs.Prelude.{ℕ, List, map}
use denote.Ref.{Bor}
use Rattle.csv.specs.Reading.{default_config, records, strip_bom}

-- a byte order mark at the start is no part of the first field
abbrev pub records_of : List ℕ → List (List (List ℕ))
records_of bytes = records default_config (strip_bom bytes)

-- the texts that a list of slices points to
abbrev pub contents : List (Bor (List ℕ)) → List (List ℕ)
contents slices = map (λ s. s.now) slices
