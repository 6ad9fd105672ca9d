-- Calls that are to fail, by their numbers from 1 on.
use Rattle.std.specs.Prelude.{ℕ, List, nat_le, count_by}

-- how many of the numbers are those of the first calls, so many
abbrev pub listed : ℕ → List ℕ → ℕ
listed calls fails = count_by (λ n. nat_le n calls) fails
