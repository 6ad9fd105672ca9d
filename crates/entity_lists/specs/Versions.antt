-- Versions of entities (ODK Entities): numbers from 1 to a greatest one.
use Rattle.std.specs.Prelude.{ℕ, ◌≤◌, ◌&&◌, nat_le, Bool, if◌then◌else◌, Option, Some, None}

abbrev pub version_limit : ℕ
version_limit = 1000000000000000

abbrev pub IsVersion : ℕ → Type 0
IsVersion number = (1 ≤ number) × (number ≤ version_limit)

-- the version of a number, if it is one
abbrev pub version_of : ℕ → Option ℕ
version_of number = if nat_le 1 number && nat_le number version_limit then Some number else None

-- whether no version follows
abbrev pub is_last : ℕ → Bool
is_last version = nat_le version_limit version
