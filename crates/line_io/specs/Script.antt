-- The lines of a script, and what of it was taken from a source.
use Rattle.std.specs.Prelude.{◌≡◌, ℕ, ◌≤◌, List, [], ◌++◌, not, ◌==◌, length, Option, Some, IfSome, IsTrue}
use Rattle.std.specs.List.{list_all}

-- the number of bytes that a script has at most
abbrev pub most_bytes : ℕ
most_bytes = 16777216

-- the number of bytes that a line has at most, without its line feed
abbrev pub longest_line : ℕ
longest_line = 8192

-- these bytes were taken from a source, which has told what it had before and has now
abbrev pub Taken : Option (List ℕ) → Option (List ℕ) → List ℕ → Type 0
Taken before after bytes = IfSome after (λ rest. before ≡ Some (bytes ++ rest))

-- a source that tells what it has left has nothing
abbrev pub IsAtEnd : Option (List ℕ) → Type 0
IsAtEnd left = IfSome left (λ rest. rest ≡ [])

-- no line feed (10) stands in the bytes
abbrev pub IsUncut : List ℕ → Type 0
IsUncut bytes = IsTrue (list_all (λ b. not (b == 10)) bytes)

-- a line that is within the limit, without its line feed
pub record IsLine (line : List ℕ) : Type 0 where
  pub uncut : IsUncut line
  pub short : length line ≤ longest_line
