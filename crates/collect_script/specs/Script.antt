-- The lines of a script that were taken from a source.
use Rattle.std.specs.Prelude.{◌≡◌, ℕ, ◌<◌, List, [], ◌∷◌, ◌++◌, Bool, true, false, not, length, Option, IsTrue}
use Rattle.std.specs.Prelude.{◌+◌}
use Rattle.std.specs.List.{flat_map, list_all, AllByRecursion}
use Rattle.line_io.specs.Script.{longest_line, most_bytes, IsAtEnd, IsLine, IsUncut, Taken}
use Rattle.collect_text.specs.Line.{meaning}
use Rattle.collect_text.specs.declared.line.Line.{Line}
use Rattle.collect_text.specs.declared.line.Line.TheVariants.{Quit}

-- the lines with their line feeds (10)
abbrev pub ended : List (List ℕ) → List ℕ
ended lines = flat_map (λ line. line ++ 10 ∷ []) lines

-- The bytes are these lines, and what is behind them. Where the input is at its end the last line may lack its line
-- feed.
pub data Spells (left : Option (List ℕ)) (bytes : List ℕ) (lines : List (List ℕ)) (behind : List ℕ) : Type 0 where
  by_feeds : bytes ≡ ended lines ++ behind → Spells left bytes lines behind
  by_end : bytes ++ 10 ∷ [] ≡ ended lines → behind ≡ [] → IsAtEnd left → Spells left bytes lines behind

-- These bytes were taken from the source: the lines, each within its limit, and what is behind them.
pub record Reads (before after : Option (List ℕ)) (lines : List (List ℕ)) (behind : List ℕ) : Type 0 where
  pub script : List ℕ
  pub taken : Taken before after script
  pub spells : Spells after script lines behind
  pub within : AllByRecursion IsLine lines

abbrev pub is_quit : Line → Bool
is_quit Quit = true
is_quit _ = false

-- the line ends the script
abbrev pub ends_script : List ℕ → Bool
ends_script line = is_quit (meaning line)

-- none of the lines ends the script
abbrev pub GoesOn : List (List ℕ) → Type 0
GoesOn lines = IsTrue (list_all (λ line. not (ends_script line)) lines)

-- the last of the lines ends the script, and none before it
pub record Quits (lines : List (List ℕ)) : Type 0 where
  pub front : List (List ℕ)
  pub last : List ℕ
  pub joined : lines ≡ front ++ last ∷ []
  pub goes_on : GoesOn front
  pub quits : ends_script last ≡ true

-- no line is left in the source
pub record IsWhole (left : Option (List ℕ)) (lines : List (List ℕ)) (behind : List ℕ) : Type 0 where
  pub goes_on : GoesOn lines
  pub none_behind : behind ≡ []
  pub at_end : IsAtEnd left

-- the bytes begin with more than a line may have
pub record IsTooLong (bytes : List ℕ) : Type 0 where
  pub front : List ℕ
  pub more : List ℕ
  pub joined : bytes ≡ front ++ more
  pub uncut : IsUncut front
  pub long : longest_line < length front

-- the bytes of a line without its line feed, and something past the limit of scripts
pub record IsPastLimit (script behind : List ℕ) : Type 0 where
  pub front : List ℕ
  pub past : List ℕ
  pub joined : behind ≡ front ++ past
  pub uncut : IsUncut front
  pub some : 0 < length past
  pub long : length script ≡ most_bytes + length past
