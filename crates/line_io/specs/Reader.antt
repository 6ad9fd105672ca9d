-- What a reader of a script keeps, and what it gives of a source.
use Rattle.std.specs.Prelude.{◌≡◌, ℕ, ◌+◌, ◌≤◌, ◌<◌, List, [], ◌∷◌, ◌++◌, Bool, true, length, Option, Some, None}
use Rattle.field_io.specs.Causes.{Rose}
use Rattle.line_io.specs.declared.stop.ReadStop.{ReadStop}
use Rattle.line_io.specs.declared.stop.ReadStop.TheVariants.{ReadFault, NoMemory, LineTooLong, ScriptTooLong}
use Rattle.line_io.specs.Script.{most_bytes, longest_line, Taken, IsAtEnd, IsUncut, IsLine}

-- the bytes that were taken and not yet given, the number of bytes taken, and whether the end was seen
pub record ReaderView : Type 0 where
  pub rest : List ℕ
  pub taken : ℕ
  pub at_end : Bool

-- a source at one moment: what it has left, and its count of faults
pub record Input : Type 0 where
  pub left : Option (List ℕ)
  pub faults : ℕ

-- the reader is within its limit, and where it has seen the end of the source the source is there and all bytes are
-- given
pub record IsKept (reader : ReaderView) (input : Input) : Type 0 where
  pub within : reader.taken ≤ most_bytes
  pub ended : reader.at_end ≡ true → IsAtEnd input.left
  pub dry : reader.at_end ≡ true → reader.rest ≡ []

-- these bytes were taken from the source, and no call of it failed
pub record TakesOn (old new : ReaderView) (before after : Input) (bytes : List ℕ) : Type 0 where
  pub taken : Taken before.left after.left bytes
  pub count : new.taken ≡ old.taken + length bytes
  pub sound : after.faults ≡ before.faults
  pub kept : IsKept new after

-- the end was seen, and all bytes are given
pub record HasEnded (reader : ReaderView) (input : Input) : Type 0 where
  pub none_left : reader.rest ≡ []
  pub at_end : reader.at_end ≡ true
  pub is_at_end : IsAtEnd input.left

-- what stands at the front of these bytes: a line with its line feed, the last line without one, or nothing more
pub data Gives (new : ReaderView) (after : Input) (bytes : List ℕ) : Option (List ℕ) → Type 0 where
  line : (raw : List ℕ) → IsLine raw → bytes ≡ raw ++ 10 ∷ new.rest → Gives new after bytes (Some raw)
  last : (raw : List ℕ) → 0 < length raw → IsLine raw → bytes ≡ raw → HasEnded new after
      → Gives new after bytes (Some raw)
  none : bytes ≡ [] → HasEnded new after → Gives new after bytes None

-- the next line was given, or there is none more
pub record GivesNext (old new : ReaderView) (before after : Input) (given : Option (List ℕ)) : Type 0 where
  pub bytes : List ℕ
  pub takes : TakesOn old new before after bytes
  pub gives : Gives new after (old.rest ++ bytes) given

-- Why no line could be given. Bytes that were taken in vain stand behind those that were kept.
pub data StopsReading (old : ReaderView) (before after : Input) : ReadStop → Type 0 where
  failed : (bytes : List ℕ) → Taken before.left after.left bytes → IsUncut (old.rest ++ bytes)
      → Rose before.faults after.faults → StopsReading old before after ReadFault
  starved : (bytes : List ℕ) → Taken before.left after.left bytes → after.faults ≡ before.faults
      → StopsReading old before after NoMemory
  long_line : (bytes front more : List ℕ) → Taken before.left after.left bytes → old.rest ++ bytes ≡ front ++ more
      → IsUncut front
      → longest_line < length front → after.faults ≡ before.faults → StopsReading old before after LineTooLong
  -- something was taken past the limit
  long_script : (bytes past : List ℕ) → 0 < length past → Taken before.left after.left (bytes ++ past)
      → IsUncut (old.rest ++ bytes)
      → old.taken + length bytes ≡ most_bytes → after.faults ≡ before.faults
      → StopsReading old before after ScriptTooLong
