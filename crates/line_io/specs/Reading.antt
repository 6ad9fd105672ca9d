-- What a reader of a script does byte by byte. It serves proofs alone.
use Rattle.std.specs.Prelude.{◌≡◌, ℕ, ◌+◌, ◌≤◌, ◌<◌, List, [], ◌∷◌, ◌++◌, length, Option, None, option_to_list}
use Rattle.field_io.specs.Causes.{Rose}
use Rattle.line_io.specs.declared.stop.ReadStop.{ReadStop}
use Rattle.line_io.specs.declared.stop.ReadStop.TheVariants.{ReadFault, NoMemory, ScriptTooLong}
use Rattle.line_io.specs.Reader.{ReaderView, Input, TakesOn, HasEnded}
use Rattle.line_io.specs.Script.{most_bytes, Taken, IsLine}

-- the number of bytes that may be taken at once
pub record IsRoom (taken room : ℕ) : Type 0 where
  pub some : 1 ≤ room
  pub within : room ≤ 4096
  pub below : taken < most_bytes → taken + room ≤ most_bytes
  pub past : taken ≡ most_bytes → room ≡ 1

-- there is a next byte, or the end was seen
pub record Fills (old new : ReaderView) (before after : Input) : Type 0 where
  pub bytes : List ℕ
  pub takes : TakesOn old new before after bytes
  pub joined : old.rest ++ bytes ≡ new.rest
  pub ended : new.rest ≡ [] → HasEnded new after

-- the next byte was given, or there is none more
pub record GivesByte (old new : ReaderView) (before after : Input) (next : Option ℕ) : Type 0 where
  pub bytes : List ℕ
  pub takes : TakesOn old new before after bytes
  pub joined : old.rest ++ bytes ≡ option_to_list next ++ new.rest
  pub ended : next ≡ None → HasEnded new after

-- why there is no next byte
pub data StopsByte (old : ReaderView) (before after : Input) : ReadStop → Type 0 where
  failed : Taken before.left after.left [] → old.rest ≡ [] → Rose before.faults after.faults
      → StopsByte old before after ReadFault
  starved : (bytes : List ℕ) → Taken before.left after.left bytes → after.faults ≡ before.faults
      → StopsByte old before after NoMemory
  long_script : (past : List ℕ) → 0 < length past → Taken before.left after.left past → old.rest ≡ []
      → old.taken ≡ most_bytes
      → after.faults ≡ before.faults → StopsByte old before after ScriptTooLong

-- the front of a line was given
pub record HasLine (old new : ReaderView) (before after : Input) (line : List ℕ) : Type 0 where
  pub bytes : List ℕ
  pub takes : TakesOn old new before after bytes
  pub joined : old.rest ++ bytes ≡ line ++ new.rest
  pub within : IsLine line
