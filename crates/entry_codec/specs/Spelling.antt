-- The spelling of an entry: a table of the parts of each kind, and the bytes of a part.
use Rattle.std.specs.Prelude.{◌≡◌, ℕ, ◌<◌, ◌≤◌, ◌^◌, List, [], ◌∷◌, ◌++◌, length, slice_index, Option, Some, None}
use Rattle.std.specs.List.{flat_map, AllByRecursion}
use Rattle.std.specs.Int.{w32, w64, to_le_bytes}
use Rattle.std.specs.Str.{IsUtf8}
use Rattle.entry_form.specs.declared.command.Outcome.{Outcome}
use Rattle.entry_form.specs.declared.command.Outcome.TheVariants.{Reply, Fault}
use Rattle.entry_form.specs.declared.command.Base.{Base}
use Rattle.entry_form.specs.declared.command.Base.TheVariants.{Blank, Draft, Edit}
use Rattle.entry_form.specs.declared.command.Command.{Command}
use Rattle.entry_form.specs.declared.command.Command.TheVariants as command
use Rattle.entry_form.specs.declared.entry.Entry.{Entry}
use Rattle.entry_form.specs.declared.entry.Entry.TheVariants.{Opened, Done}
use Rattle.entry_form.specs.Hand.{hand_number}
use Rattle.entry_codec.specs.declared.kind.CommandKind.{CommandKind}
use Rattle.entry_codec.specs.declared.kind.CommandKind.TheVariants as kind
use Rattle.entry_codec.specs.Choices.{bool_byte, mode_byte, round_byte, lock_byte, how_byte, stage_byte, kind_byte}

-- what a spelling is made of
pub data Part : Type 0 where
  byte : ℕ → Part
  number : ℕ → Part
  text : List ℕ → Part
  blob : List ℕ → Part

-- eight bytes, the lowest first
unfoldable pub number_bytes : ℕ → List ℕ
number_bytes n = to_le_bytes w64 n

-- a length in four bytes, the lowest first, and the bytes
unfoldable pub with_length : List ℕ → List ℕ
with_length bytes = to_le_bytes w32 (length bytes) ++ bytes

abbrev pub part_bytes : Part → List ℕ
part_bytes (byte b) = b ∷ []
part_bytes (number n) = number_bytes n
part_bytes (text t) = with_length t
part_bytes (blob b) = with_length b

-- ---- the table of kinds

abbrev pub option_parts : Option (List ℕ) → List Part
option_parts None = byte 0 ∷ []
option_parts (Some t) = byte 1 ∷ text t ∷ []

abbrev pub outcome_parts : Outcome → List Part
outcome_parts (Reply bytes) = byte 0 ∷ blob bytes ∷ []
outcome_parts (Fault stage) = byte 1 ∷ byte (stage_byte stage) ∷ []

abbrev pub base_parts : Base → List Part
base_parts (Blank form version) = byte 0 ∷ text form ∷ option_parts version
base_parts (Draft n) = byte 1 ∷ number n ∷ []
base_parts (Edit n) = byte 2 ∷ number n ∷ []

abbrev pub kind_of : Command → CommandKind
kind_of (command.AutoSend on) = kind.AutoSend
kind_of (command.UpdateMode mode) = kind.UpdateMode
kind_of (command.TakeLock round) = kind.TakeLock
kind_of (command.Release lock) = kind.Release
kind_of (command.Load form) = kind.Load
kind_of (command.Ask id) = kind.Ask
kind_of (command.Fetched job at outcome) = kind.Fetched
kind_of command.RoundDone = kind.RoundDone
kind_of (command.DropForm id) = kind.DropForm
kind_of (command.Start base how) = kind.Start
kind_of (command.Fill path value) = kind.Fill
kind_of command.SaveDraft = kind.SaveDraft
kind_of command.Leave = kind.Leave
kind_of command.Finalize = kind.Finalize
kind_of command.FinalizeAll = kind.FinalizeAll
kind_of (command.DropInstance n) = kind.DropInstance
kind_of (command.SendBegun n at) = kind.SendBegun
kind_of (command.SendEnded n outcome) = kind.SendEnded
kind_of command.Tick = kind.Tick

abbrev pub command_parts : Command → List Part
command_parts (command.AutoSend on) = byte (bool_byte on) ∷ []
command_parts (command.UpdateMode mode) = byte (mode_byte mode) ∷ []
command_parts (command.TakeLock round) = byte (round_byte round) ∷ []
command_parts (command.Release lock) = byte (lock_byte lock) ∷ []
command_parts (command.Load form) = blob form ∷ []
command_parts (command.Ask id) = text id ∷ []
command_parts (command.Fetched job at outcome) = number job ∷ number at ∷ outcome_parts outcome
command_parts command.RoundDone = []
command_parts (command.DropForm id) = text id ∷ []
command_parts (command.Start base how) = base_parts base ++ byte (how_byte how) ∷ []
command_parts (command.Fill path value) = text path ∷ text value ∷ []
command_parts command.SaveDraft = []
command_parts command.Leave = []
command_parts command.Finalize = []
command_parts command.FinalizeAll = []
command_parts (command.DropInstance n) = number n ∷ []
command_parts (command.SendBegun n at) = number n ∷ number at ∷ []
command_parts (command.SendEnded n outcome) = number n ∷ outcome_parts outcome
command_parts command.Tick = []

-- the kind, the hand, and what is the kind's own; an opening has the script's hand
abbrev pub parts : Entry → List Part
parts (Opened opening) = byte 1 ∷ byte 0 ∷ number opening.device ∷ text opening.server ∷ []
parts (Done hand c) = byte (kind_byte (kind_of c)) ∷ byte (hand_number hand) ∷ command_parts c

abbrev pub bytes_of : List Part → List ℕ
bytes_of ps = flat_map part_bytes ps

-- the one spelling of an entry
abbrev pub spelling : Entry → List ℕ
spelling entry = bytes_of (parts entry)

-- ---- what can be spelled

-- a length has four bytes
abbrev pub IsShortPart : Part → Type 0
IsShortPart (byte b) = Unit {0}
IsShortPart (number n) = Unit {0}
IsShortPart (text t) = length t < 2 ^ 32
IsShortPart (blob b) = length b < 2 ^ 32

abbrev pub PartFits : Part → Type 0
PartFits (byte b) = Unit {0}
PartFits (number n) = n < 2 ^ 64
PartFits (text t) = (length t < 2 ^ 32) × IsUtf8 t
PartFits (blob b) = (length b < 2 ^ 32) × ((i : ℕ) → slice_index b i < 256)

-- each text and blob is below 2^32 bytes
abbrev pub IsShort : Entry → Type 0
IsShort entry = AllByRecursion IsShortPart (parts entry)

-- and numbers, texts and blobs are those of the types
abbrev pub Fits : Entry → Type 0
Fits entry = AllByRecursion PartFits (parts entry)

-- ---- bytes that aren't a spelling

-- no front of the bytes is a spelling
abbrev pub IsUnspelled : List ℕ → Type 0
IsUnspelled bytes = (entry : Entry) (rest : List ℕ) → Fits entry → bytes ≡ spelling entry ++ rest → ⊥

-- whole parts with which some spelling begins stand in the first `at` bytes
pub record HasPartsUpTo (bytes : List ℕ) (at : ℕ) : Type 0 where
  pub entry : Entry
  pub fits : Fits entry
  pub front : List Part
  pub others : List Part
  pub begins : parts entry ≡ front ++ others
  pub rest : List ℕ
  pub stands : bytes ≡ bytes_of front ++ rest
  pub place : length (bytes_of front) ≡ at

-- as far as the whole parts of any spelling reach: what stands there is cut by the end, or no spelling has it there
pub record IsFirstFault (bytes : List ℕ) (at : ℕ) : Type 0 where
  pub reached : HasPartsUpTo bytes at
  pub furthest : (n : ℕ) → HasPartsUpTo bytes n → n ≤ at
