-- What a crash may leave of a device's journal.
use Rattle.std.specs.Prelude.{◌≡◌, ◌⊎◌, ℕ, ◌+◌, ◌<◌, ◌≤◌, List, [], ◌∷◌, ◌++◌, length, take, slice_get}
use Rattle.std.specs.Prelude.{option_to_list, Option, Some, Ok}
use Rattle.entry_form.specs.declared.entry.Entry.{Entry}
use Rattle.device_journal.specs.declared.fault.OpenFault.{OpenFault}
use Rattle.device_journal.specs.declared.fault.OpenFault.TheVariants.{DiskFault}
use Rattle.device_journal.specs.Moments.{LeavesAsRead, LeavesFrom, synced_at}
use Rattle.device_rules.specs.declared.trail.Marked.{Marked}
use Rattle.device_core.specs.Faults.{ReadsAs}
use Rattle.device_core.specs.Images.{StandsFor}
use Rattle.device_rules.specs.Trail.{entries_of}
use Rattle.device_core.specs.View.{DeviceView}

-- an image stands for the first of these entries, at least so many
pub record HasAtLeast (entries : List Entry) (least : ℕ) (image : List ℕ) : Type 0 where
  pub count : ℕ
  pub enough : least ≤ count
  pub within : count ≤ length entries
  pub stands : StandsFor image (take count entries)

module _ {D : Type 0} (since : D → ℕ → List ℕ → Type 0) (clock : D → ℕ) where
  -- Each image that a crash at some moment since the opening might have left stands for the first of the entries and
  -- the one behind them whose append failed: no fewer than opening found, and since the moment of an entry that entry
  -- too.
  pub record Crash (disk : D) (opened found : ℕ) (entries : List Marked) (rest : List Entry) : Type 0 where
    pub all : (c : List ℕ) → since disk opened c → HasAtLeast (entries_of entries ++ rest) found c
    pub each : (i : ℕ) (m : Marked) → slice_get entries i ≡ Some m → (c : List ℕ) → since disk m.moment c
        → HasAtLeast (entries_of entries ++ rest) (i + 1) c
    -- what was found has the moment of the opening
    pub first : (i : ℕ) (m : Marked) → i < found → slice_get entries i ≡ Some m → m.moment ≡ opened
    -- no moment is still to come
    pub past : (i : ℕ) (m : Marked) → slice_get entries i ≡ Some m → m.moment ≤ clock disk
    pub begun : opened ≤ clock disk
    pub within : found ≤ length entries

  -- that of a device
  abbrev pub HasCrash : DeviceView D → Type 0
  HasCrash device = Crash device.disk device.opened device.found device.entries (option_to_list device.rest)

  -- time goes on, and the images that a crash at each moment of a call adds have P
  abbrev pub AddsOnly : D → D → (List ℕ → Type 0) → Type 0
  AddsOnly old new P = (clock old ≤ clock new) × ((t : ℕ) (c : List ℕ) → t ≤ clock old → since new t c
      → since old t c ⊎ P c)

-- An image that opening leaves, over one that was read: it is that one, or it stands for the same legal list, or for
-- that list and the opening.
abbrev pub IsLeftByOpening : Entry → List ℕ → List ℕ → Type 0
IsLeftByOpening opening image c =
    (c ≡ image) ⊎ ((found : List Entry) × ReadsAs image (Ok found)
    × (StandsFor c found ⊎ StandsFor c (found ++ opening ∷ [])))

-- that, where the disk told what was read
abbrev pub IsLeft : Option (List ℕ) → Entry → List ℕ → Type 0
IsLeft content opening c = (image : List ℕ) → content ≡ Some image → IsLeftByOpening opening image c

-- A device wasn't opened: no image was added but as the journal reads. Where its own entry's append met a fault of the
-- disk, since the opening's first sync only what opening leaves.
pub data LeavesUnopened {D : Type 0} (clock : D → ℕ) (may : D → List ℕ → Type 0) (since : D → ℕ → List ℕ → Type 0)
    (content : Option (List ℕ)) (opening : Entry) (fault : OpenFault) (old new : D) : Type 0 where
  unappended : LeavesAsRead clock may since content old new
      → LeavesUnopened clock may since content opening fault old new
  tried : fault ≡ DiskFault → LeavesFrom clock since old new (synced_at clock old) (IsLeft content opening)
      → LeavesUnopened clock may since content opening fault old new
