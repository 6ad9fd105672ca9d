-- What an opening finds.
use Rattle.std.specs.Prelude.{◌≡◌, ℕ, ◌+◌, ◌<◌, List, Option, Some}
use Rattle.device_journal.specs.Frames.{limit, end_of, Stands}
use Rattle.device_journal.specs.Sound.{HasEnd}
use Rattle.device_journal.specs.declared.fault.OpenFault.{OpenFault}
use Rattle.device_journal.specs.declared.fault.OpenFault.TheVariants.{DiskFault, BadJournal, BadEntry, IllegalEntry}
use Rattle.device_journal.specs.declared.fault.OpenFault.TheVariants.{Full, NoMemory}

-- the faults of an opening that knows nothing of entries
abbrev pub OfOpening : OpenFault → Type 0
OfOpening DiskFault = Unit {0}
OfOpening (BadJournal at) = Unit {0}
OfOpening (BadEntry position) = ⊥
OfOpening (IllegalEntry position) = ⊥
OfOpening (Full size) = ⊥
OfOpening NoMemory = Unit {0}

-- a disk had these payloads before the opening and has them after it, with a shut gate at this place behind them
pub record IsOpened (old new : Option (List ℕ)) (payloads : List (List ℕ)) (gate : ℕ) : Type 0 where
  pub found : Stands old payloads
  pub stands : Stands new payloads
  pub ends : (image : List ℕ) → new ≡ Some image → ∥ HasEnd image gate ∥₁
  pub size : gate + 1 ≡ end_of payloads
  pub within : gate < limit
