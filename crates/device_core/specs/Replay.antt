-- What reading and replaying payloads gives.
use Rattle.std.specs.Prelude.{◌≡◌, ℕ, List, Err}
use Rattle.std.specs.List.{AllByRecursion}
use Rattle.entry_form.specs.declared.entry.Entry.{Entry}
use Rattle.entry_codec.specs.Spelling.{Fits}
use Rattle.device_journal.specs.declared.fault.OpenFault.{OpenFault}
use Rattle.device_journal.specs.declared.fault.OpenFault.TheVariants.{BadEntry, IllegalEntry, NoMemory}
use Rattle.device_rules.specs.declared.refused.Refused.{Refused}
use Rattle.device_rules.specs.declared.refused.Refused.TheVariants as refusals
use Rattle.device_state.specs.declared.state.State.{State}
use Rattle.device_rules.specs.Step.{step}
use Rattle.device_core.specs.Images.{IsOffSpelling, IsOffFrom, IsRefusedFrom, payloads_of}

-- why a payload wasn't read
abbrev pub IsUnread : List ℕ → ℕ → OpenFault → Type 0
IsUnread payload position (BadEntry at) = (at ≡ position) × IsOffSpelling payload
IsUnread payload position NoMemory = Unit {0}
IsUnread payload position _ = ⊥

-- each payload is the spelling of an entry
pub record IsSpelledBy (payloads : List (List ℕ)) (entries : List Entry) : Type 0 where
  pub fit : AllByRecursion Fits entries
  pub spelled : payloads ≡ payloads_of entries

-- why payloads weren't read
abbrev pub IsReadFault : List (List ℕ) → OpenFault → Type 0
IsReadFault payloads (BadEntry position) = IsOffFrom payloads position
IsReadFault payloads NoMemory = Unit {0}
IsReadFault payloads _ = ⊥

-- why an entry at this position wasn't replayed
abbrev pub IsStepFault : State → Entry → ℕ → OpenFault → Type 0
IsStepFault state entry place (IllegalEntry position) = (position ≡ place)
    × ((why : Refused) × (step state entry ≡ Err why))
IsStepFault state entry place NoMemory = Unit {0}
IsStepFault state entry place _ = ⊥

-- what opening answers where the rules refuse an entry at a position
abbrev pub step_fault : Refused → ℕ → OpenFault
step_fault refusals.NoMemory position = NoMemory
step_fault why position = IllegalEntry position

-- why entries weren't replayed
abbrev pub IsReplayFault : List Entry → OpenFault → Type 0
IsReplayFault entries (IllegalEntry position) = IsRefusedFrom entries position
IsReplayFault entries NoMemory = Unit {0}
IsReplayFault entries _ = ⊥

-- why payloads give no state
abbrev pub IsRecoverFault : List (List ℕ) → OpenFault → Type 0
IsRecoverFault payloads (BadEntry position) = IsOffFrom payloads position
IsRecoverFault payloads (IllegalEntry position) = (entries : List Entry) × IsSpelledBy payloads entries
    × IsRefusedFrom entries position
IsRecoverFault payloads NoMemory = Unit {0}
IsRecoverFault payloads _ = ⊥
