-- The entries that the image of a journal stands for.
use Rattle.std.specs.Prelude.{◌≡◌, ℕ, ◌+◌, List, ◌∷◌, ◌++◌, length, map, Some, Result, Ok, Err}
use Rattle.std.specs.List.{AllByRecursion}
use Rattle.entry_form.specs.declared.entry.Entry.{Entry}
use Rattle.entry_codec.specs.Spelling.{Fits, spelling}
use Rattle.device_journal.specs.Frames.{HasFrames, IsOffAt}
use Rattle.device_journal.specs.declared.fault.OpenFault.{OpenFault}
use Rattle.device_journal.specs.declared.fault.OpenFault.TheVariants as opening
use Rattle.device_rules.specs.declared.refused.Refused.{Refused}
use Rattle.device_state.specs.declared.state.State.{State}
use Rattle.device_state.specs.State.{initial}
use Rattle.device_rules.specs.Step.{step}
use Rattle.device_rules.specs.Trail.{replay, IsLegal}

-- the payloads of these entries
abbrev pub payloads_of : List Entry → List (List ℕ)
payloads_of entries = map spelling entries

-- each payload of the image is the spelling of one entry
pub record StandsFor (image : List ℕ) (entries : List Entry) : Type 0 where
  pub fit : AllByRecursion Fits entries
  pub frames : HasFrames image (payloads_of entries)

-- no entry is spelled so
abbrev pub IsOffSpelling : List ℕ → Type 0
IsOffSpelling payload = (entry : Entry) → Fits entry → payload ≡ spelling entry → ⊥

-- payloads that are entries up to a position, and there one that is none
pub record IsOffFrom (payloads : List (List ℕ)) (position : ℕ) : Type 0 where
  pub before : List Entry
  pub bad : List ℕ
  pub after : List (List ℕ)
  pub fit : AllByRecursion Fits before
  pub split : payloads ≡ payloads_of before ++ bad ∷ after
  pub off : IsOffSpelling bad
  pub place : position ≡ length before + 1

-- entries that the rules allow up to a position, and there one that they refuse
pub record IsRefusedFrom (entries : List Entry) (position : ℕ) : Type 0 where
  pub before : List Entry
  pub refused : Entry
  pub after : List Entry
  pub state : State
  pub why : Refused
  pub split : entries ≡ before ++ refused ∷ after
  pub reached : replay initial before ≡ Some state
  pub refuses : step state refused ≡ Err why
  pub place : position ≡ length before + 1

-- What the image of a journal reads as: a legal list of entries, or what is wrong with it.
abbrev pub ReadsAs : List ℕ → Result (List Entry) OpenFault → Type 0
ReadsAs image (Ok entries) = StandsFor image entries × IsLegal initial entries
ReadsAs image (Err (opening.BadJournal at)) = IsOffAt image at
ReadsAs image (Err (opening.BadEntry position)) = (payloads : List (List ℕ)) × HasFrames image payloads
    × IsOffFrom payloads position
ReadsAs image (Err (opening.IllegalEntry position)) = (entries : List Entry) × StandsFor image entries
    × IsRefusedFrom entries position
ReadsAs image (Err _) = ⊥
