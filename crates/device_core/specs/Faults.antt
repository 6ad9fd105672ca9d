-- Why a device isn't opened, and why a command has no answer.
use Rattle.std.specs.Prelude.{◌≡◌, ◌+◌, ◌<◌, ◌≤◌, ℕ, List, length, Option, Some, IfSome, Result, Ok, Err}
use Rattle.field_io.specs.Causes.{Rose}
use Rattle.field_text.specs.Steps.{Tells}
use Rattle.entry_form.specs.declared.entry.Entry.{Entry}
use Rattle.entry_form.specs.declared.hand.Hand.{Hand}
use Rattle.device_rules.specs.declared.answer.Query.{Query}
use Rattle.device_rules.specs.Answers.{answer_to}
use Rattle.device_rules.specs.Refused.{rule_of}
use Rattle.entry_codec.specs.Spelling.{spelling}
use Rattle.device_journal.specs.declared.fault.OpenFault.{OpenFault}
use Rattle.device_journal.specs.declared.fault.OpenFault.TheVariants as opening
use Rattle.device_journal.specs.Frames.{end_of, limit}
use Rattle.device_rules.specs.declared.told.SubmitFault.{SubmitFault}
use Rattle.device_rules.specs.declared.told.SubmitFault.TheVariants as submitting
use Rattle.device_rules.specs.Step.{IsAllowed, IsRefused}
use Rattle.device_rules.specs.Trail.{replay, entries_of}
use Rattle.device_core.specs.View.{DeviceView, Stays}
use Rattle.device_state.specs.State.{initial}
use Rattle.device_core.specs.Images.{payloads_of}
pub use Rattle.device_core.specs.Images.{ReadsAs}

-- the image that a disk told is read so, if it told one
abbrev pub ContentReadsAs : {D : Type 0} → (D → Option (List ℕ)) → D → Result (List Entry) OpenFault → Type 0
ContentReadsAs content disk reading = IfSome (content disk) (λ image. ReadsAs image reading)

-- behind these entries there is room for this one
abbrev pub HasRoom : List Entry → Entry → Type 0
HasRoom entries entry = end_of (payloads_of entries) + 5 + length (spelling entry) ≤ limit

-- behind these entries, in so many bytes, there is none
pub record IsFull (entries : List Entry) (entry : Entry) (size : ℕ) : Type 0 where
  pub size_is : size ≡ end_of (payloads_of entries)
  pub past : limit < size + 5 + length (spelling entry)

-- behind the entries of the disk's journal there is no room for the opening
pub record IsFullFor {D : Type 0} (content : D → Option (List ℕ)) (disk : D) (opening : Entry) (size : ℕ) : Type 0 where
  pub found : List Entry
  pub reads : ContentReadsAs content disk (Ok found)
  pub full : IsFull found opening size

module _ {D : Type 0} (content : D → Option (List ℕ)) (faults : D → ℕ) where
  -- why the device wasn't opened so on the old disk, which came back as the new one
  abbrev pub IsOpenFault : Entry → D → D → OpenFault → Type 0
  IsOpenFault entry old new opening.DiskFault = Rose (faults old) (faults new)
  IsOpenFault entry old new (opening.BadJournal at) = (faults new ≡ faults old)
      × ContentReadsAs content old (Err (opening.BadJournal at))
  IsOpenFault entry old new (opening.BadEntry position) = (faults new ≡ faults old)
      × ContentReadsAs content old (Err (opening.BadEntry position))
  IsOpenFault entry old new (opening.IllegalEntry position) = (faults new ≡ faults old)
      × ContentReadsAs content old (Err (opening.IllegalEntry position))
  IsOpenFault entry old new (opening.Full size) = (faults new ≡ faults old) × IsFullFor content old entry size
  IsOpenFault entry old new opening.NoMemory = faults new ≡ faults old

  -- why the entry wasn't appended
  abbrev pub IsSubmitFault : Entry → DeviceView D → DeviceView D → SubmitFault → Type 0
  IsSubmitFault entry old new (submitting.Refused position why) =
      (new ≡ old) × (position ≡ length old.entries) × (replay initial (entries_of old.entries) ≡ Some old.state)
      × IsRefused old.state entry why
  IsSubmitFault entry old new (submitting.Full size) =
      (new ≡ old) × IsAllowed old.state entry × IsFull (entries_of old.entries) entry size
  IsSubmitFault entry old new submitting.DiskFault =
      Stays old new × Rose (faults old.disk) (faults new.disk) × IsAllowed old.state entry
      × HasRoom (entries_of old.entries) entry
  IsSubmitFault entry old new (submitting.Failed count) = (new ≡ old) × (old.failed ≡ Some count)

-- why a query has no answer: the rules refuse it, or memory ran out
abbrev pub IsAskFault : {D : Type 0} → DeviceView D → Hand → Query → SubmitFault → Type 0
IsAskFault device hand query (submitting.Refused position why) =
    (position ≡ length device.entries) × Tells (rule_of why) (answer_to device.state hand query)
IsAskFault device hand query _ = ⊥

-- what opening answers where its own entry wasn't appended
abbrev pub open_fault_of : SubmitFault → OpenFault
open_fault_of (submitting.Refused position why) = opening.NoMemory
open_fault_of (submitting.Full size) = opening.Full size
open_fault_of submitting.DiskFault = opening.DiskFault
open_fault_of (submitting.Failed count) = opening.DiskFault
