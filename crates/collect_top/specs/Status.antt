-- The causes of each end, in what was handed in. What a source or a disk had is known where it tells it.
use Rattle.std.specs.Prelude.{◌≡◌, ◌≢◌, ◌⊎◌, ℕ, ◌≤◌, List, ◌++◌, length, Option, Some, None, IsSome, Ok, Err}
use Rattle.entry_form.specs.declared.entry.Entry.{Entry}
use Rattle.device_journal.specs.declared.fault.OpenFault.{OpenFault}
use Rattle.device_journal.specs.declared.fault.OpenFault.TheVariants as opening
use Rattle.device_core.specs.Faults.{IsFull}
use Rattle.device_core.specs.Images.{ReadsAs}
use Rattle.line_io.specs.Script.{IsUncut, longest_line, most_bytes}
use Rattle.collect_script.specs.declared.stop.ScriptStop.TheVariants as script
use Rattle.collect_top.specs.declared.stop.Stop.TheVariants.{Opening, Script, Usage}
use Rattle.collect_top.specs.declared.words.Work.{Work}
use Rattle.collect_top.specs.Outside.{DiskFails, Outside, SinkFails, SourceFails}
use Rattle.collect_top.specs.Parts.{own_opening}
use Rattle.collect_top.specs.Stop.{End}

-- no call of the source, the sink or the disk has failed
pub record IsCalm (before after : Outside) : Type 0 where
  pub source : SourceFails before after → ⊥
  pub sink : SinkFails before after → ⊥
  pub disk : DiskFails before after → ⊥

-- a script that is within its limit, and so is each of its lines
pub record IsWithinLimits (whole : List ℕ) : Type 0 where
  pub short : length whole ≤ most_bytes
  pub lines : (front line behind : List ℕ) → whole ≡ front ++ (line ++ behind) → IsUncut line
      → length line ≤ longest_line

-- the ends of a call that met no fault
pub data Completes : End → Type 0 where
  whole : Completes (Ok tt)
  starved_opening : Completes (Err (Opening opening.NoMemory))
  starved : Completes (Err (Script script.NoMemory))
  full_opening : (size : ℕ) → Completes (Err (Opening (opening.Full size)))
  full : (size : ℕ) → Completes (Err (Script (script.JournalFull size)))
  long_line : Completes (Err (Script script.LineTooLong))
  long_script : Completes (Err (Script script.ScriptTooLong))

pub record EndCauses (work : Option Work) (before after : Outside) (end : End) : Type 0 where
  pub usage : (end ≡ Err Usage → work ≡ None) × (work ≡ None → end ≡ Err Usage)
  pub read_fault : end ≡ Err (Script script.ReadFault) → SourceFails before after
  pub write_fault : end ≡ Err (Script script.WriteFault) → SinkFails before after
  pub disk_fault : (end ≡ Err (Opening opening.DiskFault)) ⊎ (end ≡ Err (Script script.DiskFault))
      → DiskFails before after
  -- what is wrong with a journal is wrong with it, and an opening that doesn't fit doesn't
  pub bad_journal : (image : List ℕ) (at : ℕ) → before.image ≡ Some image
      → end ≡ Err (Opening (opening.BadJournal at)) → ReadsAs image (Err (opening.BadJournal at))
  pub bad_entry : (image : List ℕ) (at : ℕ) → before.image ≡ Some image → end ≡ Err (Opening (opening.BadEntry at))
      → ReadsAs image (Err (opening.BadEntry at))
  pub illegal_entry : (image : List ℕ) (at : ℕ) → before.image ≡ Some image
      → end ≡ Err (Opening (opening.IllegalEntry at))
      → ReadsAs image (Err (opening.IllegalEntry at))
  pub full_opening : (image : List ℕ) (size : ℕ) → before.image ≡ Some image → end ≡ Err (Opening (opening.Full size))
      → (found : List Entry) × ReadsAs image (Ok found) × IsFull found own_opening size
  -- a journal that doesn't stand for entries is told so
  pub journal_told : (image : List ℕ) (fault : OpenFault) → work ≢ None → before.image ≡ Some image
      → ReadsAs image (Err fault)
      → (DiskFails before after → ⊥) → (end ≡ Err (Opening fault)) ⊎ (end ≡ Err (Opening opening.NoMemory))
  -- a script within its limits is never told to be past them
  pub within : (whole : List ℕ) → before.left ≡ Some whole → IsSome after.left → IsWithinLimits whole
      → (end ≢ Err (Script script.LineTooLong)) × (end ≢ Err (Script script.ScriptTooLong))
  -- Where no call fails and the image stands for entries, the call comes to its end, but for want of memory, for an
  -- entry that doesn't fit the journal, and for a script past its limits.
  pub complete : (image : List ℕ) (found : List Entry) → work ≢ None → IsCalm before after → before.image ≡ Some image
      → ReadsAs image (Ok found)
      → Completes end
