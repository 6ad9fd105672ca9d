-- What the work over an opened device leaves, and a call before the line of its stop. It serves proofs alone.
use Rattle.std.specs.Prelude.{◌≡◌, ◌⊎◌, ℕ, List, [], ◌++◌, length, Option, Some, option_to_list}
use Rattle.std.specs.Prelude.{Err}
use Rattle.field_io.specs.Causes.{Rose}
use Rattle.entry_form.specs.declared.entry.Entry.{Entry}
use Rattle.device_journal.specs.Frames.{end_of}
use Rattle.device_journal.specs.declared.fault.OpenFault.{OpenFault}
use Rattle.device_rules.specs.declared.trail.Trail.{Trail}
use Rattle.device_state.specs.State.{initial}
use Rattle.device_rules.specs.Trail.{IsLegal, entries_of}
use Rattle.device_core.specs.Caller.{Leads}
use Rattle.device_core.specs.Crash.{Crash}
use Rattle.device_core.specs.Faults.{IsOpenFault}
use Rattle.device_core.specs.Images.{payloads_of}
use Rattle.device_core.specs.View.{DeviceView}
use Rattle.collect_script.specs.declared.stop.ScriptStop.TheVariants as script
use Rattle.collect_script.specs.Ends.{AnswersScript, ScriptEnd, Streams}
use Rattle.collect_top.specs.declared.stop.Stop.TheVariants.{Opening, Script}
use Rattle.collect_top.specs.declared.words.Work.{Work}
use Rattle.collect_top.specs.Crash.{Leaves}
use Rattle.collect_top.specs.Shown.{Shows, shown_text}
use Rattle.collect_top.specs.Outside.{Images}
use Rattle.collect_top.specs.Parts.{Begins, Prints, own_opening}
use Rattle.collect_top.specs.Stop.{End}

-- what the device shows behind the work, and what was made of it
pub record Closed {D : Type 0} (images : Images D) (now : DeviceView D) (disk : D) (trail : Trail) : Type 0 where
  pub disk_is : disk ≡ now.disk
  pub entries_are : trail.entries ≡ now.entries
  pub start : trail.start ≡ initial
  pub legal : IsLegal initial (entries_of now.entries ++ option_to_list now.rest)
  pub crash : Crash images.since images.clock disk now.opened now.found trail.entries (option_to_list now.rest)

-- the script was answered over a device
pub record AnswersOver {D : Type 0} (images : Images D) (faults : D → ℕ) (old : DeviceView D) (before after : Streams)
    (disk : D) (trail : Trail) (end : ScriptEnd) : Type 0 where
  pub now : DeviceView D
  pub closed : Closed images now disk trail
  pub added : List Entry
  pub gained : entries_of now.entries ≡ entries_of old.entries ++ added
  pub answers : AnswersScript initial (entries_of now.entries) (option_to_list now.rest) before after
      (length (entries_of old.entries)) end
  pub full : (size : ℕ) → end ≡ Err (script.JournalFull size) → size ≡ end_of (payloads_of (entries_of now.entries))
  pub failed : end ≡ Err script.DiskFault → Rose (faults old.disk) (faults disk)
  pub leads : Leads images.since images.clock faults old now

-- what the work prints of a device was put
pub record ShowsOver {D : Type 0} (images : Images D) (work : Work) (old : DeviceView D) (before after : Streams)
    (disk : D) (trail : Trail) (end : ScriptEnd) : Type 0 where
  pub closed : Closed images old disk trail
  pub text : List ℕ
  pub is : shown_text work (entries_of old.entries) ≡ Some text
  pub shows : Shows text before after end

-- what a call has left before the line of its stop
pub record HasRun {D : Type 0} (images : Images D) (content : D → Option (List ℕ)) (faults : D → ℕ) (work : Work)
    (old new : D) (before between : Streams) (trail : Trail) (end : End) : Type 0 where
  pub found : Option ℕ
  pub rest : List Entry
  pub start : trail.start ≡ initial
  pub legal : IsLegal initial (entries_of trail.entries ++ rest)
  pub begins : Begins (content old) (entries_of trail.entries) found
  pub prints : Prints (Some work) before between (entries_of trail.entries) rest end found
  pub leaves : Leaves images (content old) old new trail.entries rest end found
  pub rest_is : rest ≡ [] ⊎ end ≡ Err (Script script.DiskFault)
  pub fault : (fault : OpenFault) → end ≡ Err (Opening fault) → IsOpenFault content faults own_opening old new fault
  pub failed : end ≡ Err (Script script.DiskFault) → Rose (faults old) (faults new)
