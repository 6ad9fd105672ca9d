-- What a device shows of its parts, and what it keeps of its journal.
use Rattle.std.specs.Prelude.{◌≡◌, ℕ, List, ◌++◌, length, Option, Some, None, option_to_list}
use Rattle.std.specs.List.{AllByRecursion}
use Rattle.entry_form.specs.declared.entry.Entry.{Entry}
use Rattle.entry_codec.specs.Spelling.{Fits}
use Rattle.disk_model.specs.declared.disk.Disk.{Ghosts}
use Rattle.device_journal.specs.declared.journal.Journal.{Journal}
use Rattle.device_journal.specs.Journal.{journal_disk, journal_opened, journal_failed}
use Rattle.device_journal.specs.Frames.{Stands, end_of}
use Rattle.device_state.specs.declared.state.State.{State}
use Rattle.device_rules.specs.declared.trail.Marked.{Marked}
use Rattle.device_core.specs.Crash.{HasCrash}
use Rattle.device_core.specs.Images.{payloads_of}
use Rattle.device_state.specs.State.{initial, plain}
use Rattle.device_rules.specs.Trail.{IsLegal, entries_of, replay}
use Rattle.device_core.specs.View.{DeviceView, IsReady}

abbrev pub shown : {D : Type 0} {G : Ghosts D} → Journal D G → State → List Marked → ℕ → Option Entry → DeviceView D
shown journal state entries found rest = record {
  disk = journal_disk journal;
  state = plain state;
  entries = entries;
  found = found;
  failed = journal_failed journal;
  opened = journal_opened journal;
  rest = rest;
}

-- no append has met a fault: the journal has the entries, and so many bytes
pub record IsSound {D : Type 0} (content : D → Option (List ℕ)) (size : ℕ) (device : DeviceView D) : Type 0 where
  pub none_left : device.rest ≡ None
  pub fit : AllByRecursion Fits (entries_of device.entries)
  pub stands : Stands (content device.disk) (payloads_of (entries_of device.entries))
  pub size_is : size ≡ end_of (payloads_of (entries_of device.entries))

-- what holds of every device
pub record IsKept {D : Type 0} (content : D → Option (List ℕ)) (since : D → ℕ → List ℕ → Type 0) (clock : D → ℕ)
    (size : ℕ) (device : DeviceView D) : Type 0 where
  pub legal : replay initial (entries_of device.entries) ≡ Some device.state
  pub rest_legal : IsLegal initial (entries_of device.entries ++ option_to_list device.rest)
  pub sound : device.failed ≡ None → IsSound content size device
  pub crash : HasCrash since clock device

-- the device has the entries that opening found, and no other
pub record IsLoaded {D : Type 0} (device : DeviceView D) : Type 0 where
  pub found : device.found ≡ length device.entries
  pub ready : IsReady device
