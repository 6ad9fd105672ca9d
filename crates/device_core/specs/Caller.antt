-- What a device shows to the script's hand, and what holds between its calls.
use Rattle.std.specs.Prelude.{◌≡◌, ◌⊎◌, ℕ, ◌+◌, ◌-◌, ◌^◌, ◌≤◌, min, nat_le, IsTrue, List, ◌++◌, length, Option}
use Rattle.std.specs.Prelude.{option_to_list, Result, Ok, Err, if◌then◌else◌}
use Rattle.std.specs.List.{AllByRecursion}
use Rattle.field_io.specs.Causes.{Rose}
use Rattle.entry_form.specs.declared.entry.Entry.{Entry}
use Rattle.entry_form.specs.declared.hand.Hand.TheVariants.{Script}
use Rattle.device_journal.specs.Frames.{end_of}
use Rattle.device_rules.specs.declared.told.SubmitFault.{SubmitFault}
use Rattle.device_rules.specs.declared.told.SubmitFault.TheVariants as faults
use Rattle.device_rules.specs.declared.told.Told.{Told}
use Rattle.device_rules.specs.Caller.{CallerView, is_of, raised}
use Rattle.device_state.specs.State.{initial}
use Rattle.device_rules.specs.Trail.{entries_of}
use Rattle.device_core.specs.Crash.{AddsOnly, HasAtLeast}
use Rattle.device_core.specs.Images.{payloads_of}
use Rattle.device_core.specs.View.{DeviceView, IsReady}

-- 1 where a count of faults has risen, else 0
abbrev pub risen : ℕ → ℕ → ℕ
risen before now = if nat_le (min (before + 1) (2 ^ 64 - 1)) now then 1 else 0

-- what the script's hand sees of a device, whose disk had counted so many faults before
abbrev pub seen_of : {D : Type 0} → (D → ℕ) → DeviceView D → ℕ → ℕ → ℕ → CallerView
seen_of disk_faults device before refusals closings = record {
  hand = Script;
  start = initial;
  trail = entries_of device.entries;
  rest = option_to_list device.rest;
  faults = risen before (disk_faults device.disk);
  length = end_of (payloads_of (entries_of device.entries));
  refusals = refusals;
  closings = closings;
}

-- the count of refusals after a call
abbrev pub refusals_after : ℕ → Result Told SubmitFault → ℕ
refusals_after count (Err (faults.Refused position why)) = raised count
refusals_after count _ = count

module _ {D : Type 0} (since : D → ℕ → List ℕ → Type 0) (clock disk_faults : D → ℕ) where
  -- what holds between a device before some calls and after them
  pub record Leads (old new : DeviceView D) : Type 0 where
    pub found : new.found ≡ old.found
    pub opened : new.opened ≡ old.opened
    pub longer : length old.entries ≤ length new.entries
    -- what stands behind the entries and what an append has left, if it met a fault
    pub more : List Entry
    pub script : AllByRecursion (λ e. IsTrue (is_of Script e)) more
    pub grows : entries_of new.entries ++ option_to_list new.rest
        ≡ (entries_of old.entries ++ option_to_list old.rest) ++ more
    -- a crash at any moment leaves the entries from before, and of the others the first ones
    pub images : AddsOnly since clock old.disk new.disk
        (HasAtLeast (entries_of new.entries ++ option_to_list new.rest) (length old.entries))
    pub later : disk_faults old.disk ≤ disk_faults new.disk
    pub ready : IsReady old → IsReady new ⊎ Rose (disk_faults old.disk) (disk_faults new.disk)

  -- and between callers of it, which keep the count of faults that they began with
  pub record LeadsOn (before_old before_new : ℕ) (old new : DeviceView D) : Type 0 where
    pub same : before_new ≡ before_old
    pub leads : Leads old new
