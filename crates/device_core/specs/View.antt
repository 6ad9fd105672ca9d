-- What a device shows of its parts, and what its calls do to them.
use Rattle.std.specs.Prelude.{◌≡◌, ℕ, List, [], ◌∷◌, ◌++◌, length, take, Option, Some, None, Ok}
use Rattle.entry_form.specs.declared.entry.Entry.{Entry}
use Rattle.device_rules.specs.declared.answer.Answer.{Answer}
use Rattle.device_state.specs.declared.state.State.{State}
use Rattle.device_rules.specs.declared.trail.Marked.{Marked}
use Rattle.device_state.specs.State.{initial}
use Rattle.device_rules.specs.Step.{step}
use Rattle.device_rules.specs.Trail.{entries_of, marked_at, replay}

-- what a device shows: its disk and state, its entries with their moments, how many of them opening found, and, where
-- an append met a fault of the disk, how many faults were counted then
pub record DeviceView (D : Type 0) : Type 0 where
  pub disk : D
  pub state : State
  pub entries : List Marked
  pub found : ℕ
  pub failed : Option ℕ
  -- the moment after the sync that opening began with
  pub opened : ℕ
  -- the entry whose append met that fault
  pub rest : Option Entry

-- no append has met a fault of the disk
pub record IsReady {D : Type 0} (device : DeviceView D) : Type 0 where
  pub sound : device.failed ≡ None
  pub none_left : device.rest ≡ None

-- the device has just been opened: behind the entries found stands the opening, and nothing else
pub record IsOpened {D : Type 0} (opening : Entry) (device : DeviceView D) : Type 0 where
  pub last : entries_of device.entries ≡ take device.found (entries_of device.entries) ++ opening ∷ []
  pub legal : replay initial (entries_of device.entries) ≡ Some device.state
  pub ready : IsReady device

-- entries and state are as they were
pub record Stays {D : Type 0} (old new : DeviceView D) : Type 0 where
  pub entries : new.entries ≡ old.entries
  pub state : new.state ≡ old.state
  pub found : new.found ≡ old.found

-- the entry was appended at this position with this answer, as the rules say, and the entries before it are as they
-- were
pub record Appends {D : Type 0} (entry : Entry) (position : ℕ) (answer : Answer) (old new : DeviceView D) : Type 0 where
  pub moment : ℕ
  pub entries : new.entries ≡ old.entries ++ marked_at moment entry ∷ []
  pub stepped : step old.state entry ≡ Ok (new.state, answer)
  pub legal : replay initial (entries_of old.entries) ≡ Some old.state
  pub position_is : position ≡ length new.entries
  pub found : new.found ≡ old.found
  pub was_sound : old.failed ≡ None
  pub ready : IsReady new
