-- What callers see of a device that is called by a hand.
use Rattle.std.specs.Prelude.{ℕ}
use Rattle.disk_model.specs.declared.disk.Disk.{Ghosts}
use Rattle.device_core.specs.declared.caller.DeviceCaller.{DeviceCaller}
use Rattle.device_core.specs.View.{DeviceView}

abbrev pub device_of : {D : Type 0} {G : Ghosts D} → DeviceCaller D G → DeviceView D
device_of caller = caller.device

-- the disk's count of faults before the first call
abbrev pub faults_before : {D : Type 0} {G : Ghosts D} → DeviceCaller D G → ℕ
faults_before caller = caller.before

abbrev pub refusals_of : {D : Type 0} {G : Ghosts D} → DeviceCaller D G → ℕ
refusals_of caller = caller.refusals

abbrev pub closings_of : {D : Type 0} {G : Ghosts D} → DeviceCaller D G → ℕ
closings_of caller = caller.closings
