-- What callers see of a disk in memory.
use Rattle.std.specs.Prelude.{ℕ, List}
use Rattle.disk_model.specs.Images.{held_after_all}
use Rattle.disk_model.specs.declared.calls.Call.{Call}
use Rattle.disk_model.specs.declared.memory.MemDisk.{MemDisk}

-- the bytes that a read gives
abbrev pub mem_bytes : MemDisk → List ℕ
mem_bytes disk = held_after_all disk.first.items disk.calls.items

-- the calls made so far
abbrev pub mem_calls : MemDisk → List Call
mem_calls disk = disk.calls.items

-- the bytes that it was made with
abbrev pub mem_first : MemDisk → List ℕ
mem_first disk = disk.first.items
