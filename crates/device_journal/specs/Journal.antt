-- What callers see of a journal.
use Rattle.std.specs.Prelude.{ℕ, ◌+◌, Option}
use Rattle.disk_model.specs.declared.disk.Disk.{Ghosts}
use Rattle.device_journal.specs.declared.journal.Journal.{Journal}

-- the disk that it stands on
abbrev pub journal_disk : {D : Type 0} {G : Ghosts D} → Journal D G → D
journal_disk journal = journal.disk

-- one more than the place of the gate behind its last frame
abbrev pub journal_length : {D : Type 0} {G : Ghosts D} → Journal D G → ℕ
journal_length journal = journal.gate + 1

-- the moment after the sync that its opening began with
abbrev pub journal_opened : {D : Type 0} {G : Ghosts D} → Journal D G → ℕ
journal_opened journal = journal.opened

-- the disk's count of faults when an append met one, if one has
abbrev pub journal_failed : {D : Type 0} {G : Ghosts D} → Journal D G → Option ℕ
journal_failed journal = journal.failed
