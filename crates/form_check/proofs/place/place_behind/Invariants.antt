use Rattle.std.proofs.Common.{◌≡◌, ◌+◌, ◌≤◌, take}
use Rattle.std.specs.List.{fold}
use Rattle.form_check.specs.Places.{moved, start}
use Rattle.form_check.proofs.place.place_behind.Given as goal

abbrev pub invariant-loop-byte : goal.invariant-loop-byte
invariant-loop-byte l = (l.place ≡ fold moved start (take l.byte-index l.bytes))
    × (l.place.line ≤ l.byte-index + 1) × (l.place.column ≤ l.byte-index + 1)
