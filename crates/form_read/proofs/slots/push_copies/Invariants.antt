use Rattle.std.proofs.Common.{◌≡◌, ◌++◌, take}
use Rattle.form_read.proofs.slots.push_copies.Given as goal

abbrev pub invariant-loop-field : goal.invariant-loop-field
invariant-loop-field l = l.slots ≡ l.fn.slots ++ take l.field-index l.fields
