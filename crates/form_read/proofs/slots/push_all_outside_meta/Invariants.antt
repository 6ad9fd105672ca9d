use Rattle.std.proofs.Common.{◌≡◌, ◌++◌, take}
use Rattle.std.specs.List.{flat_map}
use Rattle.form_read.specs.Slots.{outside_meta}
use Rattle.form_read.proofs.slots.push_all_outside_meta.Given as goal

abbrev pub invariant-loop-part : goal.invariant-loop-part
invariant-loop-part l = l.slots ≡ l.fn.slots ++ flat_map outside_meta (take l.part-index l.parts)
