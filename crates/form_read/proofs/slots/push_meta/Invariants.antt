use Rattle.std.proofs.Common.{◌≡◌, ◌++◌, length, false}
use Rattle.form_read.specs.Slots.{meta_slots}
use Rattle.form_read.proofs.slots.push_meta.Given as goal

abbrev pub invariant-loop-part : goal.invariant-loop-part
invariant-loop-part l = l.slots ++ meta_slots l.has_entity l.rest ≡ l.fn.slots ++ meta_slots false l.parts

abbrev pub decreases-loop-part : goal.decreases-loop-part
decreases-loop-part l = length l.rest
