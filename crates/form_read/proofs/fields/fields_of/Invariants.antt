use Rattle.std.proofs.Common.{◌≡◌, ◌++◌, length}
use Rattle.form_read.specs.Forms.{fields_of}
use Rattle.form_read.proofs.fields.fields_of.Given as goal

abbrev pub invariant-loop-slot : goal.invariant-loop-slot
invariant-loop-slot l = l.fields ++ fields_of l.slots_left l.bounds_left l.asked_left ≡ fields_of l.fn.slots l.fn.bounds l.fn.asked

abbrev pub decreases-loop-slot : goal.decreases-loop-slot
decreases-loop-slot l = length l.slots_left
