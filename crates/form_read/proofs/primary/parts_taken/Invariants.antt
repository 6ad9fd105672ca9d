use Rattle.std.proofs.Common.{◌≡◌, length}
use Rattle.form_read.specs.Primary.{parts_taken, nothing_seen}
use Rattle.form_read.proofs.primary.parts_taken.Given as goal

abbrev pub invariant-loop-part : goal.invariant-loop-part
invariant-loop-part l = parts_taken l.root l.seen l.rest ≡ parts_taken l.root nothing_seen l.parts

abbrev pub decreases-loop-part : goal.decreases-loop-part
decreases-loop-part l = length l.rest
