use Rattle.std.proofs.Common.{◌≡◌, length}
use Rattle.form_read.specs.Primary.{paths_taken}
use Rattle.form_read.proofs.primary.paths_taken.Given as goal

abbrev pub invariant-loop-field : goal.invariant-loop-field
invariant-loop-field l = paths_taken l.more l.rest ≡ paths_taken l.fn.paths l.fields

abbrev pub decreases-loop-field : goal.decreases-loop-field
decreases-loop-field l = length l.rest
