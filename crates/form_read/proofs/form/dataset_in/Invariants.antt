use Rattle.std.proofs.Common.{◌≡◌, length}
use Rattle.form_read.specs.Forms.{dataset_in}
use Rattle.form_read.proofs.form.dataset_in.Given as goal

abbrev pub invariant-loop-part : goal.invariant-loop-part
invariant-loop-part l = dataset_in l.rest ≡ dataset_in l.parts

abbrev pub decreases-loop-part : goal.decreases-loop-part
decreases-loop-part l = length l.rest
