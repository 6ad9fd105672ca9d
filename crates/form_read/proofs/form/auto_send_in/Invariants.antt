use Rattle.std.proofs.Common.{◌≡◌, length}
use Rattle.form_read.specs.Forms.{auto_send_in}
use Rattle.form_read.proofs.form.auto_send_in.Given as goal

abbrev pub invariant-loop-part : goal.invariant-loop-part
invariant-loop-part l = auto_send_in l.rest ≡ auto_send_in l.parts

abbrev pub decreases-loop-part : goal.decreases-loop-part
decreases-loop-part l = length l.rest
