use Rattle.std.proofs.Common.{◌≡◌, length}
use Rattle.form_read.specs.Controls.{parts_offered, nothing_offered}
use Rattle.form_read.proofs.controls.parts_offered.Given as goal

abbrev pub invariant-loop-part : goal.invariant-loop-part
invariant-loop-part l = parts_offered l.scope l.path l.offer l.rest ≡ parts_offered l.scope l.path nothing_offered l.parts

abbrev pub decreases-loop-part : goal.decreases-loop-part
decreases-loop-part l = length l.rest
