use Rattle.std.proofs.Common.{◌≡◌, length}
use Rattle.form_read.specs.Drafts.{controls_taken}
use Rattle.form_read.proofs.drafts.controls_taken.Given as goal

abbrev pub invariant-loop-control : goal.invariant-loop-control
invariant-loop-control l = controls_taken l.scope l.next l.rest ≡ controls_taken l.scope l.fn.draft l.controls

abbrev pub decreases-loop-control : goal.decreases-loop-control
decreases-loop-control l = length l.rest
