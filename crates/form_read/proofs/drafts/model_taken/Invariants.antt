use Rattle.std.proofs.Common.{◌≡◌, length}
use Rattle.form_read.specs.Drafts.{model_taken}
use Rattle.form_read.proofs.drafts.model_taken.Given as goal

abbrev pub invariant-loop-part : goal.invariant-loop-part
invariant-loop-part l = model_taken l.scope l.primary l.next l.rest ≡ model_taken l.scope l.primary l.fn.draft l.scope.model

abbrev pub decreases-loop-part : goal.decreases-loop-part
decreases-loop-part l = length l.rest
