use Rattle.std.proofs.Common.{◌≡◌, ◌++◌, length}
use Rattle.form_outline.specs.Models.{parts_behind, model_of}
use Rattle.form_outline.proofs.model.model_of.Given as goal

abbrev pub invariant-loop-node : goal.invariant-loop-node
invariant-loop-node l = l.parts ++ parts_behind l.has_primary l.rest ≡ model_of l.nodes

abbrev pub decreases-loop-node : goal.decreases-loop-node
decreases-loop-node l = length l.rest
