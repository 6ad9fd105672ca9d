use Rattle.std.proofs.Common.{◌≡◌, length}
use Rattle.form_outline.specs.Outlines.{has_body_first}
use Rattle.form_outline.proofs.reading.has_body_first.Given as goal

abbrev pub invariant-loop-node : goal.invariant-loop-node
invariant-loop-node l = has_body_first l.rest ≡ has_body_first l.nodes

abbrev pub decreases-loop-node : goal.decreases-loop-node
decreases-loop-node l = length l.rest
