use Rattle.std.proofs.Common.{◌≡◌, length}
use Rattle.form_outline.specs.Outlines.{first_element}
use Rattle.form_outline.proofs.reading.first_element.Given as goal

abbrev pub invariant-loop-node : goal.invariant-loop-node
invariant-loop-node l = first_element l.rest ≡ first_element l.nodes

abbrev pub decreases-loop-node : goal.decreases-loop-node
decreases-loop-node l = length l.rest
