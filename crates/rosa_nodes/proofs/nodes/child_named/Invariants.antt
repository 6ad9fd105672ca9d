use Rattle.std.proofs.Common.{◌≡◌, length}
use Rattle.rosa_nodes.specs.Nodes.{child_named}
use Rattle.rosa_nodes.proofs.nodes.child_named.Given as goal

abbrev pub invariant-loop-first : goal.invariant-loop-first
invariant-loop-first l = child_named l.name l.rest ≡ child_named l.name l.nodes

abbrev pub decreases-loop-first : goal.decreases-loop-first
decreases-loop-first l = length l.rest
