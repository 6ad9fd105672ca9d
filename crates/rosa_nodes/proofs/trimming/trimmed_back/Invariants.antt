use Rattle.std.proofs.Common.{◌≡◌, length}
use Rattle.rosa_nodes.specs.Trimming.{trimmed_back}
use Rattle.rosa_nodes.proofs.trimming.trimmed_back.Given as goal

abbrev pub invariant-loop-last : goal.invariant-loop-last
invariant-loop-last l = trimmed_back l.rest ≡ trimmed_back l.fn.bytes

abbrev pub decreases-loop-last : goal.decreases-loop-last
decreases-loop-last l = length l.rest
