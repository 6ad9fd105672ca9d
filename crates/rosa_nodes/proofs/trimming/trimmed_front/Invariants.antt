use Rattle.std.proofs.Common.{◌≡◌, length}
use Rattle.rosa_nodes.specs.Trimming.{trimmed_front}
use Rattle.rosa_nodes.proofs.trimming.trimmed_front.Given as goal

abbrev pub invariant-loop-rest : goal.invariant-loop-rest
invariant-loop-rest l = trimmed_front l.rest ≡ trimmed_front l.fn.bytes

abbrev pub decreases-loop-rest : goal.decreases-loop-rest
decreases-loop-rest l = length l.rest
