use Rattle.std.proofs.Common.{length}
use Rattle.device_core.proofs.Replays.{SoFar}
use Rattle.device_state.specs.State.{plain}
use Rattle.device_core.proofs.replay.replay.Given as goal

abbrev pub invariant-loop-entry : goal.invariant-loop-entry
invariant-loop-entry l = SoFar l.fn.entries.items l.moment (plain l.state) l.marked.items l.left.items

abbrev pub decreases-loop-entry : goal.decreases-loop-entry
decreases-loop-entry l = length l.left.items
