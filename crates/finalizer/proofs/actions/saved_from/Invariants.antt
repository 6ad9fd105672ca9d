use Rattle.std.proofs.Common.{◌≡◌, ◌+◌, ◌++◌, length}
use Rattle.finalizer.specs.Actions.{saved_from}
use Rattle.finalizer.proofs.actions.saved_from.Given as goal

abbrev pub invariant-loop-field : goal.invariant-loop-field
invariant-loop-field l =
    (l.props ++ saved_from l.texts l.marks l.number l.rest ≡ saved_from l.texts l.marks 0 l.fields)
    × (l.number + length l.rest ≡ length l.fields)

abbrev pub decreases-loop-field : goal.decreases-loop-field
decreases-loop-field l = length l.rest
