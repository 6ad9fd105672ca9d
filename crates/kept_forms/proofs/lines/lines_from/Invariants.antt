use Rattle.std.proofs.Common.{◌≡◌, ◌+◌, ◌++◌, length}
use Rattle.kept_forms.specs.KeptForms.{lines_from}
use Rattle.kept_forms.proofs.lines.lines_from.Given as goal

abbrev pub invariant-loop-field : goal.invariant-loop-field
invariant-loop-field l = (l.lines ++ lines_from l.texts l.marks l.number l.rest ≡ lines_from l.texts l.marks 0 l.fields)
    × (l.number + length l.rest ≡ length l.fields)

abbrev pub decreases-loop-field : goal.decreases-loop-field
decreases-loop-field l = length l.rest
