use Rattle.std.proofs.Common.{◌≡◌, length}
use Rattle.question_rules.specs.Along.{marked_along, shown_marks}
use Rattle.question_rules.proofs.marks.marks_along.Given as goal

abbrev pub invariant-loop-number : goal.invariant-loop-number
invariant-loop-number g l =
    let tables = g.T.Tables.tables l.tables in
    marked_along l.form tables l.texts l.rest l.marks.items ≡ shown_marks l.form tables l.texts

abbrev pub decreases-loop-number : goal.decreases-loop-number
decreases-loop-number g l = length l.rest
