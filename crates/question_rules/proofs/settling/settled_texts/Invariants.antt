use Rattle.std.proofs.Common.{◌≡◌, length}
use Rattle.question_rules.specs.Along.{made_along, settled}
use Rattle.question_rules.proofs.settling.settled_texts.Given as goal

abbrev pub invariant-loop-number : goal.invariant-loop-number
invariant-loop-number g l =
    let tables = g.T.Tables.tables l.tables in
    made_along l.form tables (λ field. field.calculate) l.rest (record { texts = l.texts.items; marks = l.marks.items }) ≡ settled l.form tables l.fn.texts.items

abbrev pub decreases-loop-number : goal.decreases-loop-number
decreases-loop-number g l = length l.rest
