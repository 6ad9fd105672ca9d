use Rattle.std.proofs.Common.{◌≡◌, ◌+◌, length}
use Rattle.question_rules.specs.Faults.{fault_from}
use Rattle.question_rules.proofs.faults.first_fault_in.Given as goal

abbrev pub invariant-loop-field : goal.invariant-loop-field
invariant-loop-field g l =
    let tables = g.T.Tables.tables l.tables in
    (fault_from l.form tables l.texts l.marks l.own l.rest ≡ fault_from l.form tables l.texts l.marks 0 l.form.fields)
    × (l.own + length l.rest ≡ length l.form.fields)

abbrev pub decreases-loop-field : goal.decreases-loop-field
decreases-loop-field g l = length l.rest
