use Rattle.std.proofs.Common.{◌≡◌, length}
use Rattle.expr_values.specs.Functions.{cut_at_spaces}
use Rattle.question_rules.specs.Answers.{offered, are_chosen}
use Rattle.question_rules.proofs.answers.are_chosen.Given as goal

abbrev pub invariant-loop-piece : goal.invariant-loop-piece
invariant-loop-piece g l =
    let s = l.scope in
    let values = offered s.form.now (g.T.Tables.tables s.tables.now) s.texts.now s.marks.now s.own l.choices in
    are_chosen values (cut_at_spaces l.rest) ≡ are_chosen values (cut_at_spaces l.fn.text)

abbrev pub decreases-loop-piece : goal.decreases-loop-piece
decreases-loop-piece g l = length l.rest
