use Rattle.std.proofs.Common.{sym, subst, ap, ◌∙◌}
use Rattle.std.proofs.lemmas.Result.{IfOk-weaker}
use Rattle.question_rules.specs.Shown.{IsShown}
use Rattle.question_rules.specs.Along.{shown_marks}
use Rattle.question_rules.proofs.Making.{shown_is}
use Rattle.question_rules.proofs.marks.shown_marks.Goals as goal

pub returns-clause-shown : goal.returns-clause-shown
returns-clause-shown g c =
    let form = c.args.form.now in
    let tables = g.T.Tables.tables c.args.tables.now in
    IfOk-weaker c.marks_along.result _ _ (λ marks made. subst (IsShown form tables c.args.sheet.now)
    (sym (made ∙ ap (shown_marks form tables) c.texts.ensures)) (shown_is form tables c.args.sheet.now c.requires)) c.marks_along.ensures
