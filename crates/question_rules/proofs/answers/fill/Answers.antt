use Rattle.std.proofs.Common.{◌≡◌, Ok, refl, sym, ◌∙◌, ap, subst}
use Rattle.std.proofs.lemmas.Result.{err_from_is_err_and}
use Rattle.field_text.specs.Steps.{Tells}
use Rattle.question_rules.specs.Answered.{question, answered, fault_of}
use Rattle.question_rules.proofs.QuestionLemmas.{fills, refuses}
use Rattle.question_rules.proofs.answers.fill.Goals as goal

pub returns-in_err-texts-clause-refused : goal.returns-in_err-texts-clause-refused
returns-in_err-texts-clause-refused g c =
    let form = c.args.form.now in
    let tables = g.T.Tables.tables c.args.tables.now in
    let before = c.args.sheet.now in
    let told : Tells (fault_of c.in_err-texts.field-0.0) (answered form tables before c.args.path.now c.args.value.now) =
    subst (λ texts. Tells (fault_of c.in_err-texts.field-0.0) (answered form tables texts c.args.path.now c.args.value.now)) c.texts.ensures c.in_err-texts.ensures in
    let p = err_from_is_err_and c.from_residual.result c.from_residual.ensures.1 in
    rw (p.1, p.2) (refuses form tables before c.args.path.now c.args.value.now c.in_err-texts.field-0.0 c.requires told)

pub returns-clause-filled : goal.returns-clause-filled
returns-clause-filled g c =
    let form = c.args.form.now in
    let tables = g.T.Tables.tables c.args.tables.now in
    let before = c.args.sheet.now in
    let given : answered form tables c.texts.result.now c.args.path.now c.args.value.now ≡ Ok c.in_ok-texts.texts.items = c.in_ok-texts.ensures in
    let told : answered form tables before c.args.path.now c.args.value.now ≡ Ok c.from_texts.result =
    ap (λ texts. answered form tables texts c.args.path.now c.args.value.now) (sym c.texts.ensures) ∙ given ∙ ap Ok (sym c.from_texts.ensures) in
    fills form tables before c.args.path.now c.args.value.now c.from_texts.result c.requires (question form.fields c.args.path.now) refl told
