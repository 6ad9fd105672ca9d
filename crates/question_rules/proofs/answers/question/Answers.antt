use Rattle.std.proofs.Common.{sym, ◌∙◌, ap, position}
use Rattle.std.specs.Str.{bytes_eq}
use Rattle.question_rules.proofs.QuestionLemmas.{question-is}
use Rattle.question_rules.proofs.answers.question.Goals as goal

pub returns-then-is_question : goal.returns-then-is_question
returns-then-is_question c =
    question-is c.args.form.now.fields c.args.path.now c.in-Some.number c.in-Some-get.field.now
    (c.in-Some.ensures ∙ ap (position (λ f. bytes_eq f.path c.args.path.now)) c.as_slice.ensures)
    (sym c.in-Some-get.ensures.value) (sym c.is_question.ensures ∙ c.if-is_question.true)
