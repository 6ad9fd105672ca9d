use Rattle.std.proofs.Common.{◌≡◌, sym, subst, ap, ◌∙◌}
use Rattle.question_rules.specs.Settled.{IsSettled}
use Rattle.question_rules.specs.Along.{settled}
use Rattle.question_rules.proofs.Making.{settled_is}
use Rattle.question_rules.proofs.settling.settle.Goals as goal

pub returns-clause-settled : goal.returns-clause-settled
returns-clause-settled g c =
    let form = c.args.form.now in
    let tables = g.T.Tables.tables c.args.tables.now in
    let before = c.args.sheet.now in
    let e : c.from_texts.result ≡ (settled form tables before).texts =
    c.from_texts.ensures ∙ c.in_ok-texts.ensures ∙ ap (λ texts. (settled form tables texts).texts) (c.in_ok-copy_texts.ensures ∙ c.texts.ensures) in
    subst (IsSettled form tables before) (sym e) ((settled form tables before).marks, settled_is form tables before c.requires)
