use Rattle.std.proofs.Common.{◌∙◌}
use Rattle.std.proofs.lemmas.Result.{IfOk-weaker}
use Rattle.kept_forms.proofs.KeptFormLemmas.{described_as, same_lines}
use Rattle.kept_forms.proofs.form.KeptForm.lines.Goals as goal

pub returns : goal.returns
returns g c =
    let form = c.self.inside.definition in
    IfOk-weaker c.lines_in.result _ _ (λ x is. is
    ∙ same_lines (g.T.Tables.tables c.args.tables.now) c.args.sheet.now c.args.self.now form
    (described_as c.self.inside.document c.args.self.now form c.self.view_is c.self.invariant)) c.lines_in.ensures
