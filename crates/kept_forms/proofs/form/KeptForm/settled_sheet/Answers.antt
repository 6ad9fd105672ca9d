use Rattle.std.proofs.Common.{◌∙◌}
use Rattle.std.proofs.lemmas.Result.{IfOk-weaker}
use Rattle.kept_forms.proofs.KeptFormLemmas.{described_as, same_settled}
use Rattle.kept_forms.proofs.form.KeptForm.settled_sheet.Goals as goal

pub returns : goal.returns
returns g c =
    let form = c.self.inside.definition in
    IfOk-weaker c.settled_in.result _ _ (λ x is. is
    ∙ same_settled (g.T.Tables.tables c.args.tables.now) c.args.sheet.now c.args.self.now form
    (described_as c.self.inside.document c.args.self.now form c.self.view_is c.self.invariant)) c.settled_in.ensures
