use Rattle.std.proofs.Common.{subst}
use Rattle.field_text.specs.Steps.{Gives}
use Rattle.question_rules.specs.Answered.{fault_of}
use Rattle.kept_forms.proofs.KeptFormLemmas.{described_as, same_filled}
use Rattle.kept_forms.proofs.form.KeptForm.filled_sheet.Goals as goal

pub returns : goal.returns
returns g c =
    let form = c.self.inside.definition in
    subst (Gives fault_of (λ filled. filled) c.filled_in.result)
    (same_filled (g.T.Tables.tables c.args.tables.now) c.args.sheet.now c.args.path.now c.args.value.now
    c.args.self.now form
    (described_as c.self.inside.document c.args.self.now form c.self.view_is c.self.invariant)) c.filled_in.ensures
