use Rattle.kept_forms.proofs.KeptFormLemmas.{described_as, same_auto}
use Rattle.kept_forms.proofs.form.KeptForm.auto_send.Goals as goal

pub returns : goal.returns
returns c =
    let form = c.self.inside.definition in
    same_auto c.args.self.now form (described_as c.self.inside.document c.args.self.now form c.self.view_is
    c.self.invariant)
