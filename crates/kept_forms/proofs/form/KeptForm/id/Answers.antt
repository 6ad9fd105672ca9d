use Rattle.kept_forms.proofs.KeptFormLemmas.{described_as, same_id}
use Rattle.kept_forms.proofs.form.KeptForm.id.Goals as goal

pub returns : goal.returns
returns c =
    let form = c.self.inside.definition in
    same_id c.args.self.now form (described_as c.self.inside.document c.args.self.now form c.self.view_is
    c.self.invariant)
