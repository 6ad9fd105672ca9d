use Rattle.kept_forms.proofs.KeptFormLemmas.{described_as, same_version}
use Rattle.kept_forms.proofs.form.KeptForm.version.Goals as goal

pub returns : goal.returns
returns c =
    let form = c.self.inside.definition in
    same_version c.args.self.now form (described_as c.self.inside.document c.args.self.now form c.self.view_is
    c.self.invariant)
