use Rattle.kept_forms.proofs.KeptFormLemmas.{described_as}
use Rattle.kept_forms.proofs.form.KeptForm.definition.Goals as goal

pub returns : goal.returns
returns c = described_as c.self.inside.document c.args.self.now c.self.inside.definition c.self.view_is c.self.invariant
