use Rattle.form_laws.proofs.FormLaws.{refuses}
use Rattle.form_laws.proofs.laws.the_refusal_is_a_cause.Goals as goal

pub returns : goal.returns
returns c = refuses
