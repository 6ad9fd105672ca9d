use Rattle.form_laws.proofs.FormLaws.{describes}
use Rattle.form_laws.proofs.laws.the_form_is_described.Goals as goal

pub returns : goal.returns
returns c = describes
