use Rattle.form_read.proofs.LawLemmas.{one_form}
use Rattle.form_read.proofs.laws.one_form.Goals as goal

pub returns : goal.returns
returns c = one_form
