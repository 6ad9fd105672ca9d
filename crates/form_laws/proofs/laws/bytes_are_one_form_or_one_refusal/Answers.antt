use Rattle.form_laws.proofs.FormLaws.{reads}
use Rattle.form_laws.proofs.laws.bytes_are_one_form_or_one_refusal.Goals as goal

pub returns : goal.returns
returns c = reads
