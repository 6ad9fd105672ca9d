use Rattle.form_laws.proofs.FormLaws.{described}
use Rattle.form_laws.proofs.laws.described_bytes_have_a_form.Goals as goal

pub returns : goal.returns
returns c = described
