use Rattle.form_laws.proofs.FormLaws.{refused}
use Rattle.form_laws.proofs.laws.refused_bytes_have_their_refusal.Goals as goal

pub returns : goal.returns
returns c = refused
