use Rattle.form_read.proofs.LawLemmas.{form_or_refusal}
use Rattle.form_read.proofs.laws.form_or_refusal.Goals as goal

pub returns : goal.returns
returns c = form_or_refusal
