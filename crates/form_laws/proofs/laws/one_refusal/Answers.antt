use Rattle.form_laws.proofs.RefusalLemmas.{one_refusal}
use Rattle.form_laws.proofs.laws.one_refusal.Goals as goal

pub returns : goal.returns
returns c = one_refusal
