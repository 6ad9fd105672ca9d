use Rattle.outline_laws.proofs.Forms.{is_refused}
use Rattle.outline_laws.proofs.laws.the_first_cause_is_the_refusal.Goals as goal

pub returns : goal.returns
returns c = is_refused
