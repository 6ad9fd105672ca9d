use Rattle.outline_laws.proofs.Forms.{refused_for}
use Rattle.outline_laws.proofs.laws.a_refusal_is_the_first_cause.Goals as goal

pub returns : goal.returns
returns c = refused_for
