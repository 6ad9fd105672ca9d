use Rattle.outline_laws.proofs.Forms.{form_says}
use Rattle.outline_laws.proofs.laws.a_form_says_what_its_outline_says.Goals as goal

pub returns : goal.returns
returns c = form_says
