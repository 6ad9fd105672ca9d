use Rattle.form_read.specs.Forms as forms
use Rattle.form_read.proofs.DifferLemmas.{model_has_primary}
use Rattle.form_read.proofs.FormLemmas.{if_err}
use Rattle.form_read.proofs.form.read_form.Goals as goal

pub form_of-requires-clause-primary : goal.form_of-requires-clause-primary
form_of-requires-clause-primary c = model_has_primary c.args.bytes.now c.in-Ok.outline c.in-Ok.ensures.found

pub returns-in-Ok-clause-refused : goal.returns-in-Ok-clause-refused
returns-in-Ok-clause-refused c = if_err c.form_of.result (λ refusal why. forms.no_form c.in-Ok.outline refusal c.in-Ok.ensures.found why) c.form_of.ensures.refused

pub returns-in-Err-clause-refused : goal.returns-in-Err-clause-refused
returns-in-Err-clause-refused c = rw c.refusal_of.ensures (forms.no_outline c.in-Err.fault c.in-Err.ensures.refused)
