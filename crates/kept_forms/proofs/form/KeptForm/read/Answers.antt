use Rattle.std.proofs.Common.{subst}
use Rattle.form_read.specs.Forms.{Describes, Refuses}
use Rattle.kept_forms.proofs.KeptFormLemmas.{read_gives, read_tells}
use Rattle.kept_forms.proofs.form.KeptForm.read.Goals as goal

pub invariant_of-result : goal.invariant_of-result
invariant_of-result c = subst (λ bytes. Describes bytes c.in-Ok.definition) c.bytes.ensures c.in-Ok.ensures.form

pub returns-in-Ok : goal.returns-in-Ok
returns-in-Ok c = read_gives c.args.document c.in-Ok.definition
    (subst (λ bytes. Describes bytes c.in-Ok.definition) c.bytes.ensures c.in-Ok.ensures.form)

pub returns-in-Err : goal.returns-in-Err
returns-in-Err c = read_tells c.args.document c.in-Err.why
    (subst (λ bytes. Refuses bytes c.in-Err.why) c.bytes.ensures c.in-Err.ensures.refused)
