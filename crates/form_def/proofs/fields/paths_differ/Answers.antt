use Rattle.form_def.proofs.FieldLemmas.{differ_stop, differ_go_on}
use Rattle.form_def.proofs.fields.paths_differ.Goals as goal

pub returns-then-not-is_new : goal.returns-then-not-is_new
returns-then-not-is_new c =
    differ_stop c.args.fields.now c.loop-first.rest.now c.in-Some.first.now c.in-Some.others.now c.is_new.result
    c.loop-first.invariant c.in-Some.ensures.cases.0 (rw c.bytes.ensures.value at c.is_new.ensures) c.if-not-is_new.true

pub loop-first-preserved : goal.loop-first-preserved
loop-first-preserved c =
    differ_go_on c.args.fields.now c.loop-first.rest.now c.in-Some.first.now c.in-Some.others.now c.is_new.result
    c.loop-first.invariant c.in-Some.ensures.cases.0 (rw c.bytes.ensures.value at c.is_new.ensures) c.if-not-is_new.false
