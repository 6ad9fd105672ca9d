use Rattle.std.proofs.lemmas.Result.{err_from_is_err_and}
use Rattle.form_read.specs.Forms as forms
use Rattle.form_read.proofs.FormLemmas.{refuses_part, refuses_order, form_is, sound, drafted_within, if_err, if_ok}
use Rattle.form_read.proofs.form.form_of.Goals as goal

pub returns-in_err-drafted-clause-refused : goal.returns-in_err-drafted-clause-refused
returns-in_err-drafted-clause-refused c =
    let p = err_from_is_err_and c.from_residual.result c.from_residual.ensures.1 in
    rw (p.1, p.2) (refuses_part c.args.outline _ c.in_err-drafted.ensures)

pub parts_of-requires : goal.parts_of-requires
parts_of-requires c = drafted_within c.args.outline _ c.in_ok-drafted.ensures

pub returns-in_err-parts-clause-refused : goal.returns-in_err-parts-clause-refused
returns-in_err-parts-clause-refused c =
    let p = err_from_is_err_and c.from_residual-in_err-parts.result c.from_residual-in_err-parts.ensures.1 in
    rw (p.1, p.2) (refuses_order c.args.outline _ _ c.in_ok-drafted.ensures c.in_err-parts.ensures.refused)

pub form_from-requires : goal.form_from-requires
form_from-requires c = sound c.args.outline _ _ c.requires.named c.requires.primary c.in_ok-drafted.ensures c.in_ok-parts.ensures.parts c.in_ok-parts.ensures.order

pub returns-clause-form : goal.returns-clause-form
returns-clause-form c = if_ok c.form_from.result (λ form is. form_is c.args.outline _ _ form c.in_ok-drafted.ensures c.in_ok-parts.ensures.parts c.in_ok-parts.ensures.no_cycle is) c.form_from.ensures.form

pub returns-clause-refused : goal.returns-clause-refused
returns-clause-refused c = if_err c.form_from.result (λ refusal is. rw is forms.by_memory) c.form_from.ensures.refused
