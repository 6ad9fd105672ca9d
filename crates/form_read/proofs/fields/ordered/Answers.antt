use Rattle.std.proofs.lemmas.Option.{slice_get-get_or}
use Rattle.std.proofs.lemmas.Result.{err_from_is_err_and}
use Rattle.form_read.specs.Forms as forms
use Rattle.form_read.proofs.FormLemmas.{cycle_told}
use Rattle.form_read.proofs.fields.ordered.Goals as goal

pub returns-in_err-path-in-Err-Cycle-clause-refused : goal.returns-in_err-path-in-Err-Cycle-clause-refused
returns-in_err-path-in-Err-Cycle-clause-refused c =
    let p = err_from_is_err_and c.from_residual.result c.from_residual.ensures.1 in
    rw (p.1, p.2) forms.lacks_memory

pub returns-in_ok-path-in-Err-Cycle-clause-refused : goal.returns-in_ok-path-in-Err-Cycle-clause-refused
returns-in_ok-path-in-Err-Cycle-clause-refused c =
    let first = rw c.in-Err-Cycle.field-0-is at c.in-Err-Cycle.ensures.refused in
    let at = slice_get-get_or c.args.fields.now c.in-Err-Cycle.field c.index-fields-field.result first.0 in
    cycle_told c.args.fields.now _ _ c.in_ok-path-in-Err-Cycle.path first at c.in_ok-path-in-Err-Cycle.ensures

pub returns-in-Err-NoMemory-clause-refused : goal.returns-in-Err-NoMemory-clause-refused
returns-in-Err-NoMemory-clause-refused c = forms.lacks_memory
