use Rattle.std.proofs.Common.{◌≡◌, [], rules, false, nat_lt, length}
use Rattle.std.proofs.lemmas.Result.{err_from_is_err_and}
use Rattle.form_read.specs.Lists.{is_empty}
use Rattle.form_read.specs.Drafts.{most_fields}
use Rattle.form_read.proofs.PathLemmas.{not_empty}
use Rattle.form_read.proofs.FormLemmas.{drafted_refused}
use Rattle.form_read.proofs.form.drafted.Goals as goal

pub returns-in_err-draft : goal.returns-in_err-draft
returns-in_err-draft c =
    let p = err_from_is_err_and c.from_residual-in_err-draft.result c.from_residual-in_err-draft.ensures.1 in
    let slots = rw c.as_slice.ensures at c.in_ok-slots.ensures in
    let start = rw c.as_slice-2.ensures at c.in_ok-start.ensures in
    let filled : c.args.outline.id ≡ [] → ⊥ = search rules in
    let named : is_empty c.args.outline.id ≡ false = not_empty c.args.outline.id filled in
    let few : nat_lt most_fields (length c.in_ok-slots.slots) ≡ false = search rules in
    let refused = rw (c.as_slice-parts.ensures, c.as_slice-3.ensures) at c.in_err-draft.ensures in
    rw (p.1, p.2) (drafted_refused c.args.outline _ _ _ slots start named few refused)
