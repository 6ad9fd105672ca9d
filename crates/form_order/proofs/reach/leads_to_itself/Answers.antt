use Rattle.std.proofs.Common.{◌≡◌, ◌≤◌, ◌+◌, Some, length, sym, ap, ◌∙◌, subst, IsTrue, ◌↔◌, Bool}
use Rattle.std.specs.List.{slice_get}
use Rattle.std.proofs.lemmas.Option.{get_or_from_slice_get}
use Rattle.std.proofs.lemmas.List.{length-replicate}
use Rattle.form_def.specs.Order.{is_marked}
use Rattle.form_order.specs.declared.reach.Reach.{Reach}
use Rattle.form_order.specs.Cycles.{Leads}
use Rattle.form_order.specs.Rows.{row}
use Rattle.form_order.specs.Reached.{unreached, with_all_found}
use Rattle.form_order.proofs.ReachLemmas.{Reaches, reaches_end, reaches_more, reaches_start, row_below, slice_get_within, slice_get_past}
use Rattle.form_order.proofs.reach.leads_to_itself.Goals as goal

pub add_all-requires : goal.add_all-requires
add_all-requires c =
    row_below c.args.rows.now c.args.number c.row.result.now (length c.in_ok-reach.reach.marks) c.requires c.row.ensures (ap (λ r. length r.marks) c.in_ok-reach.ensures ∙ length-replicate _ _)

pub loop-found-init : goal.loop-found-init
loop-found-init c =
    subst (λ (r : Reach). Reaches c.args.rows.now c.args.number 0 r)
    (sym (c.in_ok-add_all.ensures ∙ (ap (λ r. with_all_found r c.row.result.now) c.in_ok-reach.ensures ∙ ap (λ xs. with_all_found (unreached (length c.args.rows.now)) xs) c.row.ensures)))
    (reaches_start c.args.rows.now c.args.number c.requires)

pub add_all-requires-in-Some : goal.add_all-requires-in-Some
add_all-requires-in-Some c =
    row_below c.args.rows.now c.in-Some.found c.row-in-Some.result.now (length c.loop-found.reach.marks) c.requires c.row-in-Some.ensures c.loop-found.invariant.reach.marked

pub loop-found-preserved : goal.loop-found-preserved
loop-found-preserved c =
    let at : slice_get c.loop-found.reach.found c.loop-found.next ≡ Some c.in-Some.found = sym c.get.ensures.value ∙ (sym c.copied.ensures ∙ c.in-Some.is) in
    subst (λ (r : Reach). Reaches c.args.rows.now c.args.number (c.loop-found.next + 1) r)
    (sym (c.in_ok-add_all-2.ensures ∙ ap (λ xs. with_all_found c.loop-found.reach xs) c.row-in-Some.ensures))
    (reaches_more c.args.rows.now c.args.number c.loop-found.next c.in-Some.found c.loop-found.reach c.requires c.loop-found.invariant
    (slice_get_within c.loop-found.reach.found c.loop-found.next c.in-Some.found at) (get_or_from_slice_get c.loop-found.reach.found c.loop-found.next c.in-Some.found 0 at))

pub returns : goal.returns
returns c =
    let past : length c.loop-found.reach.found ≤ c.loop-found.next =
    slice_get_past c.loop-found.reach.found c.loop-found.next (λ x at. c.in_default.not-Some x (c.copied.ensures ∙ (c.get.ensures.value ∙ at))) in
    subst (λ (b : Bool). IsTrue b ↔ Leads (row c.args.rows.now) c.args.number c.args.number)
    (sym (c.is_marked.ensures ∙ ap (λ m. is_marked m c.args.number) c.as_slice.ensures))
    (reaches_end c.args.rows.now c.args.number c.loop-found.next c.loop-found.reach c.loop-found.invariant past)
