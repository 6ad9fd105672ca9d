-- The rows are the merged ones, within the limit, and their ids differ.
use Rattle.std.proofs.Common.{◌≡◌, List, Ok, length, arith, ap, sym, subst, ◌∙◌}
use Rattle.std.proofs.lemmas.List.{length-map}
use Rattle.std.proofs.lemmas.Result.{err_from_is_err_and}
use Rattle.entity_lists.specs.Entities.{IdsDiffer}
use Rattle.entity_lists.specs.Lists.{with_rows}
use Rattle.entity_lists.specs.declared.entities.EntityRow.{EntityRow}
use Rattle.entity_merge.specs.Merging.{drawing_rows, fault_of, merged_rows}
use Rattle.entity_merge.proofs.MergeLemmas.{few_drawing, merged_differ}
use Rattle.entity_merge.proofs.StepLemmas.{merged_gives, merged_tells, within_same}
use Rattle.entity_merge.proofs.merging.merge.Goals as goal

pub returns-in_err-all-2 : goal.returns-in_err-all-2
returns-in_err-all-2 c =
    let is = c.in_ok-all.ensures
    ∙ ap (λ (l : List EntityRow). merged_rows l c.args.rows.now c.args.draws) c.as_slice-locals.ensures.rows in
    let p = err_from_is_err_and c.from_residual-in_err-all-2.result c.from_residual-in_err-all-2.ensures.1 in
    rw (p.1, p.2) (merged_tells c.args.list.now c.args.rows.now c.args.draws c.in_ok-all.all.items
    (fault_of c.in_err-all-2.field-0.0) is c.in_err-all-2.ensures)

pub from_items-requires : goal.from_items-requires
from_items-requires c =
    let is = c.in_ok-all.ensures
    ∙ ap (λ (l : List EntityRow). merged_rows l c.args.rows.now c.args.draws) c.as_slice-locals.ensures.rows in
    let kept = within_same c.in_ok-all.all.items c.in_ok-all-2.all c.in_ok-all-2.ensures in
    subst IdsDiffer (sym is ∙ kept)
    (merged_differ c.args.list.now.rows c.args.rows.now c.args.draws c.as_slice-locals.ensures.ids_differ)

pub after-requires : goal.after-requires
after-requires c =
    let items = c.in_ok-drawing.drawing.items in
    let few = few_drawing c.as_slice-locals.result.now c.args.rows.now items c.in_ok-drawing.ensures in
    let len : c.len.result ≡ length items = c.len.ensures ∙ c.in_ok-drawing.drawing.ok.0 in
    omega (arith, c.requires, few, len)

pub returns : goal.returns
returns c =
    let list = c.args.list.now in
    let items = c.in_ok-drawing.drawing.items in
    let is = c.in_ok-all.ensures
    ∙ ap (λ (l : List EntityRow). merged_rows l c.args.rows.now c.args.draws) c.as_slice-locals.ensures.rows in
    let drawn = c.in_ok-drawing.ensures
    ∙ ap (λ (l : List EntityRow). drawing_rows l c.args.rows.now) c.as_slice-locals.ensures.rows in
    let len : c.len.result ≡ length items = c.len.ensures ∙ c.in_ok-drawing.drawing.ok.0 in
    let count = len ∙ sym (length-map items (λ r. r.now)) ∙ ap length drawn in
    let after = sym (c.in_ok-after.ensures ∙ ap (with_rows list) c.from_items.ensures) in
    let draws = sym c.after.ensures in
    merged_gives list c.args.rows.now c.args.draws c.in_ok-all.all.items c.in_ok-all-2.all c.len.result is
    c.in_ok-all-2.ensures count
    ∙ (λ k. Ok (after k, draws k))
