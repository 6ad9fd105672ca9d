use Rattle.std.proofs.Common.{◌≡◌, sym, ap, ◌∙◌, ◌∷◌, length-set, ◌<◌, arith, length}
use Rattle.form_def.specs.Order.{dependencies_at, is_marked, may_come}
use Rattle.form_def.proofs.FieldLemmas.{is_marked-set, are_ordered-more, may_come_within}
use Rattle.form_def.proofs.order.is_order.Goals as goal

pub loop-number-preserved : goal.loop-number-preserved
loop-number-preserved c =
    let so_far = c.loop-number.invariant in
    let fields = c.args.fields.now in
    let number = c.in-Some.number.now in
    let may = sym (ap (λ m. may_come (length fields) (dependencies_at fields) (is_marked m) number) c.as_slice.ensures.value) ∙ sym c.in_ok-may_come.ensures ∙ c.if-not-branch.false in (
      number ∷ so_far.0,
      is_marked-set c.loop-number.placed.items number so_far.0 (let low : number < length fields = may_come_within (length fields) (dependencies_at fields) (is_marked c.loop-number.placed.items) number may in let long : length c.loop-number.placed.items ≡ length fields = so_far.3 in omega arith) so_far.1,
      are_ordered-more (length fields) (dependencies_at fields) so_far.0 c.loop-number.placed.items number c.in-Some.others.now c.loop-number.rest.now c.args.order.now so_far.1 c.in-Some.ensures.cases.0 may so_far.2,
      length-set _ _ _ ∙ so_far.3,
    )
