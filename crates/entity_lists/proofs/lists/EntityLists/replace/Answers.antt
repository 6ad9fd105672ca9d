use Rattle.std.proofs.Common.{◌≡◌, ◌<◌, length, slice_get, Option, IfSome, ap, sym, subst, ◌∙◌}
use Rattle.field_rows.specs.Kept.{Kept}
use Rattle.entity_lists.specs.declared.entity_list.EntityList.{EntityList}
use Rattle.entity_lists.proofs.ListLemmas.{replaced_differ}
use Rattle.entity_lists.proofs.lists.EntityLists.replace.Goals as goal

pub invariant_of-self : goal.invariant_of-self
invariant_of-self c =
    let place = c.args.place in
    let within = subst (λ (k : Kept EntityList). place < length k.items) (sym c.self.view_is) c.requires.within in
    let there = ap (λ (k : Kept EntityList). slice_get k.items place) (sym c.self.view_is) ∙ c.edit.ensures.row in
    let same = subst (λ (o : Option EntityList). IfSome o (λ old. old.name ≡ c.args.list.name)) there c.requires.same_name in
    replaced_differ c.self.inside.lists.items place c.args.list c.edit.result.now within c.edit.ensures.row same
    c.self.invariant
