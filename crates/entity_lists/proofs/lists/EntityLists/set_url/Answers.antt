use Rattle.std.proofs.Common.{◌<◌, length, sym, subst, refl}
use Rattle.field_rows.specs.Kept.{Kept}
use Rattle.entity_lists.specs.declared.entity_list.EntityList.{EntityList}
use Rattle.entity_lists.proofs.ListLemmas.{replaced_differ}
use Rattle.entity_lists.proofs.lists.EntityLists.set_url.Goals as goal

pub invariant_of-self : goal.invariant_of-self
invariant_of-self c =
    let old = c.edit.result.now in
    let within = subst (λ (k : Kept EntityList). c.args.place < length k.items) (sym c.self.view_is) c.requires in
    replaced_differ c.self.inside.lists.items c.args.place (record old { url = c.args.url }) old within
    c.edit.ensures.row refl c.self.invariant
