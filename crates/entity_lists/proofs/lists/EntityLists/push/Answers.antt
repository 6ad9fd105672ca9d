use Rattle.std.proofs.Common.{ap, sym, subst, ◌∙◌}
use Rattle.field_rows.specs.Kept.{Kept}
use Rattle.entity_lists.specs.Lists.{NamesDiffer, list_place}
use Rattle.entity_lists.specs.declared.entity_list.EntityList.{EntityList}
use Rattle.entity_lists.proofs.ListLemmas.{pushed_differ}
use Rattle.entity_lists.proofs.lists.EntityLists.push.Goals as goal

pub invariant_of-self : goal.invariant_of-self
invariant_of-self c =
    let none = ap (λ (k : Kept EntityList). list_place c.args.list.name k.items) c.self.view_is ∙ c.requires.new in
    subst NamesDiffer (sym c.push.ensures.items)
    (pushed_differ c.self.inside.lists.items c.args.list none c.self.invariant)
