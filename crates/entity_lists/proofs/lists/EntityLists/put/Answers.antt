use Rattle.std.proofs.Common.{sym, ◌∙◌}
use Rattle.entity_lists.proofs.ListLemmas.{found_name}
use Rattle.entity_lists.proofs.lists.EntityLists.put.Goals as goal

pub replace-requires-clause-same_name : goal.replace-requires-clause-same_name
replace-requires-clause-same_name c =
    found_name c.args.list.name c.args.self.now.items c.in-Some.place (sym c.find.ensures ∙ c.in-Some.is)
