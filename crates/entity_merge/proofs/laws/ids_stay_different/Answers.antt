use Rattle.entity_merge.proofs.ActionLemmas.{acted_differ}
use Rattle.entity_merge.proofs.MergeLemmas.{merged_differ}
use Rattle.entity_merge.proofs.laws.ids_stay_different.Goals as goal

pub returns-clause-merge : goal.returns-clause-merge
returns-clause-merge c = merged_differ

pub returns-clause-action : goal.returns-clause-action
returns-clause-action c = acted_differ
