use Rattle.entity_merge.proofs.VersionLemmas.{acted_versions, merged_versions}
use Rattle.entity_merge.proofs.laws.versions_stay_within_their_limit.Goals as goal

pub returns-clause-merge : goal.returns-clause-merge
returns-clause-merge c = merged_versions

pub returns-clause-action : goal.returns-clause-action
returns-clause-action c = acted_versions
