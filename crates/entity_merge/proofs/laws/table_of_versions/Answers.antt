use Rattle.entity_merge.proofs.VersionLemmas.{line_of}
use Rattle.entity_merge.proofs.laws.table_of_versions.Goals as goal

pub returns : goal.returns
returns c = line_of
