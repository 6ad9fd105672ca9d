use Rattle.form_list.specs.Lists.{form_list, manifest}
use Rattle.form_list.proofs.ReadingLemmas.{one_list}
use Rattle.form_list.proofs.laws.one_reading.Goals as goal

pub returns-clause-lists : goal.returns-clause-lists
returns-clause-lists c = one_list form_list

pub returns-clause-manifests : goal.returns-clause-manifests
returns-clause-manifests c = one_list manifest
