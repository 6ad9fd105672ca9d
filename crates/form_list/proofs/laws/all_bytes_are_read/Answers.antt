use Rattle.form_list.specs.Lists.{form_list, manifest}
use Rattle.form_list.proofs.ReadingLemmas.{all_lists}
use Rattle.form_list.proofs.laws.all_bytes_are_read.Goals as goal

pub returns-clause-lists : goal.returns-clause-lists
returns-clause-lists c = all_lists form_list

pub returns-clause-manifests : goal.returns-clause-manifests
returns-clause-manifests c = all_lists manifest
