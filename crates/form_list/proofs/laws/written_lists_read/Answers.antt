use Rattle.form_list.proofs.WrittenLists.{written_list_reads, written_manifest_reads}
use Rattle.form_list.proofs.laws.written_lists_read.Goals as goal

pub returns-clause-lists : goal.returns-clause-lists
returns-clause-lists c = written_list_reads

pub returns-clause-manifests : goal.returns-clause-manifests
returns-clause-manifests c = written_manifest_reads
