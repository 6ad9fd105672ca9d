use Rattle.rosa_doc.proofs.Escaping.{text_reads, value_reads}
use Rattle.rosa_doc.proofs.laws.written_reads.Goals as goal

pub returns-clause-text : goal.returns-clause-text
returns-clause-text c = text_reads

pub returns-clause-value : goal.returns-clause-value
returns-clause-value c = value_reads
