use Rattle.rosa_doc.proofs.LocalNames.{read_names}
use Rattle.rosa_doc.proofs.reading.read.Goals as goal

pub returns-in-Ok-clause-names : goal.returns-in-Ok-clause-names
returns-in-Ok-clause-names c = read_names c.in-Ok.text.now c.read_text.result c.read_text.ensures.found
