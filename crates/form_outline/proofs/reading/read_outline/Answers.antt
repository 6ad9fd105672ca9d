use Rattle.form_outline.proofs.NameLemmas.{given_is_named}
use Rattle.form_outline.proofs.reading.read_outline.Goals as goal

pub returns-in-Ok-clause-named : goal.returns-in-Ok-clause-named
returns-in-Ok-clause-named c = given_is_named c.in-Ok.doc.root c.outline_of.result c.in-Ok.ensures.names c.outline_of.ensures
