use Rattle.form_def.proofs.PathLemmas.{is_attribute-other}
use Rattle.form_def.proofs.paths.is_attribute.Goals as goal

pub returns-in-None : goal.returns-in-None
unfolding lib.Utf8.encode
returns-in-None c = is_attribute-other c.args.name.now c.in-None.ensures.cases
