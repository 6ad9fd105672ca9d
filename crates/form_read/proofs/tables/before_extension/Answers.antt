use Rattle.form_read.proofs.TextLemmas.{suffix_stripped}
use Rattle.form_read.proofs.tables.before_extension.Goals as goal

pub returns : goal.returns
returns c = suffix_stripped _ c.args.file.now c.strip_suffix.result c.strip_suffix.ensures.cases
