use Rattle.form_read.specs.Tables.{scheme}
use Rattle.form_read.proofs.TextLemmas.{prefix_stripped}
use Rattle.form_read.proofs.tables.behind_scheme.Goals as goal

pub returns : goal.returns
returns c = prefix_stripped scheme c.args.source.now c.strip_prefix.result c.strip_prefix.ensures.cases
