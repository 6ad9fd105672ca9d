use Rattle.form_list.specs.Lists.{form_list}
use Rattle.form_list.proofs.ReadingLemmas.{refusal_read, tree_read}
use Rattle.form_list.proofs.reading.read_list.Goals as goal

pub returns-in-Ok : goal.returns-in-Ok
returns-in-Ok c = tree_read form_list c.args.bytes.now c.in-Ok.doc c.form_list.result c.in-Ok.ensures.found c.form_list.ensures

pub returns-in-Err : goal.returns-in-Err
returns-in-Err c = rw c.refused.ensures (refusal_read form_list c.args.bytes.now c.in-Err.refusal c.in-Err.ensures.refused)
