use Rattle.form_expr.proofs.Texts.{itemset_found, itemset_refused, itemset_is_read}
use Rattle.form_expr.proofs.reading.read_itemset.Goals as goal

pub returns-clause-found : goal.returns-clause-found
returns-clause-found c = itemset_found c.args.text.now c.utf8.text c.itemset_in.result c.itemset_in.ensures

pub returns-clause-refused : goal.returns-clause-refused
returns-clause-refused c = itemset_refused c.args.text.now c.utf8.text c.itemset_in.result c.itemset_in.ensures

pub returns-clause-complete : goal.returns-clause-complete
returns-clause-complete c = itemset_is_read c.args.text.now
