use Rattle.form_expr.proofs.Texts.{expr_found, expr_refused, expr_is_read}
use Rattle.form_expr.proofs.reading.read_expr.Goals as goal

pub returns-clause-found : goal.returns-clause-found
returns-clause-found c = expr_found c.args.text.now c.utf8.text c.expr_in.result c.expr_in.ensures

pub returns-clause-refused : goal.returns-clause-refused
returns-clause-refused c = expr_refused c.args.text.now c.utf8.text c.expr_in.result c.expr_in.ensures

pub returns-clause-complete : goal.returns-clause-complete
returns-clause-complete c = expr_is_read c.args.text.now
