use Rattle.std.proofs.Common.{◌∙◌}
use Rattle.form_expr.proofs.Columns.{no_column}
use Rattle.form_expr.proofs.rows.column_of_path.Goals as goal

pub returns-in_default : goal.returns-in_default
unfolding lib.Utf8.encode
returns-in_default c = no_column c.args.path.now (λ rest same. c.in_default.ensures.cases rest (c.as_str.ensures ∙ same))
