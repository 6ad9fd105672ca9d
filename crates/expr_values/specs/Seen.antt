-- What the values of the code stand for: a scope, and the row that a filter is asked of.
use Rattle.std.specs.Prelude.{List}
use Rattle.field_text.specs.Tables.{NamedTable, cell_text}
use Rattle.expr_values.specs.declared.rows.Row.{Row}
use Rattle.expr_values.specs.declared.rows.Row.TheVariants.{Absent, Inner, Outer}
use Rattle.expr_values.specs.declared.evaluation.Scope.{Scope}
use Rattle.expr_values.specs.Rows.{Columns, no_columns, columns_of}
use Rattle.expr_values.specs.Evaluation.{Surroundings, surroundings_of}

abbrev pub columns_seen : List NamedTable → Row → Columns
columns_seen tables Absent = no_columns
columns_seen tables (Inner cells) = columns_of cells.now
columns_seen tables (Outer list number) = cell_text tables list.now number

-- what expressions are read against in a scope, with the tables of its device
abbrev pub surroundings_seen : {T : Type 0} → List NamedTable → Scope T → Surroundings
surroundings_seen tables scope = surroundings_of scope.form.now tables scope.texts.now scope.marks.now scope.own
