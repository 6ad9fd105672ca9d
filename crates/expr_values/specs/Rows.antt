-- Rows of tables, each as what stands in its columns.
use Rattle.std.specs.Prelude.{ℕ, List, [], map, find}
use Rattle.std.specs.Option.{option_map_or}
use Rattle.std.specs.Str.{bytes_eq}
use Rattle.field_text.specs.Tables.{NamedTable, table_rows, text_in}
use Rattle.form_def.specs.declared.field.Cell.{Cell}
use Rattle.form_def.specs.declared.field.OuterTable.{OuterTable}
use Rattle.form_def.specs.declared.form.FormDef.{FormDef}

-- the text of each column
abbrev pub Columns : Type 0
Columns = List ℕ → List ℕ

-- outside any row
abbrev pub no_columns : Columns
no_columns column = []

-- of one column the first cell counts
abbrev pub columns_of : List Cell → Columns
columns_of cells column = option_map_or (λ cell. cell.value) (find (λ cell. bytes_eq cell.column column) cells) []

-- the rows of the outer table of a name
abbrev pub outer_rows : List OuterTable → List NamedTable → List ℕ → List Columns
outer_rows outer tables name = option_map_or (λ table. map text_in (table_rows tables table.list))
    (find (λ table. bytes_eq table.name name) outer) []

-- the rows of the first inner table of a name, else of the first outer one, else none
abbrev pub rows_named : FormDef → List NamedTable → List ℕ → List Columns
rows_named form tables name = option_map_or (λ table. map columns_of table.rows)
    (find (λ table. bytes_eq table.name name) form.inner) (outer_rows form.outer tables name)
