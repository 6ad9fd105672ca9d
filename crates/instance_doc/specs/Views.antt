-- The rows of the code as those of the definitions.
use Rattle.std.specs.Prelude.{List}
use Rattle.instance_doc.specs.declared.rows.Row.{Row as RowHere}
use Rattle.instance_doc.specs.declared.rows.Rows.{Rows}
use Rattle.instance_doc.specs.Rows.{Row, rows_of}

abbrev pub row_in : RowHere → Row
row_in r = record { field = r.field.now; text = r.text.now; shown = r.shown }

abbrev pub rows_in : Rows → List Row
rows_in r = rows_of r.fields.now r.texts.now r.shown.now
