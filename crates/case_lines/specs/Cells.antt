-- What is printed of a row of cells.
use Rattle.std.specs.Prelude.{ℕ, List, [], ◌∷◌, ◌++◌, codes}
use Rattle.std.specs.List.{flat_map}
use Rattle.form_def.specs.declared.field.Cell.{Cell}

abbrev pub cell_printed : Cell → List ℕ
cell_printed cell = cell.column ++ codes "=[" ++ cell.value ++ codes "]"

abbrev pub further_cell_printed : Cell → List ℕ
further_cell_printed cell = codes " " ++ cell_printed cell

-- cells with a space between two of them
abbrev pub cells_printed : List Cell → List ℕ
cells_printed [] = []
cells_printed (cell ∷ cells) = cell_printed cell ++ flat_map further_cell_printed cells

-- cells between parentheses
abbrev pub row_printed : List Cell → List ℕ
row_printed cells = codes " (" ++ cells_printed cells ++ codes ")"
