-- Named tables of texts. Of one name the first table counts, and of one column of a row the first cell.
use Rattle.std.specs.Prelude.{ℕ, List, [], length, slice_get, find}
use Rattle.std.specs.Option.{option_map_or}
use Rattle.std.specs.Str.{bytes_eq}

-- a cell: its column and its text
pub record NamedCell : Type 0 where
  pub column : List ℕ
  pub text : List ℕ

pub record NamedTable : Type 0 where
  pub name : List ℕ
  pub rows : List (List NamedCell)

-- the rows of a table, none where no table has the name
abbrev pub table_rows : List NamedTable → List ℕ → List (List NamedCell)
table_rows tables name = option_map_or (λ t. t.rows) (find (λ t. bytes_eq t.name name) tables) []

abbrev pub row_count : List NamedTable → List ℕ → ℕ
row_count tables name = length (table_rows tables name)

-- the text in a column of a row, empty where the row lacks it
abbrev pub text_in : List NamedCell → List ℕ → List ℕ
text_in cells column = option_map_or (λ c. c.text) (find (λ c. bytes_eq c.column column) cells) []

-- the text in a column of the row at a place counted from 0, empty where there is none
abbrev pub cell_text : List NamedTable → List ℕ → ℕ → List ℕ → List ℕ
cell_text tables name row column =
    option_map_or (λ cells. text_in cells column) (slice_get (table_rows tables name) row) []
