-- A list of one table, and cells by their columns.
use Rattle.std.specs.Prelude.{ℕ, ◌≡◌, true, List, [], ◌∷◌, map, slice_get, Option, Some, None, refl}
use Rattle.std.specs.Option.{option_map, option_map_or}
use Rattle.std.specs.Str.{bytes_eq}
use Rattle.std.proofs.Common.{ap, ◌∙◌, inl, inr}
use Rattle.std.proofs.lemmas.Bool.{cases_Bool}
use Rattle.std.proofs.lemmas.Option.{slice_get-map}
use Rattle.field_text.specs.Tables.{NamedCell, cell_text, text_in}
use Rattle.form_def.specs.declared.field.Cell.{Cell}
use Rattle.expr_values.specs.Rows.{columns_of}

abbrev pub named_cell : Cell → NamedCell
named_cell cell = record { column = cell.column; text = cell.value }

text_in-cells : (cells : List Cell) (column : List ℕ) → text_in (map named_cell cells) column ≡ columns_of cells column
text_in-cells [] column = refl
text_in-cells (cell ∷ cells) column = elim (cases_Bool (bytes_eq cell.column column)) [ inl e ↦ rw e refl | inr e ↦ rw e (text_in-cells cells column) ]

row_or_none : (column : List ℕ) (o : Option (List Cell)) → option_map_or (λ cells. text_in cells column) (option_map (map named_cell) o) [] ≡ option_map_or (λ cells. columns_of cells column) o []
row_or_none column None = refl
row_or_none column (Some cells) = text_in-cells cells column

pub cell_of_one : (name list : List ℕ) (rows : List (List Cell)) (row : ℕ) (column : List ℕ) (o : Option (List Cell)) → bytes_eq name list ≡ true → slice_get rows row ≡ o
    → cell_text (record { name = name; rows = map (map named_cell) rows } ∷ []) list row column ≡ option_map_or (λ cells. columns_of cells column) o []
cell_of_one name list rows row column o named is =
    rw named (ap (λ r. option_map_or (λ cells. text_in cells column) r []) (slice_get-map (map named_cell) rows row ∙ ap (option_map (map named_cell)) is) ∙ row_or_none column o)
