-- Look-ups in mapped lists, and cells by their columns.
use Rattle.std.proofs.Common.{◌≡◌, ◌≢◌, ℕ, Bool, List, [], ◌∷◌, map, find, length, slice_get, Option, Some, None, ap, refl, inl, inr, ◌∙◌}
use Rattle.std.specs.Option.{option_map, option_map_or}
use Rattle.std.specs.Str.{bytes_eq}
use Rattle.std.proofs.lemmas.Bool.{cases_Bool}
use Rattle.std.proofs.lemmas.List.{length-map}
use Rattle.std.proofs.lemmas.Slice.Eq.{bytes_eq-Decides}
use Rattle.std.proofs.lemmas.Option.{slice_get-map}
use Rattle.field_text.specs.Tables.{NamedCell, NamedTable, cell_text, row_count, table_rows, text_in}
use Rattle.entity_lists.specs.EntityTables.{entity_cells, list_table, prop_cell, tables_of}
use Rattle.entity_lists.specs.declared.entities.Prop.{Prop}
use Rattle.entity_lists.specs.declared.entities.EntityRow.{EntityRow}
use Rattle.entity_lists.specs.declared.entity_list.EntityList.{EntityList}

pub find-map : {X Y : Type 0} (p : Y → Bool) (f : X → Y) (xs : List X) → find p (map f xs) ≡ option_map f (find (λ x. p (f x)) xs)
find-map p f [] = refl
find-map p f (x ∷ xs) = elim (cases_Bool (p (f x))) [ inl e ↦ rw e refl | inr e ↦ rw e (find-map p f xs) ]

-- a column of another name than the one looked for is passed over
pub other_column : (cell : NamedCell) (cells : List NamedCell) (name : List ℕ) → cell.column ≢ name → text_in (cell ∷ cells) name ≡ text_in cells name
other_column cell cells name other = elim (cases_Bool (bytes_eq cell.column name)) [
  | inl e ↦ absurd (other ((bytes_eq-Decides cell.column name).0 e))
  | inr e ↦ rw e refl
]

-- ---- properties

text_or_none : (o : Option Prop) → option_map_or (λ (c : NamedCell). c.text) (option_map prop_cell o) [] ≡ option_map_or (λ (p : Prop). p.value) o []
text_or_none None = refl
text_or_none (Some p) = refl

pub text_in-props : (props : List Prop) (name : List ℕ) (o : Option Prop) → find (λ (p : Prop). bytes_eq p.name name) props ≡ o
    → text_in (map prop_cell props) name ≡ option_map_or (λ (p : Prop). p.value) o []
text_in-props props name o is =
    let found = find-map (λ (c : NamedCell). bytes_eq c.column name) prop_cell props ∙ ap (option_map prop_cell) is in
    ap (λ (f : Option NamedCell). option_map_or (λ (c : NamedCell). c.text) f []) found ∙ text_or_none o

-- ---- lists

rows_or_none : (o : Option EntityList) → option_map_or (λ (t : NamedTable). t.rows) (option_map list_table o) [] ≡ option_map_or (λ (l : EntityList). map entity_cells l.rows) o []
rows_or_none None = refl
rows_or_none (Some l) = refl

pub table_rows-lists : (lists : List EntityList) (name : List ℕ) (o : Option EntityList) → find (λ (l : EntityList). bytes_eq l.name name) lists ≡ o
    → table_rows (tables_of lists) name ≡ option_map_or (λ (l : EntityList). map entity_cells l.rows) o []
table_rows-lists lists name o is =
    let found = find-map (λ (t : NamedTable). bytes_eq t.name name) list_table lists ∙ ap (option_map list_table) is in
    ap (λ (f : Option NamedTable). option_map_or (λ (t : NamedTable). t.rows) f []) found ∙ rows_or_none o

cell_or_none : (column : List ℕ) (o : Option EntityRow) → option_map_or (λ (cells : List NamedCell). text_in cells column) (option_map entity_cells o) [] ≡ option_map_or (λ (r : EntityRow). text_in (entity_cells r) column) o []
cell_or_none column None = refl
cell_or_none column (Some r) = refl

pub cell_text-list : (lists : List EntityList) (name : List ℕ) (list : EntityList) (row : ℕ) (column : List ℕ) (o : Option EntityRow)
    → find (λ (l : EntityList). bytes_eq l.name name) lists ≡ Some list → slice_get list.rows row ≡ o
    → cell_text (tables_of lists) name row column ≡ option_map_or (λ (r : EntityRow). text_in (entity_cells r) column) o []
cell_text-list lists name list row column o is row_is =
    ap (λ (rows : List (List NamedCell)). option_map_or (λ (cells : List NamedCell). text_in cells column) (slice_get rows row) []) (table_rows-lists lists name (Some list) is)
    ∙ ap (λ (r : Option (List NamedCell)). option_map_or (λ (cells : List NamedCell). text_in cells column) r []) (slice_get-map entity_cells list.rows row ∙ ap (option_map entity_cells) row_is)
    ∙ cell_or_none column o

pub cell_text-none : (lists : List EntityList) (name : List ℕ) (row : ℕ) (column : List ℕ) → find (λ (l : EntityList). bytes_eq l.name name) lists ≡ None
    → cell_text (tables_of lists) name row column ≡ []
cell_text-none lists name row column is =
    ap (λ (rows : List (List NamedCell)). option_map_or (λ (cells : List NamedCell). text_in cells column) (slice_get rows row) []) (table_rows-lists lists name None is)

pub row_count-list : (lists : List EntityList) (name : List ℕ) (list : EntityList) → find (λ (l : EntityList). bytes_eq l.name name) lists ≡ Some list
    → row_count (tables_of lists) name ≡ length list.rows
row_count-list lists name list is = ap length (table_rows-lists lists name (Some list) is) ∙ length-map list.rows entity_cells

pub row_count-none : (lists : List EntityList) (name : List ℕ) → find (λ (l : EntityList). bytes_eq l.name name) lists ≡ None → row_count (tables_of lists) name ≡ 0
row_count-none lists name is = ap length (table_rows-lists lists name None is)
