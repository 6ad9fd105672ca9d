-- Looking up in the rows of a table, one after the other.
use Rattle.std.specs.Prelude.{ℕ, ◌+◌, ◌<◌, ◌≡◌, Bool, true, false, ◌||◌, cond, if◌then◌else◌, List, [], ◌∷◌, ◌++◌, map, flat_map, take, drop, find, Some, None, refl}
use Rattle.std.specs.Option.{option_map_or}
use Rattle.std.specs.Str.{bytes_eq}
use Rattle.std.proofs.Common.{ap, sym, ◌∙◌, get_or, drop-cons, add-one}
use Rattle.std.proofs.lemmas.List.{take_more, map-append, append-nil}
use Rattle.std.proofs.lemmas.Grind.{flat_map-append}
use Rattle.std.proofs.lemmas.List.Folds.{list_any-append}
use Rattle.std.proofs.lemmas.Option.{slice_get-get_or}
use Rattle.field_text.specs.Tables.{NamedTable, table_rows, text_in, cell_text, row_count}
use Rattle.form_def.specs.declared.field.InnerTable.{InnerTable}
use Rattle.form_def.specs.declared.field.OuterTable.{OuterTable}
use Rattle.form_def.specs.declared.form.FormDef.{FormDef}
use Rattle.expr_values.specs.declared.value.Value.{Value}
use Rattle.expr_values.specs.Values.{truth_of}
use Rattle.expr_values.specs.Rows.{Columns, columns_of, outer_rows, rows_named}
use Rattle.expr_values.specs.Evaluation.{looked_up, is_offered}

looked_up-first : (f : Columns → Value) (column : List ℕ) (row : Columns) (rows : List Columns) → truth_of (f row) ≡ true → row column ≡ looked_up f column (row ∷ rows)
looked_up-first f column row rows on = ap (λ b. option_map_or (λ r. r column) (cond b (Some row) (find (λ r. truth_of (f r)) rows)) []) (sym on)

looked_up-others : (f : Columns → Value) (column : List ℕ) (row : Columns) (rows : List Columns) → truth_of (f row) ≡ false → looked_up f column rows ≡ looked_up f column (row ∷ rows)
looked_up-others f column row rows off = ap (λ b. option_map_or (λ r. r column) (cond b (Some row) (find (λ r. truth_of (f r)) rows)) []) (sym off)

columns_at : (tables : List NamedTable) (list : List ℕ) (number : ℕ) → number < row_count tables list → cell_text tables list number ≡ text_in (get_or (table_rows tables list) number [])
columns_at tables list number within =
    ap (λ o column. option_map_or (λ cells. text_in cells column) o []) (slice_get-get_or (table_rows tables list) number [] within)

rows_from : (tables : List NamedTable) (list : List ℕ) (number : ℕ) → number < row_count tables list
    → map text_in (drop number (table_rows tables list)) ≡ cell_text tables list number ∷ map text_in (drop (number + 1) (table_rows tables list))
rows_from tables list number within =
    rw (columns_at tables list number within, add-one number) (ap (map text_in) (drop-cons (table_rows tables list) number [] within))

pub found_outer : (f : Columns → Value) (column : List ℕ) (tables : List NamedTable) (list : List ℕ) (number : ℕ) (holds : Bool) (all : List ℕ) → number < row_count tables list
    → holds ≡ truth_of (f (cell_text tables list number)) → holds ≡ true → looked_up f column (map text_in (drop number (table_rows tables list))) ≡ all
    → cell_text tables list number column ≡ all
found_outer f column tables list number holds all within is on so_far =
    looked_up-first f column (cell_text tables list number) (map text_in (drop (number + 1) (table_rows tables list))) (sym is ∙ on)
    ∙ ap (looked_up f column) (sym (rows_from tables list number within)) ∙ so_far

pub passed_outer : (f : Columns → Value) (column : List ℕ) (tables : List NamedTable) (list : List ℕ) (number : ℕ) (holds : Bool) (all : List ℕ) → number < row_count tables list
    → holds ≡ truth_of (f (cell_text tables list number)) → holds ≡ false → looked_up f column (map text_in (drop number (table_rows tables list))) ≡ all
    → looked_up f column (map text_in (drop (number + 1) (table_rows tables list))) ≡ all
passed_outer f column tables list number holds all within is off so_far =
    looked_up-others f column (cell_text tables list number) (map text_in (drop (number + 1) (table_rows tables list))) (sym is ∙ off)
    ∙ ap (looked_up f column) (sym (rows_from tables list number within)) ∙ so_far

pub rows_inner : (form : FormDef) (tables : List NamedTable) (name : List ℕ) (table : InnerTable) → Some table ≡ find (λ t. bytes_eq t.name name) form.inner
    → rows_named form tables name ≡ map columns_of table.rows
rows_inner form tables name table found = ap (λ o. option_map_or (λ t. map columns_of t.rows) o (outer_rows form.outer tables name)) (sym found)

pub rows_not_inner : (form : FormDef) (tables : List NamedTable) (name : List ℕ) → None ≡ find (λ t. bytes_eq t.name name) form.inner
    → rows_named form tables name ≡ outer_rows form.outer tables name
rows_not_inner form tables name none = ap (λ o. option_map_or (λ t. map columns_of t.rows) o (outer_rows form.outer tables name)) (sym none)

pub rows_outer : (outer : List OuterTable) (tables : List NamedTable) (name : List ℕ) (table : OuterTable) → Some table ≡ find (λ t. bytes_eq t.name name) outer
    → outer_rows outer tables name ≡ map text_in (table_rows tables table.list)
rows_outer outer tables name table found = ap (λ o. option_map_or (λ t. map text_in (table_rows tables t.list)) o []) (sym found)

-- what one row more offers
pub offers_more : (f : Columns → List (List ℕ)) (tables : List NamedTable) (list : List ℕ) (number : ℕ) (old new : List (List ℕ)) → number < row_count tables list
    → old ≡ flat_map f (map text_in (take number (table_rows tables list))) → new ≡ old ++ f (cell_text tables list number)
    → new ≡ flat_map f (map text_in (take (number + 1) (table_rows tables list)))
offers_more f tables list number old new within so_far is =
    let rows = table_rows tables list in
    let cells = get_or rows number [] in
    let more : map text_in (take (number + 1) rows) ≡ map text_in (take number rows) ++ cell_text tables list number ∷ [] =
    rw (columns_at tables list number within) (ap (map text_in) (take_more rows number [] within) ∙ map-append text_in (take number rows) (cells ∷ [])) in
    is ∙ ap (λ o. o ++ f (cell_text tables list number)) so_far
    ∙ sym (ap (flat_map f) more ∙ flat_map-append f (map text_in (take number rows)) (cell_text tables list number ∷ [])
    ∙ ap (λ r. flat_map f (map text_in (take number rows)) ++ r) (append-nil (f (cell_text tables list number))))

-- a row that has another text in its column offers no such choice, and one that has it offers it where its filter holds
pub offer-other : (holds : Bool) (value choice : List ℕ) → bytes_eq value choice ≡ false
    → false ≡ is_offered (if holds then value ∷ [] else []) choice
offer-other true value choice off = rw off refl
offer-other false value choice off = refl

pub offer-same : (holds : Bool) (value choice : List ℕ) → bytes_eq value choice ≡ true
    → holds ≡ is_offered (if holds then value ∷ [] else []) choice
offer-same true value choice on = rw on refl
offer-same false value choice on = refl

first_or_others : (f : Columns → List (List ℕ)) (choice : List ℕ) (row : Columns) (rows : List Columns)
    → is_offered (flat_map f (row ∷ rows)) choice ≡ (is_offered (f row) choice || is_offered (flat_map f rows) choice)
first_or_others f choice row rows = list_any-append (λ value. bytes_eq value choice) (f row) (flat_map f rows)

pub offered-first : (f : Columns → List (List ℕ)) (choice : List ℕ) (row : Columns) (rows : List Columns) (found all : Bool)
    → found ≡ is_offered (f row) choice → found ≡ true → is_offered (flat_map f (row ∷ rows)) choice ≡ all → true ≡ all
offered-first f choice row rows found all is on so_far =
    ap (λ b. b || is_offered (flat_map f rows) choice) (sym on ∙ is) ∙ sym (first_or_others f choice row rows) ∙ so_far

pub offered-others : (f : Columns → List (List ℕ)) (choice : List ℕ) (row : Columns) (rows : List Columns) (found all : Bool)
    → found ≡ is_offered (f row) choice → found ≡ false → is_offered (flat_map f (row ∷ rows)) choice ≡ all
    → is_offered (flat_map f rows) choice ≡ all
offered-others f choice row rows found all is off so_far =
    ap (λ b. b || is_offered (flat_map f rows) choice) (sym off ∙ is) ∙ sym (first_or_others f choice row rows) ∙ so_far

pub offered-first_outer : (f : Columns → List (List ℕ)) (choice : List ℕ) (tables : List NamedTable) (list : List ℕ) (number : ℕ)
    (found all : Bool) → number < row_count tables list → found ≡ is_offered (f (cell_text tables list number)) choice → found ≡ true
    → is_offered (flat_map f (map text_in (drop number (table_rows tables list)))) choice ≡ all → true ≡ all
offered-first_outer f choice tables list number found all within is on so_far =
    offered-first f choice (cell_text tables list number) (map text_in (drop (number + 1) (table_rows tables list))) found all is on
    (ap (λ rows. is_offered (flat_map f rows) choice) (sym (rows_from tables list number within)) ∙ so_far)

pub offered-others_outer : (f : Columns → List (List ℕ)) (choice : List ℕ) (tables : List NamedTable) (list : List ℕ) (number : ℕ)
    (found all : Bool) → number < row_count tables list → found ≡ is_offered (f (cell_text tables list number)) choice → found ≡ false
    → is_offered (flat_map f (map text_in (drop number (table_rows tables list)))) choice ≡ all
    → is_offered (flat_map f (map text_in (drop (number + 1) (table_rows tables list)))) choice ≡ all
offered-others_outer f choice tables list number found all within is off so_far =
    offered-others f choice (cell_text tables list number) (map text_in (drop (number + 1) (table_rows tables list))) found all is off
    (ap (λ rows. is_offered (flat_map f rows) choice) (sym (rows_from tables list number within)) ∙ so_far)
