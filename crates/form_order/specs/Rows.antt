-- What each field depends on, a row a field.
use Rattle.std.specs.Prelude.{ℕ, ◌+◌, ◌<◌, List, [], ◌∷◌, length, Contains}
use Rattle.std.specs.List.{slice_index_or}
use Rattle.form_def.specs.declared.field.Field.{Field}
use Rattle.form_def.specs.Order.{dependencies}

-- the rows of these of the fields, the first of which has this number
abbrev pub rows_from : List Field → ℕ → List Field → List (List ℕ)
rows_from fields number [] = []
rows_from fields number (f ∷ fs) = dependencies fields number f ∷ rows_from fields (number + 1) fs

abbrev pub rows_of : List Field → List (List ℕ)
rows_of fields = rows_from fields 0 fields

abbrev pub row : List (List ℕ) → ℕ → List ℕ
row rows number = slice_index_or rows number []

-- the rows have no number but those of rows
abbrev pub AreWithin : List (List ℕ) → Type 0
AreWithin rows = (a b : ℕ) → Contains (row rows a) b → b < length rows
