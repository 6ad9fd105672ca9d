-- Savepoints: a list in which each key stands once at most.
use Rattle.std.specs.Prelude.{ℕ, Bool, false, not, ◌==◌, List, [], ◌∷◌, ◌++◌, position, remove, slice_get, Option, Some, None, option_map}
use Rattle.std.specs.List.{filter}
use Rattle.std.specs.Option.{option_and_then}
use Rattle.field_rows.specs.Edited.{edited}
use Rattle.savepoints.specs.Keys.{same_key}
use Rattle.savepoints.specs.declared.keys.Key.{Key}
use Rattle.savepoints.specs.declared.keys.KeyBase.{KeyBase}
use Rattle.savepoints.specs.declared.keys.KeyBase.TheVariants.{Blank, Draft, Edit}
use Rattle.savepoints.specs.declared.store.Savepoint.{Savepoint}

abbrev pub is_at : Key → Savepoint → Bool
is_at key s = same_key key s.key

-- the place of the savepoint of a key
abbrev pub place_of : Key → List Savepoint → Option ℕ
place_of key savepoints = position (is_at key) savepoints

abbrev pub sheet_at : List Savepoint → ℕ → Option (List (List ℕ))
sheet_at savepoints place = option_map (λ s. s.sheet) (slice_get savepoints place)

-- the sheet of a key
abbrev pub found : Key → List Savepoint → Option (List (List ℕ))
found key savepoints = option_and_then (sheet_at savepoints) (place_of key savepoints)

abbrev pub put_at : Key → List (List ℕ) → List Savepoint → Option ℕ → List Savepoint
put_at key sheet savepoints None = savepoints ++ record { key = key; sheet = sheet } ∷ []
put_at key sheet savepoints (Some place) = edited (λ s. record s { sheet = sheet }) place savepoints

-- the savepoints once the sheet of a key is put
abbrev pub put : Key → List (List ℕ) → List Savepoint → List Savepoint
put key sheet savepoints = put_at key sheet savepoints (place_of key savepoints)

abbrev pub removed_at : List Savepoint → Option ℕ → List Savepoint
removed_at savepoints None = savepoints
removed_at savepoints (Some place) = remove savepoints place

-- the savepoints without that of a key
abbrev pub removed : Key → List Savepoint → List Savepoint
removed key savepoints = removed_at savepoints (place_of key savepoints)

abbrev pub base_on : ℕ → KeyBase → Bool
base_on number Blank = false
base_on number (Draft base) = base == number
base_on number (Edit base) = base == number

-- a savepoint of a draft or an edit of the instance with this number
abbrev pub stands_on : ℕ → Savepoint → Bool
stands_on number s = base_on number s.key.base

-- the savepoints without those that stand on an instance
abbrev pub removed_on : ℕ → List Savepoint → List Savepoint
removed_on number savepoints = filter (λ s. not (stands_on number s)) savepoints
