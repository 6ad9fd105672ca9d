-- Entity lists whose names differ, and what each call makes of them.
use Rattle.std.specs.Prelude.{◌≢◌, ℕ, AllPairs, List, [], ◌∷◌, ◌++◌, Option, Some, None, position, slice_get, slice_set}
use Rattle.std.specs.Option.{option_map_or}
use Rattle.std.specs.Str.{bytes_eq}
use Rattle.entity_lists.specs.declared.entities.EntityRow.{EntityRow}
use Rattle.entity_lists.specs.declared.entity_list.EntityList.{EntityList}

abbrev pub NamesDiffer : List EntityList → Type 0
NamesDiffer lists = AllPairs (λ a b. a.name ≢ b.name) lists

-- the place of the list of a name, counted from 0
abbrev pub list_place : List ℕ → List EntityList → Option ℕ
list_place name lists = position (λ list. bytes_eq list.name name) lists

-- a list of the same name and address that has other rows
abbrev pub with_rows : EntityList → List EntityRow → EntityList
with_rows list rows = record list { rows = rows }

-- a list goes to the place of the one of its name, or else behind the others
abbrev pub put_at : EntityList → List EntityList → Option ℕ → List EntityList
put_at list lists None = lists ++ list ∷ []
put_at list lists (Some place) = slice_set lists place list

abbrev pub put : EntityList → List EntityList → List EntityList
put list lists = put_at list lists (list_place list.name lists)

-- the lists once the one at a place has this address
abbrev pub with_url_at : Option (List ℕ) → ℕ → List EntityList → List EntityList
with_url_at url place lists =
    option_map_or (λ list. slice_set lists place (record list { url = url })) (slice_get lists place) lists
