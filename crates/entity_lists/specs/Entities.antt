-- Rows of entities: their ids differ, so an id has one place among them at most.
use Rattle.std.specs.Prelude.{◌≢◌, ℕ, AllPairs, List, Option, position}
use Rattle.std.specs.Str.{bytes_eq}
use Rattle.entity_lists.specs.declared.entities.EntityRow.{EntityRow}

abbrev pub IdsDiffer : List EntityRow → Type 0
IdsDiffer rows = AllPairs (λ a b. a.id ≢ b.id) rows

-- the place of the entity of an id, counted from 0
abbrev pub entity_place : List ℕ → List EntityRow → Option ℕ
entity_place id rows = position (λ row. bytes_eq row.id id) rows
