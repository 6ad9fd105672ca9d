-- Rank: an order of the fields in which each comes behind those that it depends on. A field depends on its parent and
-- on the fields that its relevance and its calculation read.
use Rattle.std.specs.Prelude.{ℕ, Bool, true, not, ◌&&◌, ◌==◌, nat_lt, List, [], ◌∷◌, ◌++◌, length, slice_get, false}
use Rattle.std.specs.List.{list_all, list_any, slice_index_or}
use Rattle.std.specs.Option.{option_map_or, option_to_list}
use Rattle.form_def.specs.declared.field.Field.{Field}
use Rattle.form_def.specs.Reads.{reads_of}
use Rattle.form_def.specs.Fields.{parent_of}

-- what the field of a number depends on
abbrev pub dependencies : List Field → ℕ → Field → List ℕ
dependencies fields own f =
    option_to_list (parent_of fields f.path) ++ reads_of own f.relevant ++ reads_of own f.calculate

abbrev pub dependencies_at : List Field → ℕ → List ℕ
dependencies_at fields number = option_map_or (λ f. dependencies fields number f) (slice_get fields number) []

abbrev pub is_among : List ℕ → ℕ → Bool
is_among numbers number = list_any (λ k. k == number) numbers

-- of so many fields, the one of this number isn't placed yet, and all that it needs is
abbrev pub may_come : ℕ → (ℕ → List ℕ) → (ℕ → Bool) → ℕ → Bool
may_come count needs is_placed number =
    nat_lt number count && not (is_placed number) && list_all is_placed (needs number)

-- these may come one after the other behind those
abbrev pub are_ordered : ℕ → (ℕ → List ℕ) → List ℕ → List ℕ → Bool
are_ordered count needs before [] = true
are_ordered count needs before (number ∷ others) =
    may_come count needs (is_among before) number && are_ordered count needs (number ∷ before) others

-- every field once, each behind all that it depends on
abbrev pub is_order : List Field → List ℕ → Bool
is_order fields order = (length order == length fields) && are_ordered (length fields) (dependencies_at fields) [] order

-- the numbers that are marked
abbrev pub is_marked : List Bool → ℕ → Bool
is_marked marks number = slice_index_or marks number false
