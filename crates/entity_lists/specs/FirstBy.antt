-- The elements of a list that are the first of their key.
use Rattle.std.specs.Prelude.{ℕ, not, List, [], ◌∷◌, filter}
use Rattle.std.specs.Str.{bytes_eq}

-- of the elements of each key the first, in their order
abbrev pub first_by : {X : Type 0} → (X → List ℕ) → List X → List X
first_by key [] = []
first_by key (x ∷ xs) = x ∷ filter (λ other. not (bytes_eq (key other) (key x))) (first_by key xs)
