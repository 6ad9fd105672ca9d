-- The places of the elements that pass a test, counted from 0.
use Rattle.std.specs.Prelude.{ℕ, ◌+◌, Bool, if◌then◌else◌, List, [], ◌∷◌}

-- the same, the first place being n
abbrev pub places_from : {A : Type 0} → (A → Bool) → ℕ → List A → List ℕ
places_from passes n [] = []
places_from passes n (x ∷ xs) = if passes x then n ∷ places_from passes (n + 1) xs else places_from passes (n + 1) xs

abbrev pub places : {A : Type 0} → (A → Bool) → List A → List ℕ
places passes xs = places_from passes 0 xs
