-- A path without one slash at its end.
use Rattle.std.proofs.Common.{◌≡◌, ◌≢◌, ℕ, List, [], ◌∷◌, ◌++◌, refl, ap}
use Rattle.std.proofs.lemmas.Bool.{ne_eqb}
use Rattle.http_wire.specs.Addresses.{without_last_slash}

-- a path that ends with a slash loses it
pub slash_lost : (path : List ℕ) → without_last_slash (path ++ 47 ∷ []) ≡ path
slash_lost [] = refl
slash_lost (b ∷ []) = refl
slash_lost (b ∷ (c ∷ rest)) = ap (λ xs. b ∷ xs) (slash_lost (c ∷ rest))

-- one that doesn't is kept
pub path_kept : (path : List ℕ) → ((front : List ℕ) → path ≢ front ++ 47 ∷ []) → without_last_slash path ≡ path
path_kept [] other = refl
path_kept (b ∷ []) other = rw (ne_eqb b 47 (λ e. other [] (ap (λ x. x ∷ []) e))) refl
path_kept (b ∷ (c ∷ rest)) other =
    ap (λ xs. b ∷ xs) (path_kept (c ∷ rest) (λ front e. other (b ∷ front) (ap (λ xs. b ∷ xs) e)))
