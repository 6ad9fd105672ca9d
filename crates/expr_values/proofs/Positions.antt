-- The first place at which a test holds.
use Rattle.std.specs.Prelude.{ℕ, ◌<◌, ◌≤◌, ◌≡◌, Bool, true, false, not, cond, List, length, nat_lt, Some, None, position, refl}
use Rattle.std.specs.List.{position_or_len}
use Rattle.std.proofs.Common.{arith, ltb-true, get_or}
use Rattle.std.proofs.lemmas.Bool.{ltb-false, not-true}
use Rattle.std.proofs.lemmas.List.Sums.{prefix_len_passes}

some_at : {X : Type 0} (p : X → Bool) (xs : List X) (place : ℕ) (b : Bool) → nat_lt (position_or_len p xs) (length xs) ≡ b
    → Some place ≡ cond b (Some (position_or_len p xs)) None → (position_or_len p xs < length xs) × (place ≡ position_or_len p xs)
some_at p xs place true e h = (ltb-true _ _ e, cc)
some_at p xs place false e h = absurd cc

none_at : {X : Type 0} (p : X → Bool) (xs : List X) (b : Bool) → nat_lt (position_or_len p xs) (length xs) ≡ b
    → None ≡ cond b (Some (position_or_len p xs)) None → length xs ≤ position_or_len p xs
none_at p xs true e h = absurd cc
none_at p xs false e h = ltb-false _ _ e

pub found_at : {X : Type 0} (p : X → Bool) (xs : List X) (place : ℕ) → Some place ≡ position p xs → (position_or_len p xs < length xs) × (place ≡ position_or_len p xs)
found_at p xs place found = some_at p xs place _ refl found

-- where it holds at none, it fails at each
pub fails_at : {X : Type 0} (p : X → Bool) (xs : List X) → None ≡ position p xs → (k : ℕ) (d : X) → k < length xs → p (get_or xs k d) ≡ false
fails_at p xs none k d within =
    let far : length xs ≤ position_or_len p xs = none_at p xs _ refl none in
    not-true (p (get_or xs k d)) (prefix_len_passes (λ x. not (p x)) xs k d (omega arith))
