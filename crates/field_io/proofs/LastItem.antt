-- The last item of a list, changed.
use Rattle.std.proofs.Common.{◌≡◌, List, [], ◌∷◌, ◌++◌, refl, ap}
use Rattle.field_io.specs.Exchanges.{change_last}

pub change_last_snoc : {A : Type 0} (change : A → A) (xs : List A) (x : A) → change_last change (xs ++ x ∷ []) ≡ xs ++ change x ∷ []
change_last_snoc change [] x = refl
change_last_snoc change (y ∷ []) x = refl
change_last_snoc change (y ∷ (z ∷ rest)) x = ap (λ ys. y ∷ ys) (change_last_snoc change (z ∷ rest) x)
