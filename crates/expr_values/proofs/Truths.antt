-- A test that holds of two lists joined.
use Rattle.std.specs.Prelude.{ℕ, ◌≡◌, Bool, true, List, ◌++◌}
use Rattle.std.specs.List.{list_all}
use Rattle.std.proofs.Common.{sym, ◌∙◌}
use Rattle.std.proofs.lemmas.Bool.{and_parts}
use Rattle.std.proofs.lemmas.List.Folds.{list_all-append}

pub all-first : (ok : ℕ → Bool) (xs ys : List ℕ) → list_all ok (xs ++ ys) ≡ true → list_all ok xs ≡ true
all-first ok xs ys h = (and_parts (list_all ok xs) (list_all ok ys) (sym (list_all-append ok xs ys) ∙ h)).0

pub all-second : (ok : ℕ → Bool) (xs ys : List ℕ) → list_all ok (xs ++ ys) ≡ true → list_all ok ys ≡ true
all-second ok xs ys h = (and_parts (list_all ok xs) (list_all ok ys) (sym (list_all-append ok xs ys) ∙ h)).1
