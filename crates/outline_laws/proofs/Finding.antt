-- The first item that passes a test, when one more stands behind.
use Rattle.std.specs.Prelude.{◌≡◌, Bool, true, false, List, [], ◌∷◌, ◌++◌, find, Option, Some, None, refl}
use Rattle.std.specs.List.{list_any}
use Rattle.std.specs.Option.{option_or}
use Rattle.std.proofs.Common.{ap, sym, ◌∙◌}
use Rattle.std.proofs.lemmas.List.Folds.{find-append}

pub find_none : {A : Type 0} (t : A → Bool) (xs : List A) (x : A) → find t xs ≡ None → t x ≡ false → find t (xs ++ x ∷ []) ≡ None
find_none t xs x none off = find-append t xs (x ∷ []) ∙ ap (λ o. option_or o (find t (x ∷ []))) none ∙ rw off refl

pub find_new : {A : Type 0} (t : A → Bool) (xs : List A) (x : A) → find t xs ≡ None → t x ≡ true → find t (xs ++ x ∷ []) ≡ Some x
find_new t xs x none on = find-append t xs (x ∷ []) ∙ ap (λ o. option_or o (find t (x ∷ []))) none ∙ rw on refl

pub find_kept : {A : Type 0} (t : A → Bool) (xs : List A) (x y : A) → find t xs ≡ Some y → find t (xs ++ x ∷ []) ≡ Some y
find_kept t xs x y found = find-append t xs (x ∷ []) ∙ ap (λ o. option_or o (find t (x ∷ []))) found

pub none_any : {A : Type 0} (t : A → Bool) (xs : List A) → find t xs ≡ None → list_any t xs ≡ false
none_any t [] none = refl
none_any t (y ∷ xs) none = by (none_any t xs) (t y) refl
  where
    by : (find t xs ≡ None → list_any t xs ≡ false) → (b : Bool) → t y ≡ b → list_any t (y ∷ xs) ≡ false
    by further true is = let e : Some y ≡ None = sym (rw is refl) ∙ none in absurd (cc (e))
    by further false is = rw is (further (sym (rw is refl) ∙ none))

pub some_any : {A : Type 0} (t : A → Bool) (xs : List A) (y : A) → find t xs ≡ Some y → list_any t xs ≡ true
some_any t [] y found = absurd (cc (found))
some_any t (z ∷ xs) y found = by (some_any t xs y) (t z) refl
  where
    by : (find t xs ≡ Some y → list_any t xs ≡ true) → (b : Bool) → t z ≡ b → list_any t (z ∷ xs) ≡ true
    by further true is = rw is refl
    by further false is = rw is (further (sym (rw is refl) ∙ found))

option_or_none : {A : Type 0} (o : Option A) → option_or o None ≡ o
option_or_none None = refl
option_or_none (Some x) = refl

pub find_other : {A : Type 0} (t : A → Bool) (xs : List A) (x : A) → t x ≡ false → find t (xs ++ x ∷ []) ≡ find t xs
find_other t xs x off = find-append t xs (x ∷ []) ∙ ap (option_or (find t xs)) (rw off refl) ∙ option_or_none (find t xs)
