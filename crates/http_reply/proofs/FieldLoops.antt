-- One field of a list after another.
use Rattle.std.proofs.Common.{◌≡◌, ℕ, suc, ◌+◌, Bool, true, false, List, ◌∷◌, All, if◌then◌else◌, map, refl, sym, ap, subst, ◌∙◌, arith}
use Rattle.std.proofs.lemmas.List.Sums.{sum_by-cons}
use Rattle.http_reply.specs.Fields.{is_named, has_value_if_named, field_count, first_value, each_value}

pub all_tail : {A : Type 0} (P : A → Type 0) (xs : List A) (x : A) (ys : List A) → xs ≡ x ∷ ys → All P xs → All P ys
all_tail P xs x ys is all = λ k d within. subst (λ (l : List _). All P l) is all (suc k) d (omega arith)

module _ {A : Type 0} (f : A → List ℕ × List ℕ) (name : List ℕ) (xs : List A) (x : A) (ys : List A) (is : xs ≡ x ∷ ys) where
  pub count_named : true ≡ is_named name (f x) → (total n : ℕ) → total ≡ n + field_count name (map f xs) → total ≡ n + 1 + field_count name (map f ys)
  count_named named total n before =
      let e = ap (λ (l : List A). field_count name (map f l)) is ∙ sum_by-cons (λ p. if is_named name p then 1 else 0) (f x) (map f ys)
      ∙ ap (λ (b : Bool). (if b then 1 else 0) + field_count name (map f ys)) (sym named) in
      omega arith

  pub count_other : false ≡ is_named name (f x) → (total n : ℕ) → total ≡ n + field_count name (map f xs) → total ≡ n + field_count name (map f ys)
  count_other other total n before =
      let e = ap (λ (l : List A). field_count name (map f l)) is ∙ sum_by-cons (λ p. if is_named name p then 1 else 0) (f x) (map f ys)
      ∙ ap (λ (b : Bool). (if b then 1 else 0) + field_count name (map f ys)) (sym other) in
      omega arith

  pub first_other : false ≡ is_named name (f x) → first_value name (map f xs) ≡ first_value name (map f ys)
  first_other other = ap (λ (l : List A). first_value name (map f l)) is ∙ rw (← other) refl

  pub each_step : (value : List ℕ) → true ≡ has_value_if_named name value (f x) → each_value name value (map f xs) ≡ each_value name value (map f ys)
  each_step value same = ap (λ (l : List A). each_value name value (map f l)) is ∙ rw (← same) refl
