-- The first elements of each key, and what one more element adds to them.
use Rattle.std.proofs.Common.{◌≡◌, ℕ, ◌+◌, ◌≤◌, not, Bool, true, false, true≢false, if◌then◌else◌, List, [], ◌∷◌, ◌++◌, length, filter, arith, ap, sym, refl, inl, inr, ◌∙◌}
use Rattle.std.specs.List.{list_any}
use Rattle.std.specs.Str.{bytes_eq}
use Rattle.std.proofs.lemmas.Bool.{cases_Bool}
use Rattle.std.proofs.lemmas.List.Elements.{filter-append}
use Rattle.std.proofs.lemmas.List.Sums.{count_by-le-length, length-filter}
use Rattle.std.proofs.lemmas.Slice.Eq.{bytes_eq-Decides}
use Rattle.entity_lists.specs.FirstBy.{first_by}

abbrev pub has_key : {X : Type 0} → (X → List ℕ) → List ℕ → X → Bool
has_key key k x = bytes_eq (key x) k

pub same_text : (a b : List ℕ) → bytes_eq a b ≡ true → a ≡ b
same_text a b e = (bytes_eq-Decides a b).0 e

pub eq_self : (a : List ℕ) → bytes_eq a a ≡ true
eq_self a = (bytes_eq-Decides a a).1 refl

pub other_text : (a b : List ℕ) → bytes_eq a b ≡ false → bytes_eq b a ≡ false
other_text a b e = elim (cases_Bool (bytes_eq b a)) [
  | inl f ↦ absurd (true≢false (sym ((bytes_eq-Decides a b).1 (sym (same_text b a f))) ∙ e))
  | inr f ↦ f
]

-- a test of keys that a key passes keeps each element of that key
pub any_passing : {X : Type 0} (key : X → List ℕ) (p : List ℕ → Bool) (k : List ℕ) (xs : List X) → p k ≡ true
    → list_any (has_key key k) (filter (λ (x : X). p (key x)) xs) ≡ list_any (has_key key k) xs
any_passing key p k [] passes = refl
any_passing key p k (x ∷ xs) passes = elim (cases_Bool (bytes_eq (key x) k)) [
  | inl e ↦
      let px : p (key x) ≡ true = ap p (same_text (key x) k e) ∙ passes in
      rw (px, e) refl
  | inr e ↦ elim (cases_Bool (p (key x))) [
    | inl px ↦ rw (px, e) (any_passing key p k xs passes)
    | inr px ↦ rw (px, e) (any_passing key p k xs passes)
  ]
]

pub any_first_by : {X : Type 0} (key : X → List ℕ) (k : List ℕ) (xs : List X) → list_any (has_key key k) (first_by key xs) ≡ list_any (has_key key k) xs
any_first_by key k [] = refl
any_first_by key k (x ∷ xs) = elim (cases_Bool (bytes_eq (key x) k)) [
  | inl e ↦ rw e refl
  | inr e ↦
      let other = other_text (key x) k e in
      let passes : not (bytes_eq k (key x)) ≡ true = rw other refl in
      rw e (any_passing key (λ (o : List ℕ). not (bytes_eq o (key x))) k (first_by key xs) passes ∙ any_first_by key k xs)
]

-- an element that is taken where it is new, and where it passes a test
abbrev pub if_new : {X : Type 0} → Bool → X → List X
if_new taken x = if taken then [] else x ∷ []

abbrev pub if_passes : {X : Type 0} → Bool → X → List X
if_passes passes x = if passes then x ∷ [] else []

pub first_by-push : {X : Type 0} (key : X → List ℕ) (xs : List X) (x : X) → first_by key (xs ++ x ∷ []) ≡ first_by key xs ++ if_new (list_any (has_key key (key x)) (first_by key xs)) x
first_by-push key [] x = refl
first_by-push {X} key (a ∷ xs) x =
    let rest = first_by key xs in
    let taken = list_any (has_key key (key x)) rest in
    let others = λ (o : X). not (bytes_eq (key o) (key a)) in
    let ih = first_by-push key xs x in
    elim (cases_Bool (bytes_eq (key a) (key x))) [
      | inl e ↦
          let same : bytes_eq (key x) (key a) ≡ true = (bytes_eq-Decides (key x) (key a)).1 (sym (same_text (key a) (key x) e)) in
          let gone : filter others (if_new taken x) ≡ [] = elim taken as (λ b. filter others (if_new b x) ≡ []) [ true ↦ refl | false ↦ rw same refl ] in
          rw (e, ih, filter-append, gone) refl
      | inr e ↦
          let other = other_text (key a) (key x) e in
          let passes : not (bytes_eq (key x) (key a)) ≡ true = rw other refl in
          let kept : filter others (if_new taken x) ≡ if_new taken x = elim taken as (λ b. filter others (if_new b x) ≡ if_new b x) [ true ↦ refl | false ↦ rw other refl ] in
          rw (e, ih, filter-append, kept, any_passing key (λ (o : List ℕ). not (bytes_eq o (key a))) (key x) rest passes) refl
    ]

pub length-filter-le : {X : Type 0} (p : X → Bool) (xs : List X) → length (filter p xs) ≤ length xs
length-filter-le p xs = omega (arith, length-filter p xs, count_by-le-length p xs)

pub length-first_by : {X : Type 0} (key : X → List ℕ) (xs : List X) → length (first_by key xs) ≤ length xs
length-first_by key [] = omega arith
length-first_by {X} key (x ∷ xs) = omega (arith, length-first_by key xs, length-filter-le (λ (o : X). not (bytes_eq (key o) (key x))) (first_by key xs))
