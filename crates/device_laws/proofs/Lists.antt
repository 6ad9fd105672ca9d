-- Lists of which each element, or one, has what is asked for.
use Rattle.std.proofs.Common.{◌≡◌, inl, inr, ℕ, zero, suc, ◌+◌, List, [], ◌∷◌, ◌++◌, take, Bool, true, false, cond}
use Rattle.std.proofs.Common.{Option, Some, None, refl, sym, ◌∙◌, ap, subst}
use Rattle.std.specs.Prelude.{◌||◌, drop, position, remove, slice_get, slice_set}
use Rattle.std.specs.List.{AllByRecursion, filter, list_any, position_from}
use Rattle.std.proofs.lemmas.Iterator.Adapters.{position_from-zero}
use Rattle.std.proofs.lemmas.Option.{same_Some}
use Rattle.device_laws.specs.Soundness.{AnyByRecursion}

-- x is one of the elements
abbrev pub IsAmong : {T : Type 0} → List T → T → Type 0
IsAmong xs x = AnyByRecursion (λ y. y ≡ x) xs

-- ---- one of the elements

pub any_then : {T : Type 0} {P Q : T → Type 0} (xs : List T) → ((x : T) → P x → Q x) → AnyByRecursion P xs
    → AnyByRecursion Q xs
any_then [] f any = any
any_then (x ∷ xs) f (inl here) = inl (f x here)
any_then (x ∷ xs) f (inr there) = inr (any_then xs f there)

module _ {T : Type 0} (P : T → Type 0) where
  pub any_at : (xs : List T) (n : ℕ) (x : T) → slice_get xs n ≡ Some x → P x → AnyByRecursion P xs
  any_at [] n x at holds = absurd (cc at)
  any_at (y ∷ ys) zero x at holds = inl (subst P (sym (same_Some y x at)) holds)
  any_at (y ∷ ys) (suc n) x at holds = inr (any_at ys n x at holds)

  pub any_front : (xs ys : List T) → AnyByRecursion P xs → AnyByRecursion P (xs ++ ys)
  any_front [] ys any = absurd any
  any_front (x ∷ xs) ys (inl here) = inl here
  any_front (x ∷ xs) ys (inr there) = inr (any_front xs ys there)

  behind_test : (b : Bool) (x : T) (xs : List T) → AnyByRecursion P xs → AnyByRecursion P (cond b (x ∷ xs) xs)
  behind_test true x xs any = inr any
  behind_test false x xs any = any

  -- an element that the test lets through
  pub any_filtered : (keep : T → Bool) (xs : List T) → ((x : T) → P x → keep x ≡ true) → AnyByRecursion P xs
      → AnyByRecursion P (filter keep xs)
  any_filtered keep [] kept any = any
  any_filtered keep (x ∷ xs) kept (inl here) =
      subst (λ b. AnyByRecursion P (cond b (x ∷ filter keep xs) (filter keep xs))) (sym (kept x here)) (inl here)
  any_filtered keep (x ∷ xs) kept (inr there) =
      behind_test (keep x) x (filter keep xs) (any_filtered keep xs kept there)

or_second : (a b : Bool) → b ≡ true → (a || b) ≡ true
or_second true b is = refl
or_second false b is = is

-- what passes a test and is among the elements
pub passes_among : {T : Type 0} (test : T → Bool) (xs : List T) (x : T) → IsAmong xs x → test x ≡ true
    → list_any test xs ≡ true
passes_among test [] x among is = absurd among
passes_among test (y ∷ ys) x (inl here) is = ap (λ b. b || list_any test ys) (ap test here ∙ is)
passes_among test (y ∷ ys) x (inr there) is = or_second (test y) (list_any test ys) (passes_among test ys x there is)

-- ---- each element

pub all_then : {T : Type 0} {P Q : T → Type 0} (xs : List T) → ((x : T) → P x → Q x) → AllByRecursion P xs
    → AllByRecursion Q xs
all_then [] f all = tt
all_then (x ∷ xs) f (here, there) = (f x here, all_then xs f there)

-- what follows for the elements alone
pub all_among : {T : Type 0} {P Q : T → Type 0} (xs : List T) → ((x : T) → IsAmong xs x → P x → Q x)
    → AllByRecursion P xs → AllByRecursion Q xs
all_among [] f all = tt
all_among (x ∷ xs) f (here, there) = (f x (inl refl) here, all_among xs (λ y among. f y (inr among)) there)

-- what holds of every element whatever it is
pub all_elements : {T : Type 0} {P : T → Type 0} (xs : List T) → ((x : T) → IsAmong xs x → P x)
    → AllByRecursion P xs
all_elements [] f = tt
all_elements (x ∷ xs) f = (f x (inl refl), all_elements xs (λ y among. f y (inr among)))

module _ {T : Type 0} (P : T → Type 0) where
  pub one_of : (xs : List T) (x : T) → IsAmong xs x → AllByRecursion P xs → P x
  one_of [] x among all = absurd among
  one_of (y ∷ ys) x (inl here) (holds, rest) = subst P here holds
  one_of (y ∷ ys) x (inr there) (holds, rest) = one_of ys x there rest

  pub all_joined : (xs ys : List T) → AllByRecursion P xs → AllByRecursion P ys → AllByRecursion P (xs ++ ys)
  all_joined [] ys all others = others
  all_joined (x ∷ xs) ys (here, there) others = (here, all_joined xs ys there others)

  all_taken : (n : ℕ) (xs : List T) → AllByRecursion P xs → AllByRecursion P (take n xs)
  all_taken zero xs all = tt
  all_taken (suc n) [] all = tt
  all_taken (suc n) (x ∷ xs) (here, there) = (here, all_taken n xs there)

  all_dropped : (n : ℕ) (xs : List T) → AllByRecursion P xs → AllByRecursion P (drop n xs)
  all_dropped zero xs all = all
  all_dropped (suc n) [] all = tt
  all_dropped (suc n) (x ∷ xs) (here, there) = all_dropped n xs there

  pub all_removed : (xs : List T) (n : ℕ) → AllByRecursion P xs → AllByRecursion P (remove xs n)
  all_removed xs n all = all_joined (take n xs) (drop (suc n) xs) (all_taken n xs all) (all_dropped (suc n) xs all)

  pub all_set : (xs : List T) (n : ℕ) (y : T) → P y → AllByRecursion P xs → AllByRecursion P (slice_set xs n y)
  all_set [] n y holds all = tt
  all_set (x ∷ xs) zero y holds (here, there) = (holds, there)
  all_set (x ∷ xs) (suc n) y holds (here, there) = (here, all_set xs n y holds there)

  behind_any_test : (b : Bool) (x : T) (xs : List T) → P x → AllByRecursion P xs
      → AllByRecursion P (cond b (x ∷ xs) xs)
  behind_any_test true x xs here there = (here, there)
  behind_any_test false x xs here there = there

  pub all_filtered : (keep : T → Bool) (xs : List T) → AllByRecursion P xs → AllByRecursion P (filter keep xs)
  all_filtered keep [] all = tt
  all_filtered keep (x ∷ xs) (here, there) =
      behind_any_test (keep x) x (filter keep xs) here (all_filtered keep xs there)

-- ---- places

pub among_at : {T : Type 0} (xs : List T) (n : ℕ) (x : T) → slice_get xs n ≡ Some x → IsAmong xs x
among_at xs n x at = any_at (λ y. y ≡ x) xs n x at refl

module _ {T : Type 0} (test : T → Bool) where
  not_here : (b : Bool) (n : ℕ) (o : Option ℕ) → cond b (Some n) o ≡ None → (b ≡ false) × (o ≡ None)
  not_here true n o none = absurd (cc none)
  not_here false n o none = (refl, none)

  none_from : (n : ℕ) (xs : List T) → position_from test n xs ≡ None → AllByRecursion (λ x. test x ≡ false) xs
  none_from n [] none = tt
  none_from n (x ∷ xs) none =
      let parts = not_here (test x) n (position_from test (n + 1) xs) none in
      (parts.0, none_from (n + 1) xs parts.1)

  -- where no place passes none of the elements does
  pub none_passes : (xs : List T) → position test xs ≡ None → AllByRecursion (λ x. test x ≡ false) xs
  none_passes xs none = none_from 0 xs (sym (position_from-zero test xs) ∙ none)
