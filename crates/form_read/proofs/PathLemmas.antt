-- Climbing step by step.
use Rattle.std.specs.Prelude.{◌≡◌, ℕ, ◌<◌, ◌+◌, Bool, true, false, if◌then◌else◌, List, [], ◌∷◌, ◌++◌, Option, Some, None, refl, length}
use Rattle.std.proofs.Common.{ap, sym, arith}
use Rattle.form_def.specs.Paths.{parent_path}
use Rattle.form_read.specs.Lists.{is_empty}
use Rattle.form_read.specs.Paths.{is_step, past_step, climbed}

none_some : {A : Type 0} {x : A} → None ≡ Some x → ⊥
none_some is = cc

same : {A : Type 0} {x y : A} → Some x ≡ Some y → x ≡ y
same is = cc

abbrev up : List ℕ → List ℕ → Option (List ℕ)
up own steps = if is_empty own then None else climbed (parent_path own) steps

up_if : (b : Bool) (own path steps rest : List ℕ) → (if b then Some rest else None) ≡ Some steps → (if b then up own rest else Some (own ++ 47 ∷ path)) ≡ up own steps
up_if true own path steps rest is = ap (up own) (same is)
up_if false own path steps rest is = absurd (none_some is)

named_if : (b : Bool) (own path rest : List ℕ) → (if b then Some rest else None) ≡ None → (if b then up own rest else Some (own ++ 47 ∷ path)) ≡ Some (own ++ 47 ∷ path)
named_if true own path rest is = absurd (none_some (sym is))
named_if false own path rest is = refl

-- one step up
pub climbed_up : (own path steps : List ℕ) → past_step path ≡ Some steps → climbed own path ≡ up own steps
climbed_up own [] steps is = absurd (none_some is)
climbed_up own (a ∷ []) steps is = absurd (none_some is)
climbed_up own (a ∷ b ∷ []) steps is = absurd (none_some is)
climbed_up own (a ∷ b ∷ c ∷ rest) steps is = up_if (is_step a b c) own (a ∷ b ∷ c ∷ rest) steps rest is

-- names are left
pub climbed_named : (own path : List ℕ) → past_step path ≡ None → climbed own path ≡ Some (own ++ 47 ∷ path)
climbed_named own [] is = refl
climbed_named own (a ∷ []) is = refl
climbed_named own (a ∷ b ∷ []) is = refl
climbed_named own (a ∷ b ∷ c ∷ rest) is = named_if (is_step a b c) own (a ∷ b ∷ c ∷ rest) rest is

shorter_if : (b : Bool) (n : ℕ) (rest steps : List ℕ) → (if b then Some rest else None) ≡ Some steps → length steps < length rest + 3
shorter_if true n rest steps is = let h : length rest ≡ length steps = ap length (same is) in omega arith
shorter_if false n rest steps is = absurd (none_some is)

pub step_shorter : (path steps : List ℕ) → past_step path ≡ Some steps → length steps < length path
step_shorter [] steps is = absurd (none_some is)
step_shorter (a ∷ []) steps is = absurd (none_some is)
step_shorter (a ∷ b ∷ []) steps is = absurd (none_some is)
step_shorter (a ∷ b ∷ c ∷ rest) steps is = let h = shorter_if (is_step a b c) 0 rest steps is in omega (arith, h)

pub not_empty : (xs : List ℕ) → (xs ≡ [] → ⊥) → is_empty xs ≡ false
not_empty [] h = absurd (h refl)
not_empty (x ∷ xs) h = refl
