-- Steps that may be refused.
use Rattle.std.specs.Prelude.{◌≡◌, Option, Some, None, Result, Ok, Err, IfOk, refl}
use Rattle.std.proofs.Common.{ap, ◌⊎◌, inl, inr}
use Rattle.field_text.specs.Steps.{◌>>=◌, Tells}

-- what a step gave, where what follows it gave something
pub then_ok : {A B F : Type 0} (r : Result A F) (f : A → Result B F) (y : B) → (r >>= f) ≡ Ok y
    → (x : A) × (r ≡ Ok x) × (f x ≡ Ok y)
then_ok (Ok x) f y e = (x, refl, e)
then_ok (Err fault) f y e = absurd cc

-- which of both was refused
pub then_err : {A B F : Type 0} (r : Result A F) (f : A → Result B F) (fault : F) → (r >>= f) ≡ Err fault
    → (r ≡ Err fault) ⊎ ((x : A) × (r ≡ Ok x) × (f x ≡ Err fault))
then_err (Ok x) f fault e = inr (x, refl, e)
then_err (Err other) f fault e = inl cc

-- what holds of a step's value holds of what follows it
pub then_holds : {A B F : Type 0} (P : A → Type 0) (Q : B → Type 0) (r : Result A F) (f : A → Result B F) → IfOk r P
    → ((x : A) → P x → IfOk (f x) Q) → IfOk (r >>= f) Q
then_holds P Q (Ok x) f p g = g x p
then_holds P Q (Err fault) f p g = tt

-- what is told of one answer is told of another that is refused alike
pub tells_alike : {A B F : Type 0} (q : Option F) (a : Result A F) (b : Result B F)
    → ((fault : F) → a ≡ Err fault → b ≡ Err fault) → Tells q a → Tells q b
tells_alike (Some fault) a b f t = f fault t
tells_alike None a b f t = tt

-- what a step tells is told of what follows it
pub tells_then : {A B F : Type 0} (q : Option F) (a : Result A F) (f : A → Result B F) → Tells q a → Tells q (a >>= f)
tells_then q a f t = tells_alike q a (a >>= f) (λ r is. ap (λ x. x >>= f) is) t
