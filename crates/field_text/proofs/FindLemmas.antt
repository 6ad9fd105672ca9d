-- Steps that may find nothing.
use Rattle.std.specs.Prelude.{◌≡◌, Option, Some, None, refl}
use Rattle.field_text.specs.Finds.{◌>>=◌}

-- what a step found, where what follows it found something
pub then_some : {A B : Type 0} (o : Option A) (f : A → Option B) (y : B) → (o >>= f) ≡ Some y
    → (x : A) × (o ≡ Some x) × (f x ≡ Some y)
then_some (Some x) f y e = (x, refl, e)
then_some None f y e = absurd cc
