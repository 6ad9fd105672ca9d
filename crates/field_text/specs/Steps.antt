-- Steps that may be refused: the first refusal is the answer.
use Rattle.std.specs.Prelude.{◌≡◌, Option, Some, None, Result, Ok, Err}

infixl 10 ◌>>=◌
abbrev pub ◌>>=◌ : {A B F : Type 0} → Result A F → (A → Result B F) → Result B F
(Ok x) >>= f = f x
(Err fault) >>= f = Err fault

-- what was wanted is this fault; an error with no fault, which is want of memory, tells nothing
abbrev pub Tells : {B F : Type 0} → Option F → Result B F → Type 0
Tells (Some fault) wanted = wanted ≡ Err fault
Tells None wanted = Unit {0}

-- What a function returned, seen by view, is what was wanted; fault_of gives the fault of an error.
abbrev pub Gives : {A B E F : Type 0} → (E → Option F) → (A → B) → Result A E → Result B F → Type 0
Gives fault_of view (Ok x) wanted = wanted ≡ Ok (view x)
Gives fault_of view (Err e) wanted = Tells (fault_of e) wanted
