-- Steps that may be refused: the first refusal is the answer.
use Rattle.std.specs.Prelude.{◌≡◌, Result, Ok, Err}
use Rattle.form_read.specs.declared.refusal.FormRefused.{FormRefused}
use Rattle.form_read.specs.declared.refusal.FormRefused.TheVariants.{Doc, NoPrimary, NoId, BadExpr, UnknownPath}
use Rattle.form_read.specs.declared.refusal.FormRefused.TheVariants.{UnknownControl, UnknownType, Cycle, UnknownList}
use Rattle.form_read.specs.declared.refusal.FormRefused.TheVariants.{TooManyFields, BadEntity, NoMemory}

infixl 10 ◌>>=◌
abbrev pub ◌>>=◌ : {A B : Type 0} → Result A FormRefused → (A → Result B FormRefused) → Result B FormRefused
(Ok x) >>= f = f x
(Err refusal) >>= f = Err refusal

-- what a function told is what was wanted, unless memory ran out
abbrev pub Tells : {Y : Type 0} → FormRefused → Result Y FormRefused → Type 0
Tells (Doc refusal) wanted = wanted ≡ Err (Doc refusal)
Tells NoPrimary wanted = wanted ≡ Err NoPrimary
Tells NoId wanted = wanted ≡ Err NoId
Tells (BadExpr path at) wanted = wanted ≡ Err (BadExpr path at)
Tells (UnknownPath path) wanted = wanted ≡ Err (UnknownPath path)
Tells (UnknownControl name) wanted = wanted ≡ Err (UnknownControl name)
Tells (UnknownType path) wanted = wanted ≡ Err (UnknownType path)
Tells (Cycle path) wanted = wanted ≡ Err (Cycle path)
Tells (UnknownList name) wanted = wanted ≡ Err (UnknownList name)
Tells (TooManyFields count) wanted = wanted ≡ Err (TooManyFields count)
Tells (BadEntity path) wanted = wanted ≡ Err (BadEntity path)
Tells NoMemory wanted = Unit {0}

abbrev pub Gives : {X Y : Type 0} → (X → Y) → Result X FormRefused → Result Y FormRefused → Type 0
Gives view (Ok x) wanted = wanted ≡ Ok (view x)
Gives view (Err refusal) wanted = Tells refusal wanted
