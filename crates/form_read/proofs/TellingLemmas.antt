-- What is told of one answer is told of another that is refused alike.
use Rattle.std.specs.Prelude.{◌≡◌, Result, Err}
use Rattle.std.proofs.Common.{ap}
use Rattle.form_read.specs.declared.refusal.FormRefused.{FormRefused}
use Rattle.form_read.specs.declared.refusal.FormRefused.TheVariants.{Doc, NoPrimary, NoId, BadExpr, UnknownPath, UnknownControl, UnknownType, Cycle, UnknownList, TooManyFields, BadEntity, NoMemory}
use Rattle.form_read.specs.Refusals.{Tells, ◌>>=◌}

pub tells_alike : {A B : Type 0} (q : FormRefused) (a : Result A FormRefused) (b : Result B FormRefused) → ((r : FormRefused) → a ≡ Err r → b ≡ Err r) → Tells q a → Tells q b
tells_alike (Doc refusal) a b f t = f _ t
tells_alike NoPrimary a b f t = f _ t
tells_alike NoId a b f t = f _ t
tells_alike (BadExpr path at) a b f t = f _ t
tells_alike (UnknownPath path) a b f t = f _ t
tells_alike (UnknownControl name) a b f t = f _ t
tells_alike (UnknownType path) a b f t = f _ t
tells_alike (Cycle path) a b f t = f _ t
tells_alike (UnknownList name) a b f t = f _ t
tells_alike (TooManyFields count) a b f t = f _ t
tells_alike (BadEntity path) a b f t = f _ t
tells_alike NoMemory a b f t = tt

-- what refuses a step refuses what follows it
pub tells_then : {A B : Type 0} (q : FormRefused) (a : Result A FormRefused) (f : A → Result B FormRefused) → Tells q a → Tells q (a >>= f)
tells_then q a f t = tells_alike q a (a >>= f) (λ r is. ap (λ x. x >>= f) is) t
