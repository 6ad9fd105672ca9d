-- Reversed, a stack has as many open parentheses and as many filters.
use Rattle.std.proofs.Common.{◌≡◌, ◌+◌, Bool, true, false, ◌||◌, List, [], ◌∷◌, ◌++◌, reverse, refl, ap, ◌∙◌, arith}
use Rattle.std.specs.List.{list_any}
use Rattle.std.proofs.lemmas.List.{reverse-append}
use Rattle.form_expr.specs.declared.pending.Pending.{Pending}
use Rattle.form_expr.specs.Machine.{depth}

depth_append : (a b : List Pending) → depth (a ++ b) ≡ depth a + depth b
depth_append [] b = omega arith
depth_append (p ∷ a) b = omega (arith, depth_append a b)

pub depth_reverse : (stack : List Pending) → depth (reverse stack) ≡ depth stack
depth_reverse [] = refl
depth_reverse (p ∷ outer) = rw (reverse-append (p ∷ []) outer) (omega (arith, depth_append (reverse outer) (p ∷ []), depth_reverse outer))

or_false : (a : Bool) → (a || false) ≡ a
or_false true = refl
or_false false = refl

or_swapped : (a b : Bool) → (a || b) ≡ (b || a)
or_swapped true true = refl
or_swapped true false = refl
or_swapped false true = refl
or_swapped false false = refl

any_append : (p : Pending → Bool) (a b : List Pending) → list_any p (a ++ b) ≡ (list_any p a || list_any p b)
any_append p [] b = refl
any_append p (x ∷ a) b = elim (p x) as (λ v. (v || list_any p (a ++ b)) ≡ ((v || list_any p a) || list_any p b)) [
  | true ↦ refl
  | false ↦ any_append p a b
]

pub any_reverse : (p : Pending → Bool) (stack : List Pending) → list_any p (reverse stack) ≡ list_any p stack
any_reverse p [] = refl
any_reverse p (x ∷ outer) = rw (reverse-append (x ∷ []) outer) (any_append p (reverse outer) (x ∷ []) ∙ ap (λ (b : Bool). b || (p x || false)) (any_reverse p outer) ∙ ap (λ (b : Bool). list_any p outer || b) (or_false (p x)) ∙ or_swapped (list_any p outer) (p x))
