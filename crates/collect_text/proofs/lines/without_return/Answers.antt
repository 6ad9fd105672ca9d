use Rattle.std.proofs.Common.{◌≡◌, ℕ, List, [], ◌∷◌, ◌++◌, false, eqb, refl, arith}
use Rattle.std.proofs.lemmas.Bool.Decides.{nat_tests}
use Rattle.collect_text.specs.Lines.{without_return}
use Rattle.collect_text.proofs.Cuts.{without_return-push}
use Rattle.collect_text.proofs.lines.without_return.Goals as goal

cut : (line front : List ℕ) (last : ℕ) → line ≡ front ++ last ∷ [] → last ≡ 13 → front ≡ without_return line
cut line front last e is = rw (e, without_return-push, is) refl

kept : (line front : List ℕ) (last : ℕ) → line ≡ front ++ last ∷ [] → (last ≡ 13 → ⊥) → line ≡ without_return line
kept line front last e apart =
    let t : eqb last 13 ≡ false = grind (arith, nat_tests) in
    rw (e, without_return-push, t) refl

pub returns-then-last-eq13 : goal.returns-then-last-eq13
returns-then-last-eq13 c = cut _ _ _ c.in-Some.ensures.cases.0 c.if-last-eq13.true

pub returns-else-last-eq13 : goal.returns-else-last-eq13
returns-else-last-eq13 c = kept _ _ _ c.in-Some.ensures.cases.0 c.if-last-eq13.false
