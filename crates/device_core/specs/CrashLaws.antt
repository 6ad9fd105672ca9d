-- How what a crash may leave goes on from call to call: proofs, and no definitions. They stand in this folder since
-- the laws of a caller rest on them.
use Rattle.std.specs.Prelude.{◌≡◌, ◌⊎◌, ℕ, ◌≤◌, List, ◌++◌, length, take}
use Rattle.std.proofs.Common.{inl, inr, ⊎_elim, sym, ap, subst, arith, length-append}
use Rattle.std.proofs.lemmas.List.{take-append-le}
use Rattle.entry_form.specs.declared.entry.Entry.{Entry}
use Rattle.device_core.specs.Crash.{AddsOnly, HasAtLeast}
use Rattle.device_core.specs.Images.{StandsFor}

-- entries at the end take nothing away
pub at_least_more : (entries : List Entry) (more : List Entry) (least : ℕ) (c : List ℕ) → HasAtLeast entries least c
    → HasAtLeast (entries ++ more) least c
at_least_more entries more least c has = record {
  count = has.count;
  enough = has.enough;
  within = omega (arith, has.within, length-append entries more);
  stands = subst (StandsFor c) (sym (take-append-le has.count entries more has.within)) has.stands;
}

pub at_least_less : (entries : List Entry) (least more : ℕ) (c : List ℕ) → least ≤ more → HasAtLeast entries more c
    → HasAtLeast entries least c
at_least_less entries least more c le has =
    record { count = has.count; enough = omega (arith, le, has.enough); within = has.within; stands = has.stands }

pub adds_same : {D : Type 0} (since : D → ℕ → List ℕ → Type 0) (clock : D → ℕ) (old new : D) (P : List ℕ → Type 0)
    → new ≡ old → AddsOnly since clock old new P
adds_same since clock old new P same =
    (let e = ap clock same in omega (arith, e), λ t c le left. inl (subst (λ d. since d t c) same left))

-- a call behind another
pub adds_then : {D : Type 0} (since : D → ℕ → List ℕ → Type 0) (clock : D → ℕ) (old mid new : D)
    (P Q R : List ℕ → Type 0) → AddsOnly since clock old mid P → AddsOnly since clock mid new Q
    → ((c : List ℕ) → P c → R c) → ((c : List ℕ) → Q c → R c) → AddsOnly since clock old new R
adds_then since clock old mid new P Q R first second p q = (
  omega (arith, first.0, second.0),
  λ t c le left.
      ⊎_elim (λ was. ⊎_elim (λ w. inl w) (λ h. inr (p c h)) (first.1 t c le was)) (λ h. inr (q c h))
      (second.1 t c (omega (arith, le, first.0)) left),
)
