-- How many listed calls there were.
use Rattle.std.proofs.Common.{◌≡◌, ℕ, ◌+◌, ◌≤◌, true, false, ◌||◌, cond, List, [], ◌∷◌, sym, ap, subst}
use Rattle.std.proofs.Common.{arith, inl, inr}
use Rattle.std.specs.Prelude.{nat_le, nat_eq}
use Rattle.std.specs.List.{list_any}
use Rattle.std.proofs.lemmas.Bool.{cases_Bool, eqb-true, le-leb}
use Rattle.std.proofs.lemmas.Bool.Decides.{leb_tells}
use Rattle.std.proofs.lemmas.List.Sums.{sum_by-cons}
use Rattle.rosa_box.specs.Listed.{listed}

abbrev one : ℕ → ℕ → ℕ
one calls n = cond (nat_le n calls) 1 0

one_more : (calls n : ℕ) → one calls n ≤ one (calls + 1) n
one_more calls n = elim (leb_tells n calls) [
  | inl (yes_it, below) ↦
      let here : one calls n ≡ 1 = ap (λ b. cond b 1 0) yes_it in
      let there : one (calls + 1) n ≡ 1 = ap (λ b. cond b 1 0) (le-leb n (calls + 1) (omega (arith, below))) in
      omega (arith, here, there)
  | inr (not_it, above) ↦
      let here : one calls n ≡ 0 = ap (λ b. cond b 1 0) not_it in
      omega (arith, here)
]

one_now : (calls n : ℕ) → n ≡ calls + 1 → one calls n + 1 ≤ one (calls + 1) n
one_now calls n is = elim (leb_tells n calls) [
  | inl (yes_it, below) ↦ absurd (omega (arith, below, is))
  | inr (not_it, above) ↦
      let here : one calls n ≡ 0 = ap (λ b. cond b 1 0) not_it in
      let there : one (calls + 1) n ≡ 1 = ap (λ b. cond b 1 0) (le-leb n (calls + 1) (omega (arith, is))) in
      omega (arith, here, there)
]

by_first : (calls n : ℕ) (rest : List ℕ) → listed calls (n ∷ rest) ≡ one calls n + listed calls rest
by_first calls n rest = sum_by-cons (one calls) n rest

listed_more : (calls : ℕ) (fails : List ℕ) → listed calls fails ≤ listed (calls + 1) fails
listed_more calls [] = omega arith
listed_more calls (n ∷ rest) =
    omega (arith, by_first calls n rest, by_first (calls + 1) n rest, one_more calls n, listed_more calls rest)

listed_now : (calls : ℕ) (fails : List ℕ) → list_any (λ n. nat_eq n (calls + 1)) fails ≡ true
    → listed calls fails + 1 ≤ listed (calls + 1) fails
listed_now calls [] is = absurd (let e : false ≡ true = is in cc)
listed_now calls (n ∷ rest) is = elim (cases_Bool (nat_eq n (calls + 1))) [
  | inl same ↦
      omega (
        arith,
        by_first calls n rest,
        by_first (calls + 1) n rest,
        one_now calls n (eqb-true n (calls + 1) same),
        listed_more calls rest,
      )
  | inr other ↦
      let later : list_any (λ k. nat_eq k (calls + 1)) rest ≡ true =
      subst (λ b. (b || list_any (λ k. nat_eq k (calls + 1)) rest) ≡ true) other is in
      omega (arith, by_first calls n rest, by_first (calls + 1) n rest, one_more calls n, listed_now calls rest later)
]

module _ (fails : List ℕ) (calls number starved faults : ℕ) (next : number ≡ calls + 1)
    (most : faults ≤ starved + listed calls fails) where
  pub most_kept : faults ≤ starved + listed number fails
  most_kept = subst (λ n. faults ≤ starved + listed n fails) (sym next) (omega (arith, most, listed_more calls fails))

  pub most_listed : (result : ℕ) → true ≡ list_any (λ n. nat_eq n number) fails
      → result ≤ faults + 1 → result ≤ starved + listed number fails
  most_listed result is below =
      let there : list_any (λ n. nat_eq n (calls + 1)) fails ≡ true =
      subst (λ k. list_any (λ n. nat_eq n k) fails ≡ true) next (sym is) in
      subst (λ n. result ≤ starved + listed n fails) (sym next) (omega (arith, most, below, listed_now calls fails there))
