-- Proofs that facts hold or don't, put together from such proofs of their parts; and no definitions.
use Rattle.std.specs.Prelude.{◌≡◌, ◌⊎◌, ℕ, zero, suc, ◌<◌, ◌≤◌, Bool, true, List, bytes_eq, IsUtf8, Option, Some, None}
use Rattle.std.specs.Prelude.{IfSome}
use Rattle.std.specs.List.{list_all, AllPass}
use Rattle.std.specs.Str.{is_utf8}
use Rattle.std.proofs.Common.{inl, inr, sym, ◌∙◌, subst, arith}
use Rattle.std.proofs.lemmas.Bool.{cases_Bool, cases_eq, cases_lt, false≢true}
use Rattle.std.proofs.lemmas.List.Sums.{AllPass-from_list_all, list_all-from_AllPass}
use Rattle.std.proofs.lemmas.Slice.Eq.{bytes_eq-Decides}
use Rattle.std.proofs.lemmas.Str.{IsUtf8-from_is_utf8, is_utf8-from_IsUtf8}

-- the fact holds, or it doesn't
abbrev pub Decision : Type 0 → Type 0
Decision P = P ⊎ ¬ P

pub both : {P Q : Type 0} → Decision P → Decision Q → Decision (P × Q)
both (inr no_first) second = inr (λ x. no_first x.0)
both (inl first) (inr no_second) = inr (λ x. no_second x.1)
both (inl first) (inl second) = inl (first, second)

pub either : {P Q : Type 0} → Decision P → Decision Q → Decision (P ⊎ Q)
either (inl first) second = inl (inl first)
either (inr no_first) (inl second) = inl (inr second)
either (inr no_first) (inr no_second) = inr (λ x. elim x [ inl first ↦ no_first first | inr second ↦ no_second second ])

pub implies : {P Q : Type 0} → Decision P → Decision Q → Decision (P → Q)
implies first (inl second) = inl (λ _. second)
implies (inl first) (inr no_second) = inr (λ f. no_second (f first))
implies (inr no_first) (inr no_second) = inl (λ first. absurd (no_first first))

pub never : {P : Type 0} → Decision P → Decision (¬ P)
never (inl holds) = inr (λ none. none holds)
never (inr none) = inl none

pub less : (a b : ℕ) → Decision (a < b)
less a b = elim (cases_lt a b) [ inl below ↦ inl below | inr above ↦ inr (λ below. omega (arith, above, below)) ]

pub at_most : (a b : ℕ) → Decision (a ≤ b)
at_most a b = elim (cases_lt b a) [ inl above ↦ inr (λ within. omega (arith, above, within)) | inr within ↦ inl within ]

pub is_true : (b : Bool) → Decision (b ≡ true)
is_true b = elim (cases_Bool b) [ inl holds ↦ inl holds | inr fails ↦ inr (λ holds. false≢true (sym fails ∙ holds)) ]

by_test : {P : Type 0} (test : Bool) → (test ≡ true → P) → (P → test ≡ true) → Decision P
by_test test from to =
    elim (is_true test) [ inl holds ↦ inl (from holds) | inr fails ↦ inr (λ holds. fails (to holds)) ]

pub same_text : (a b : List ℕ) → Decision (a ≡ b)
same_text a b = by_test (bytes_eq a b) (bytes_eq-Decides a b).0 (bytes_eq-Decides a b).1

pub all_pass : (test : ℕ → Bool) (text : List ℕ) → Decision (AllPass test text)
all_pass test text =
    by_test (list_all test text) (AllPass-from_list_all test text) (list_all-from_AllPass test text)

pub text_is_utf8 : (text : List ℕ) → Decision (IsUtf8 text)
text_is_utf8 text = by_test (is_utf8 text) (IsUtf8-from_is_utf8 text) (is_utf8-from_IsUtf8 text)

pub if_some : {A : Type 0} (P : A → Type 0) (o : Option A) → ((a : A) → Decision (P a)) → Decision (IfSome o P)
if_some P None decide = inl tt
if_some P (Some a) decide = decide a

-- a fact of each number below a bound
pub all_below : (n : ℕ) (P : ℕ → Type 0) → ((i : ℕ) → Decision (P i)) → Decision ((i : ℕ) → i < n → P i)
all_below zero P decide = inl (λ i below. absurd (omega (arith, below)))
all_below (suc n) P decide = elim (decide n) [
  | inl last ↦ elim (all_below n P decide) [
    | inl all ↦ inl (λ i below. elim (cases_eq i n) [
      | inl same ↦ subst P (sym same) last
      | inr other ↦ all i (omega (arith, below, other))
    ])
    | inr none ↦ inr (λ all. none (λ i below. all i (omega (arith, below))))
  ]
  | inr none ↦ inr (λ all. none (all n (omega arith)))
]
