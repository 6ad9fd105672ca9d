-- What is left of a text behind a front or before an end.
use Rattle.std.specs.Prelude.{◌≡◌, ℕ, true, false, if◌then◌else◌, ◌-◌, ◌++◌, List, Option, Some, None, nat_eq, length, take, drop, MatchOption, refl}
use Rattle.std.specs.List.{starts_with, ends_with}
use Rattle.std.specs.Option.{option_copied}
use Rattle.std.specs.Str.Pattern.{FindsTextPrefix, FindsTextSuffix, StripsPrefix, StripsSuffix}
use Rattle.std.proofs.Common.{ap, ◌∙◌, Bor, inl, inr}
use Rattle.std.proofs.lemmas.Bool.{cases_Bool}
use Rattle.std.proofs.lemmas.Bool.Decides.{Decides-eqb}
use Rattle.std.proofs.lemmas.Slice.Eq.{starts_is, ends_is}

starts : (s n rest : List ℕ) → s ≡ n ++ rest → starts_with nat_eq s n ≡ true
starts s n rest is = (starts_is Decides-eqb s n _ refl).1 rest is

starts_not : (s n : List ℕ) → ((rest : List ℕ) → s ≡ n ++ rest → ⊥) → starts_with nat_eq s n ≡ false
starts_not s n h = elim (cases_Bool (starts_with nat_eq s n)) [ inl e ↦ absurd (h _ ((starts_is Decides-eqb s n _ refl).0 e)) | inr e ↦ e ]

ends : (s n front : List ℕ) → s ≡ front ++ n → ends_with nat_eq s n ≡ true
ends s n front is = (ends_is Decides-eqb s n _ refl).1 front is

ends_not : (s n : List ℕ) → ((front : List ℕ) → s ≡ front ++ n → ⊥) → ends_with nat_eq s n ≡ false
ends_not s n h = elim (cases_Bool (ends_with nat_eq s n)) [ inl e ↦ absurd (h _ ((ends_is Decides-eqb s n _ refl).0 e)) | inr e ↦ e ]

pub prefix_stripped : (n s : List ℕ) (r : Option (Bor (List ℕ))) → MatchOption r (FindsTextPrefix n s None) (λ x. StripsPrefix (FindsTextPrefix n) s x.now)
    → option_copied r ≡ (if starts_with nat_eq s n then Some (drop (length n) s) else None)
prefix_stripped n s None h = rw (starts_not s n h) refl
prefix_stripped n s (Some x) h = rw (starts s n _ h.1.1) (ap Some (h.2 ∙ ap (λ k. drop k s) h.1.0))

pub suffix_stripped : (n s : List ℕ) (r : Option (Bor (List ℕ))) → MatchOption r (FindsTextSuffix n s None) (λ x. StripsSuffix (FindsTextSuffix n) s x.now)
    → option_copied r ≡ (if ends_with nat_eq s n then Some (take (length s - length n) s) else None)
suffix_stripped n s None h = rw (ends_not s n h) refl
suffix_stripped n s (Some x) h = rw (ends s n _ h.1.1) (ap Some (h.2 ∙ ap (λ k. take (length s - k) s) h.1.0))
