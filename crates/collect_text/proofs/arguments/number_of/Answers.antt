-- The digits of a number have its value, so the bytes are those of one number or of none.
use Rattle.std.proofs.Common.{◌≡◌, ℕ, ◌<◌, ◌^◌, true, nat_lt, List, Some, None, refl, sym, ap, ◌∙◌, inl, inr, arith}
use Rattle.std.proofs.lemmas.Bool.{lt-ltb, ltb-true}
use Rattle.std.specs.Str.{bytes_eq}
use Rattle.std.specs.Fmt.{decimal}
use Rattle.std.specs.Str.Parse.{digits_value}
use Rattle.std.proofs.lemmas.Fmt.{decimal_is_IsNumeral}
use Rattle.std.proofs.lemmas.Slice.Eq.{bytes_eq-Decides}
use Rattle.collect_text.specs.Arguments.{number_of}
use Rattle.collect_text.proofs.Printing.{bool_tells}
use Rattle.collect_text.proofs.arguments.number_of.Goals as goal

found : (bytes : List ℕ) (n : ℕ) → n < 2 ^ 64 → bytes ≡ decimal n → Some n ≡ number_of bytes
unfolding number_of
found bytes n fits is =
    let value : digits_value 10 bytes ≡ n = ap (digits_value 10) is ∙ (decimal_is_IsNumeral n fits).1 in
    let same : bytes_eq (decimal n) bytes ≡ true = (bytes_eq-Decides (decimal n) bytes).1 (sym is) in
    let less : nat_lt n (2 ^ 64) ≡ true = lt-ltb n (2 ^ 64) fits in
    rw (value, same, less) refl

missed : (bytes : List ℕ) → ((n : ℕ) → n < 2 ^ 64 → bytes ≡ decimal n → ⊥) → None ≡ number_of bytes
unfolding number_of
missed bytes none =
    let n = digits_value 10 bytes in
    elim (bool_tells (bytes_eq (decimal n) bytes)) [
      | inl same ↦ elim (bool_tells (nat_lt n (2 ^ 64))) [
        | inl less ↦ absurd (none n (ltb-true n (2 ^ 64) less) (sym ((bytes_eq-Decides (decimal n) bytes).0 same)))
        | inr more ↦ rw (same, more) refl
      ]
      | inr other ↦ rw other refl
    ]

pub returns-in-Some : goal.returns-in-Some
returns-in-Some c = found _ _ (omega arith) c.in-Some.ensures.found ∙ ap number_of c.bytes.ensures.value

pub returns-in-None : goal.returns-in-None
returns-in-None c =
    missed c.bytes.result.now (λ n small same. let t : None ≡ Some n = c.in-None.ensures.none n small same in cc)
    ∙ ap number_of c.bytes.ensures.value
