-- Lengths as decimals.
use Rattle.std.proofs.Common.{◌≡◌, ℕ, ◌<◌, ◌^◌, true, nat_lt, List, Some, None, refl, sym, ap, ◌∙◌, arith}
use Rattle.std.proofs.lemmas.Bool.{lt-ltb, ltb-true}
use Rattle.std.specs.Prelude.{bytes_eq}
use Rattle.std.specs.Fmt.{decimal}
use Rattle.std.specs.Str.Parse.{AllDigits, digits_value}
use Rattle.std.proofs.lemmas.Fmt.{digits_value-decimal}
use Rattle.std.proofs.lemmas.Str.Parse.{IsNumeralModel}
use Rattle.std.proofs.lemmas.Slice.Eq.{bytes_eq-Decides}
use Rattle.http_reply.specs.Framings.{length_value}
use Rattle.http_reply.proofs.LineCounts.{split}

own : IsNumeralModel (AllDigits 10) (digits_value 10)
own = record { to = λ ds all. all; from = λ ds all. all; same = λ ds all. refl }

value_of_decimal : (bytes : List ℕ) (n : ℕ) → bytes ≡ decimal n → n < 2 ^ 64 → digits_value 10 bytes ≡ n
value_of_decimal bytes n is fits = ap (digits_value 10) is ∙ digits_value-decimal own n fits

pub length_of_decimal : (bytes : List ℕ) (n : ℕ) → bytes ≡ decimal n → n < 10 ^ 18 → Some n ≡ length_value bytes
unfolding length_value
length_of_decimal bytes n is small =
    let value = value_of_decimal bytes n is (omega arith) in
    let same : bytes_eq (decimal n) bytes ≡ true = (bytes_eq-Decides (decimal n) bytes).1 (sym is) in
    let less : nat_lt n (10 ^ 18) ≡ true = lt-ltb n (10 ^ 18) small in
    rw (value, same, less) refl

-- no number below the limit is written so
pub no_length : (bytes : List ℕ) → ((n : ℕ) → n < 10 ^ 18 → bytes ≡ decimal n → ⊥) → None ≡ length_value bytes
unfolding length_value
no_length bytes none =
    let n = digits_value 10 bytes in
    split (bytes_eq (decimal n) bytes)
    (λ same. split (nat_lt n (10 ^ 18))
    (λ less. absurd (none n (ltb-true n (10 ^ 18) less) (sym ((bytes_eq-Decides (decimal n) bytes).0 same))))
    (λ more. rw (same, more) refl))
    (λ other. rw other refl)
