-- Digits, one after the other.
use Rattle.std.specs.Prelude.{ℕ, zero, suc, ◌<◌, ◌≤◌, ◌≡◌, ◌+◌, ◌-◌, ◌*◌, ◌^◌, Bool, true, false, List, [], ◌∷◌, length, nat_le, ◌&&◌, refl}
use Rattle.std.proofs.Common.{ap, sym, ◌∙◌, arith, leb-true}
use Rattle.std.proofs.Math.Nat.{pow-succ', pow-le-pow_right}
use Rattle.std.proofs.lemmas.Bool.{false≢true, and_parts}
use Rattle.form_tokens.specs.Tokens.{is_digit, digits_at}

pub small_at : (value left : ℕ) → value < 10 ^ (15 - left) → value < 10 ^ 15
small_at value left small =
    let most : 10 ^ (15 - left) ≤ 10 ^ 15 = pow-le-pow_right {n = 10} (omega arith) {i = 15 - left} {j = 15} (omega arith) in omega arith

pub small_step : (value left digit : ℕ) → value < 10 ^ (15 - left) → 0 < left → left ≤ 15 → digit < 10 → value * 10 + digit < 10 ^ (15 - (left - 1))
small_step value left digit small some low one =
    let e : 15 - (left - 1) ≡ suc (15 - left) = omega arith in
    let p : 10 ^ suc (15 - left) ≡ 10 * 10 ^ (15 - left) = pow-succ' 10 (15 - left) in
    rw (e, p) (omega arith)

pub digits_end : (n value : ℕ) (all : ℕ × List ℕ) → digits_at n value [] ≡ all → (value, []) ≡ all
digits_end zero value all e = e
digits_end (suc n) value all e = e

pub digits_full : (n value : ℕ) (cs : List ℕ) (all : ℕ × List ℕ) → n ≡ 0 → digits_at n value cs ≡ all → (value, cs) ≡ all
digits_full zero value cs all none e = e
digits_full (suc n) value cs all none e = absurd (omega arith)

pub digits_stop : (n value c : ℕ) (rest cs : List ℕ) (all : ℕ × List ℕ) → rest ≡ c ∷ cs → is_digit c ≡ false → digits_at n value rest ≡ all → (value, rest) ≡ all
digits_stop zero value c rest cs all split off e = e
digits_stop (suc n) value c rest cs all split off e = ap (λ r. (value, r)) split ∙ sym (ap (λ r. digits_at (suc n) value r) split ∙ rw off refl) ∙ e

pub digits_go_on : (n value c digit : ℕ) (rest cs : List ℕ) (all : ℕ × List ℕ) → rest ≡ c ∷ cs → is_digit c ≡ true → 0 < n → digit ≡ c - 48
    → digits_at n value rest ≡ all → digits_at (n - 1) (value * 10 + digit) cs ≡ all
digits_go_on zero value c digit rest cs all split on some is e = absurd (omega arith)
digits_go_on (suc n) value c digit rest cs all split on some is e =
    let less : suc n - 1 ≡ n = omega arith in
    rw (less, is) (sym (ap (λ r. digits_at (suc n) value r) split ∙ rw on refl) ∙ e)

pub digits_end_at : (n value : ℕ) (rest : List ℕ) (all : ℕ × List ℕ) → length rest ≡ 0 → digits_at n value rest ≡ all → (value, rest) ≡ all
digits_end_at n value [] all none e = digits_end n value all e
digits_end_at n value (c ∷ cs) all none e = absurd (omega arith)

pub digit_small : (c digit : ℕ) → is_digit c ≡ true → digit ≡ c - 48 → digit < 10
digit_small c digit on is = let high : c ≤ 57 = leb-true c 57 ((and_parts (nat_le 48 c) (nat_le c 57) on).1) in omega arith
