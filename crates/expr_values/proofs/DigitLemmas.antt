-- Digits, and white space at the ends of a text.
use Rattle.std.specs.Prelude.{ℕ, zero, suc, ◌<◌, ◌≤◌, ◌≡◌, ◌+◌, ◌-◌, ◌*◌, ◌^◌, true, ◌&&◌, List, [], ◌∷◌, length, take, nat_le, fold, min, refl}
use Rattle.std.specs.List.{list_all}
use Rattle.std.proofs.Common.{arith, leb-true, get_or, rules}
use Rattle.std.proofs.lemmas.List.{length-take}
use Rattle.std.proofs.lemmas.List.Sums.{fold_more}
use Rattle.std.proofs.lemmas.Str.Parse.{IsNumeralModel, numerals_by_fold, IsDigitsTest, FoldsDigits, digits_value_short}
use Rattle.std.proofs.lemmas.Bool.{and_parts}
use Rattle.expr_values.specs.Numbers.{is_digit, are_digits, digits_value}

digits_test : IsDigitsTest (λ ds. list_all is_digit ds ≡ true)
digits_test = search rules

digits_fold : FoldsDigits (λ n ds. fold (λ value c. value * 10 + (c - 48)) n ds)
digits_fold = search rules

digits_model : IsNumeralModel (λ ds. list_all is_digit ds ≡ true) digits_value
digits_model = numerals_by_fold _ digits_test (λ n ds. fold (λ value c. value * 10 + (c - 48)) n ds) digits_fold

pub all_take : (n : ℕ) (ds : List ℕ) → list_all is_digit ds ≡ true → list_all is_digit (take n ds) ≡ true
all_take zero ds all = refl
all_take (suc n) [] all = refl
all_take (suc n) (d ∷ ds) all = rw ((and_parts (is_digit d) (list_all is_digit ds) all).0) (all_take n ds ((and_parts (is_digit d) (list_all is_digit ds) all).1))

pub all_at : (n : ℕ) (ds : List ℕ) → list_all is_digit ds ≡ true → n < length ds → is_digit (get_or ds n 0) ≡ true
all_at n [] all within = absurd (omega arith)
all_at zero (d ∷ ds) all within = (and_parts (is_digit d) (list_all is_digit ds) all).0
all_at (suc n) (d ∷ ds) all within = all_at n ds ((and_parts (is_digit d) (list_all is_digit ds) all).1) (omega arith)

pub digit_low : (c : ℕ) → is_digit c ≡ true → 48 ≤ c
digit_low c is = leb-true 48 c ((and_parts (nat_le 48 c) (nat_le c 57) is).0)

pub are_all : (ds : List ℕ) → are_digits 15 ds ≡ true → list_all is_digit ds ≡ true
are_all ds are = (and_parts (nat_le 1 (length ds) && nat_le (length ds) 15) (list_all is_digit ds) are).1

are_few : (ds : List ℕ) → are_digits 15 ds ≡ true → length ds ≤ 15
are_few ds are = leb-true (length ds) 15 ((and_parts (nat_le 1 (length ds)) (nat_le (length ds) 15) ((and_parts (nat_le 1 (length ds) && nat_le (length ds) 15) (list_all is_digit ds) are).0)).1)

pub small_front : (n : ℕ) (ds : List ℕ) → are_digits 15 ds ≡ true → digits_value (take n ds) < 10 ^ 15
small_front n ds are =
    let few : length ds ≤ 15 = are_few ds are in
    let short : length (take n ds) ≤ length ds = let e : length (take n ds) ≡ min n (length ds) = length-take n ds in omega (arith, e) in
    digits_value_short digits_model (take n ds) 15 (all_take n ds (are_all ds are)) (omega arith)

-- the value of one digit more
pub value_more : (n : ℕ) (ds : List ℕ) → n < length ds → digits_value (take (n + 1) ds) ≡ digits_value (take n ds) * 10 + (get_or ds n 0 - 48)
value_more n ds within = fold_more (λ value c. value * 10 + (c - 48)) 0 ds n 0 within
