-- Bytes that the value of a field may have.
use Rattle.std.proofs.Common.{◌≡◌, ℕ, ◌+◌, ◌-◌, ◌/◌, ◌%◌, ◌<◌, ◌≤◌, ◌^◌, Bool, true, false, not, ◌||◌, ◌==◌}
use Rattle.std.proofs.Common.{if◌then◌else◌, List, [], ◌∷◌, ◌++◌, length, get_or, reverse, All, IsTrue, codes, inl}
use Rattle.std.proofs.Common.{inr, refl, sym, ap, ◌∙◌, arith}
use Rattle.std.specs.List.{list_all}
use Rattle.std.specs.Int.{IsInRange}
use Rattle.std.specs.Fmt.{decimal}
use Rattle.std.specs.Str.Parse.{AllDigits, digits_value}
use Rattle.std.proofs.lemmas.Bool.{cases_lt, lt-ltb, le-leb, ne_eqb}
use Rattle.std.proofs.lemmas.Fmt.{digits_decimal}
use Rattle.std.proofs.lemmas.List.{get_or_past}
use Rattle.std.proofs.lemmas.List.Elements.{All-nil, All-append, All-head, All-get_or, All-from_get_or}
use Rattle.std.proofs.lemmas.List.Elements.{All-weaker, All-from_recursion}
use Rattle.std.proofs.lemmas.List.Sums.{AllPass-from_list_all}
use Rattle.std.proofs.lemmas.Str.Parse.{IsNumeralModel, digit_at}
use Rattle.httparse.specs.Grammar.{AllPass, is_value_byte, is_uri_byte, is_ows, skip_ows, trim_ows}
use Rattle.httparse.proofs.TrimLemmas.{AllPass-reverse, trim_ows_space}
use Rattle.httpdate.specs.Calendar.{is_leap_year, days_in_month}
use Rattle.httpdate.specs.Date.{date_text}
use Rattle.httpdate.specs.Text.{day_name, month_name, two_digits, four_digits, time_of_day}
use Rattle.httpdate.specs.declared.date.HttpDate.{HttpDate}
use Rattle.httpdate.specs.declared.parts.Parts.{Parts}
use Rattle.http_reply.proofs.LineCounts.{split}

pub record IsValue (bytes : List ℕ) : Type 0 where
  pub all : AllPass is_value_byte bytes

pub value_byte : (b : ℕ) → 32 ≤ b → b ≤ 126 → IsTrue (is_value_byte b)
value_byte b low high =
    let below : (32 ≤ b) × (b ≤ 126) = (low, high) in
    split (b == 9)
    (λ tab. rw tab refl)
    (λ other. rw (other, le-leb 32 b low, ne_eqb b 127 (λ e. omega arith)) refl)

pub uri_byte : (b : ℕ) → IsInRange 33 126 b → IsTrue (is_uri_byte b)
uri_byte b within = rw (lt-ltb 32 b (omega (arith, within.0)), ne_eqb b 127 (λ e. omega (arith, within.1))) refl

pub visible_value : (bytes : List ℕ) → All (IsInRange 33 126) bytes → IsValue bytes
visible_value bytes all =
    record {
      all =
          All-weaker (IsInRange 33 126) (λ b. IsTrue (is_value_byte b)) (λ b within. value_byte b (omega (arith, within.0))
          (omega (arith, within.1))) bytes all;
    }

-- ---- decimals

own : IsNumeralModel (AllDigits 10) (digits_value 10)
own = record { to = λ ds all. all; from = λ ds all. all; same = λ ds all. refl }

digits_of : (n : ℕ) → n < 2 ^ 64 → All (IsInRange 48 57) (decimal n)
digits_of n small =
    All-from_get_or (IsInRange 48 57) (decimal n) 0 (λ i within. digit_at (decimal n) i (digits_decimal own n small)
    within)

pub decimal_value : (n : ℕ) → n < 2 ^ 64 → IsValue (decimal n)
decimal_value n small =
    record {
      all =
          All-weaker (IsInRange 48 57) (λ b. IsTrue (is_value_byte b)) (λ b within. value_byte b (omega (arith, within.0))
          (omega (arith, within.1))) (decimal n) (digits_of n small);
    }

is_other : ℕ → Bool
is_other b = not (is_ows b)

other_byte : (b : ℕ) → IsInRange 48 57 b → IsTrue (is_other b)
unfolding is_other
other_byte b within = rw (ne_eqb b 32 (λ e. omega (arith, within.0)), ne_eqb b 9 (λ e. omega (arith, within.0))) refl

no_skip : (bytes : List ℕ) → AllPass is_other bytes → skip_ows bytes ≡ bytes
unfolding is_other
no_skip [] all = refl
no_skip (b ∷ bytes) all =
    let other : not (is_ows b) ≡ true = All-head (λ x. IsTrue (is_other x)) b bytes all in
    split (is_ows b) (λ ows. absurd (let t : false ≡ true = ap not (sym ows) ∙ other in cc)) (λ none. rw none refl)

pub decimal_trimmed : (n : ℕ) → n < 2 ^ 64 → trim_ows (32 ∷ decimal n) ≡ decimal n
decimal_trimmed n small =
    let all = All-weaker (IsInRange 48 57) (λ b. IsTrue (is_other b)) other_byte (decimal n) (digits_of n small) in
    trim_ows_space (decimal n) (no_skip (decimal n) all)
    (no_skip (reverse (decimal n)) (AllPass-reverse is_other (decimal n) all))

-- ---- dates

sign : (text : List ℕ) → list_all is_value_byte text ≡ true → IsValue text
sign text passes = record { all = AllPass-from_list_all is_value_byte text passes }

joined : {a b : List ℕ} → IsValue a → IsValue b → IsValue (a ++ b)
joined {a} {b} x y = record { all = All-append (λ c. IsTrue (is_value_byte c)) a b x.all y.all }

-- a word of a table of words, or none past its end
word_value : (words : List (List ℕ)) (i : ℕ) → list_all (list_all is_value_byte) words ≡ true
    → IsValue (get_or words i [])
word_value words i all =
    elim (cases_lt i (length words)) [
      | inl within ↦ sign (get_or words i []) (All-get_or (λ w. IsTrue (list_all is_value_byte w)) words i [] within
          (AllPass-from_list_all (list_all is_value_byte) words all))
      | inr past ↦ rw (get_or_past words i [] past) (record { all = All-nil (λ b. IsTrue (is_value_byte b)) })
    ]

two_value : (n : ℕ) → n < 100 → IsValue (two_digits n)
two_value n small = record {
  all = All-from_recursion (λ b. IsTrue (is_value_byte b)) (two_digits n) (
    value_byte (48 + n / 10) (omega arith) (omega arith),
    (value_byte (48 + n % 10) (omega arith) (omega arith), tt),
  );
}

month_short : (y m : ℕ) → days_in_month y m ≤ 31
month_short y m =
    split (m == 2)
    (λ two. rw two (split (is_leap_year y) (λ leap. rw leap (omega arith)) (λ other. rw other (omega arith))))
    (λ other. rw other (thirty ((m == 4) || (m == 6) || (m == 9) || (m == 11))))
  where
    thirty : (t : Bool) → (if t then 30 else 31) ≤ 31
    thirty true = omega arith
    thirty false = omega arith

abbrev days : List (List ℕ)
days =
    codes "Mon" ∷ codes "Tue" ∷ codes "Wed" ∷ codes "Thu" ∷ codes "Fri" ∷ codes "Sat" ∷ codes "Sun" ∷ []

abbrev months : List (List ℕ)
months =
    codes "Jan" ∷ codes "Feb" ∷ codes "Mar" ∷ codes "Apr" ∷ codes "May" ∷ codes "Jun"
    ∷ codes "Jul" ∷ codes "Aug" ∷ codes "Sep" ∷ codes "Oct" ∷ codes "Nov" ∷ codes "Dec" ∷ []

day_value : (p : Parts) → p.day ≤ days_in_month p.year p.mon
    → IsValue (day_name p.wday ++ codes ", " ++ two_digits p.day ++ codes " " ++ month_name p.mon ++ codes " ")
day_value p most =
    let day = two_value p.day (omega (arith, most, month_short p.year p.mon)) in
    let name : IsValue (day_name p.wday) = word_value days (p.wday - 1) refl in
    let month : IsValue (month_name p.mon) = word_value months (p.mon - 1) refl in
    let gap = sign (codes " ") refl in
    joined (joined (joined (joined (joined name (sign (codes ", ") refl)) day) gap) month) gap

time_value : (p : Parts) → p.hour < 24 → p.min < 60 → p.sec < 60 → IsValue (time_of_day p)
time_value p hour min sec =
    let colon = sign (codes ":") refl in
    joined (joined (joined (joined (two_value p.hour (omega arith)) colon) (two_value p.min (omega arith))) colon)
    (two_value p.sec (omega arith))

year_value : (y : ℕ) → y ≤ 9999 → IsValue (four_digits y)
year_value y most = joined (two_value (y / 100) (omega arith)) (two_value (y % 100) (omega arith))

pub date_value : (d : HttpDate) → IsValue (date_text d)
date_value d =
    let front = day_value d.parts d.civil.2.1 in
    let year = year_value d.parts.year d.civil.0.1 in
    let time = time_value d.parts d.time.0 d.time.1 d.time.2 in
    joined (joined (joined (joined front year) (sign (codes " ") refl)) time) (sign (codes " GMT") refl)
