-- Characters that are passed, and how many are left.
use Rattle.std.specs.Prelude.{ℕ, zero, suc, ◌≡◌, ◌+◌, ◌-◌, ◌*◌, ◌<◌, ◌≤◌, ◌==◌, Bool, true, false, cond, nat_le, ◌<◌, ◌&&◌, ◌||◌, List, [], ◌∷◌, ◌++◌, length, take, fold, encode_utf8_all, refl}
use Rattle.std.specs.List.{list_all}
use Rattle.std.proofs.Common.{sym, ap, ◌∙◌, arith, append_assoc, eqb, eqb-true, leb-true, length-append}
use Rattle.std.proofs.Math.Seq.{take-append_seam}
use Rattle.std.proofs.lemmas.Bool.{cond_both, false≢true, ne_eqb, lt-leb, and_parts}
use Rattle.field_text.specs.Xml.{is_name_start, is_name_char, begins_as_name, is_local_name}
use Rattle.rosa_pieces.specs.Reading.{past}
use Rattle.rosa_pieces.proofs.Fronts.{rest_fits}
use Rattle.form_tokens.specs.Tokens.{is_digit, digits_at, text_before, past_names, past_attribute, past_steps}
use Rattle.form_tokens.specs.Spelling.{are_names, slashed, steps}

pub past_fits : (p : ℕ → Bool) (cs : List ℕ) → length (past p cs) ≤ length cs
past_fits p cs = rest_fits p cs (past p cs) refl

pub names_fit : (cs : List ℕ) → length (past_names cs) ≤ length cs
names_fit [] = omega arith
names_fit (c ∷ cs) = cond_both (is_name_char c || ((c == 47) && begins_as_name cs)) (past_names cs) (c ∷ cs) (λ (x : List ℕ). length x ≤ length (c ∷ cs)) (λ _. omega (arith, names_fit cs)) (λ _. omega arith)

pub attribute_fits : (cs : List ℕ) → length (past_attribute cs) ≤ length cs
attribute_fits [] = omega arith
attribute_fits (c ∷ []) = omega arith
attribute_fits (c ∷ d ∷ cs) = cond_both ((c == 47) && (d == 64) && begins_as_name cs) (past is_name_char cs) (c ∷ d ∷ cs) (λ (x : List ℕ). length x ≤ length (c ∷ d ∷ cs)) (λ _. omega (arith, past_fits is_name_char cs)) (λ _. omega arith)

pub digits_fit : (n value : ℕ) (cs : List ℕ) → length (digits_at n value cs).1 ≤ length cs
digits_fit zero value cs = omega arith
digits_fit (suc n) value [] = omega arith
digits_fit (suc n) value (c ∷ cs) = cond_both (is_digit c) (digits_at n (value * 10 + (c - 48)) cs) (value, c ∷ cs) (λ (x : ℕ × List ℕ). length x.1 ≤ length (c ∷ cs)) (λ _. omega (arith, digits_fit n (value * 10 + (c - 48)) cs)) (λ _. omega arith)

-- the value of digits behind others with a value
abbrev pub more_digits : ℕ → List ℕ → ℕ
more_digits value ds = fold (λ v c. v * 10 + (c - 48)) value ds

digits_stop : (n value : ℕ) (r : List ℕ) → length (digits_at n value r).1 ≡ length r → (digits_at n value r).0 ≡ value
digits_stop zero value r same = refl
digits_stop (suc n) value [] same = refl
digits_stop (suc n) value (c ∷ cs) same = stop_at (is_digit c) same
  where
    stop_at : (b : Bool) → length (cond b (digits_at n (value * 10 + (c - 48)) cs) (value, c ∷ cs)).1 ≡ length (c ∷ cs) → (cond b (digits_at n (value * 10 + (c - 48)) cs) (value, c ∷ cs)).0 ≡ value
    stop_at true same = absurd (omega (arith, digits_fit n (value * 10 + (c - 48)) cs))
    stop_at false same = refl

-- digits at the front are passed, as many as may be
pub digits_pass : (n value : ℕ) (ds r : List ℕ) → list_all is_digit ds ≡ true → length ds ≤ n
    → (length (digits_at n value (ds ++ r)).1 ≤ length r) × (length (digits_at n value (ds ++ r)).1 ≡ length r → (digits_at n value (ds ++ r)).0 ≡ more_digits value ds)
digits_pass n value [] r all few = (digits_fit n value r, digits_stop n value r)
digits_pass zero value (d ∷ ds) r all few = absurd (omega arith)
digits_pass (suc n) value (d ∷ ds) r all few =
    rw ((and_parts (is_digit d) (list_all is_digit ds) all).0) (digits_pass n (value * 10 + (d - 48)) ds r ((and_parts (is_digit d) (list_all is_digit ds) all).1) (omega arith))

-- characters that pass are passed at the front
pub past_append : (p : ℕ → Bool) (xs r : List ℕ) → list_all p xs ≡ true → past p (xs ++ r) ≡ past p r
past_append p [] r all = refl
past_append p (x ∷ xs) r all = rw ((and_parts (p x) (list_all p xs) all).0) (past_append p xs r ((and_parts (p x) (list_all p xs) all).1))

names_append : (xs r : List ℕ) → list_all is_name_char xs ≡ true → past_names (xs ++ r) ≡ past_names r
names_append [] r all = refl
names_append (x ∷ xs) r all = rw ((and_parts (is_name_char x) (list_all is_name_char xs) all).0) (names_append xs r ((and_parts (is_name_char x) (list_all is_name_char xs) all).1))

pub begins_append : (name r : List ℕ) → is_local_name name ≡ true → begins_as_name (name ++ r) ≡ true
begins_append [] r local = absurd (false≢true local)
begins_append (c ∷ cs) r local = (and_parts (is_name_start c) (list_all is_name_char (c ∷ cs)) local).0

pub name_chars : (name : List ℕ) → is_local_name name ≡ true → list_all is_name_char name ≡ true
name_chars name local = (and_parts (begins_as_name name) (list_all is_name_char name) local).1

slashed_append : (names : List (List ℕ)) (r : List ℕ) → are_names names ≡ true → past_names (slashed names ++ r) ≡ past_names r
slashed_append [] r all = refl
slashed_append (name ∷ names) r all =
    let local : is_local_name name ≡ true = (and_parts (is_local_name name) (are_names names) all).0 in
    let apart : (name ++ slashed names) ++ r ≡ name ++ (slashed names ++ r) = append_assoc name (slashed names) r in
    let begins : begins_as_name ((name ++ slashed names) ++ r) ≡ true = ap begins_as_name apart ∙ begins_append name (slashed names ++ r) local in
    rw begins (ap past_names apart ∙ (names_append name (slashed names ++ r) (name_chars name local) ∙ slashed_append names r ((and_parts (is_local_name name) (are_names names) all).1)))

-- a name and names behind it are passed at the front
pub names_pass : (name : List ℕ) (names : List (List ℕ)) (r : List ℕ) → are_names (name ∷ names) ≡ true
    → (begins_as_name ((name ++ slashed names) ++ r) ≡ true) × (past_names ((name ++ slashed names) ++ r) ≡ past_names r)
names_pass name names r all =
    let local : is_local_name name ≡ true = (and_parts (is_local_name name) (are_names names) all).0 in
    let apart : (name ++ slashed names) ++ r ≡ name ++ (slashed names ++ r) = append_assoc name (slashed names) r in (
      ap begins_as_name apart ∙ begins_append name (slashed names ++ r) local,
      ap past_names apart ∙ (names_append name (slashed names ++ r) (name_chars name local) ∙ slashed_append names r ((and_parts (is_local_name name) (are_names names) all).1)),
    )

-- a character that begins a name is none that doesn't
pub no_start : (c k : ℕ) → is_name_start c ≡ true → is_name_start k ≡ false → (c == k) ≡ false
no_start c k start off = no_start_at (eqb c k) refl
  where
    no_start_at : (b : Bool) → eqb c k ≡ b → eqb c k ≡ false
    no_start_at true e = absurd (false≢true (sym off ∙ (ap is_name_start (sym (eqb-true c k e)) ∙ start)))
    no_start_at false e = e

digit_no_start : (c : ℕ) → is_digit c ≡ true → is_name_start c ≡ false
digit_no_start c digit =
    let low : c ≤ 57 = leb-true c 57 ((and_parts (nat_le 48 c) (nat_le c 57) digit).1) in
    let upper : nat_le 65 c ≡ false = lt-leb 65 c (omega arith) in
    let lower : nat_le 97 c ≡ false = lt-leb 97 c (omega arith) in
    let line : (c == 95) ≡ false = ne_eqb c 95 (λ e. absurd (omega arith)) in
    let far : nat_le 128 c ≡ false = lt-leb 128 c (omega arith) in
    rw (upper, lower, line, far) refl

pub no_digit : (c : ℕ) → is_name_start c ≡ true → is_digit c ≡ false
no_digit c start = no_digit_at (is_digit c) refl
  where
    no_digit_at : (b : Bool) → is_digit c ≡ b → is_digit c ≡ false
    no_digit_at true e = absurd (false≢true (sym (digit_no_start c e) ∙ start))
    no_digit_at false e = e

steps_none : (cs : List ℕ) → begins_as_name cs ≡ true → past_steps cs ≡ cs
steps_none [] begins = refl
steps_none (a ∷ []) begins = refl
steps_none (a ∷ b ∷ []) begins = refl
steps_none (a ∷ b ∷ c ∷ cs) begins = rw (no_start a 46 begins refl) refl

pub steps_pass : (n : ℕ) (cs r : List ℕ) → begins_as_name (cs ++ r) ≡ true → past_steps ((steps n ++ cs) ++ r) ≡ cs ++ r
steps_pass zero cs r begins = steps_none (cs ++ r) begins
steps_pass (suc n) cs r begins = steps_pass n cs r begins

pub steps_fit : (cs : List ℕ) → length (past_steps cs) ≤ length cs
steps_fit [] = omega arith
steps_fit (a ∷ []) = omega arith
steps_fit (a ∷ b ∷ []) = omega arith
steps_fit (a ∷ b ∷ c ∷ cs) = cond_both ((a == 46) && (b == 46) && (c == 47)) (past_steps cs) (a ∷ b ∷ c ∷ cs) (λ (x : List ℕ). length x ≤ length (a ∷ b ∷ c ∷ cs)) (λ _. omega (arith, steps_fit cs)) (λ _. omega arith)

-- a name behind steps leaves fewer characters than the period
pub steps_shrink : (r : List ℕ) → begins_as_name (past_steps (46 ∷ r)) ≡ true → length (past_steps (46 ∷ r)) < length r
steps_shrink [] begins = absurd (false≢true begins)
steps_shrink (a ∷ []) begins = absurd (false≢true begins)
steps_shrink (a ∷ b ∷ cs) begins = shrink_at ((a == 46) && (b == 47)) begins
  where
    shrink_at : (t : Bool) → begins_as_name (cond t (past_steps cs) (46 ∷ a ∷ b ∷ cs)) ≡ true → length (cond t (past_steps cs) (46 ∷ a ∷ b ∷ cs)) < length (a ∷ b ∷ cs)
    shrink_at true begins = omega (arith, steps_fit cs)
    shrink_at false begins = absurd (false≢true begins)

-- the text of what spells a token, where so much is left
pub text_is : (spelled r cs rest : List ℕ) → cs ≡ spelled ++ r → length rest ≡ length r → text_before cs rest ≡ encode_utf8_all spelled
text_is spelled r cs rest parts same =
    let long : length cs ≡ length spelled + length r = ap length parts ∙ length-append spelled r in
    let count : length cs - length rest ≡ length spelled = omega arith in
    ap encode_utf8_all (ap (λ n. take n cs) count ∙ (ap (take (length spelled)) parts ∙ take-append_seam spelled r))
