-- Each token at the front is read, or a longer one.
use Rattle.std.specs.Prelude.{ℕ, suc, ◌≡◌, ◌+◌, ◌-◌, ◌*◌, ◌<◌, ◌≤◌, ◌==◌, Bool, true, false, cond, ◌||◌, List, [], ◌∷◌, ◌++◌, length, Option, Some, None, pos, encode_utf8_all, refl}
use Rattle.std.specs.List.{list_all}
use Rattle.std.proofs.Common.{sym, ap, subst, ◌∙◌, arith, append_assoc, eq-eqb, eqb-true}
use Rattle.std.proofs.lemmas.Bool.{false≢true, and_parts}
use Rattle.field_text.specs.Xml.{is_name_start, is_name_char, begins_as_name, is_local_name}
use Rattle.rosa_pieces.specs.Reading.{past}
use Rattle.form_tokens.specs.declared.token.Token.{Token}
use Rattle.form_tokens.specs.declared.token.Token.TheVariants.{Digits, Quoted, Absolute, Relative, Name, Dot, Less, LessEqual, Greater, GreaterEqual}
use Rattle.form_tokens.specs.Tokens.{is_digit, is_inside, text_before, quoted_at, past_names, past_attribute, absolute_at, past_steps, dotted_at, name_at, sign_or, not_equal_at, sign_at, token_at}
use Rattle.form_tokens.specs.Spelling.{value_of, are_names, slashed, steps, IsToken, digits, quoted, absolute, absolute_attribute, relative, named, dot, opening, closing, opening_bracket, closing_bracket, comma, equal, not_equal, less, less_equal, greater, greater_equal, plus, minus, star}
use Rattle.form_tokens.proofs.Fits.{past_fits, names_fit, attribute_fits, digits_pass, past_append, begins_append, name_chars, names_pass, no_start, no_digit, steps_pass, steps_shrink, text_is}

-- a token is read that leaves at most so many characters, and no other one leaves so many
abbrev pub Reads : Token → ℕ → Option (Token × List ℕ) → Type 0
Reads token n None = ⊥
Reads token n (Some x) = (length x.1 ≤ n) × (length x.1 ≡ n → x.0 ≡ token)

-- a token whose text is its own characters
reads_text : (f : List ℕ → Token) (spelled r cs rest : List ℕ) → cs ≡ spelled ++ r → length rest ≤ length r → Reads (f (encode_utf8_all spelled)) (length r) (Some (f (text_before cs rest), rest))
reads_text f spelled r cs rest parts few = (few, λ same. ap f (text_is spelled r cs rest parts same))

digits_read : (cs r : List ℕ) → 0 < length cs → length cs ≤ 15 → list_all is_digit cs ≡ true → Reads (Digits (pos (value_of cs))) (length r) (token_at (cs ++ r))
unfolding token_at
digits_read [] r some few all = absurd (omega arith)
digits_read (c ∷ cs) r some few all =
    let (few_left, value) = digits_pass 14 (0 * 10 + (c - 48)) cs r ((and_parts (is_digit c) (list_all is_digit cs) all).1) (omega arith) in
    rw ((and_parts (is_digit c) (list_all is_digit cs) all).0) (few_left, λ same. ap (λ v. Digits (pos v)) (value same))

quoted_read : (quote : ℕ) (inside r : List ℕ) → list_all (is_inside quote) inside ≡ true → Reads (Quoted (encode_utf8_all inside)) (length r) (quoted_at quote ((inside ++ quote ∷ []) ++ r))
unfolding quoted_at
quoted_read quote inside r all =
    let same : (quote == quote) ≡ true = eq-eqb quote quote refl in
    let on : past (is_inside quote) (quote ∷ r) ≡ quote ∷ r = rw same refl in
    let apart : (inside ++ quote ∷ []) ++ r ≡ inside ++ (quote ∷ r) = append_assoc inside (quote ∷ []) r in
    let stop : past (is_inside quote) ((inside ++ quote ∷ []) ++ r) ≡ quote ∷ r =
    ap (past (is_inside quote)) apart ∙ (past_append (is_inside quote) inside (quote ∷ r) all ∙ on) in
    rw (stop, same) (omega arith, λ _. ap Quoted (text_is inside (quote ∷ r) ((inside ++ quote ∷ []) ++ r) (quote ∷ r) apart refl))

quote_read : (quote : ℕ) (inside r : List ℕ) (double single : Bool) → (quote == 34) ≡ double → (quote == 39) ≡ single → (double || single) ≡ true
    → list_all (is_inside quote) inside ≡ true → Reads (Quoted (encode_utf8_all inside)) (length r) (token_at ((quote ∷ inside ++ quote ∷ []) ++ r))
unfolding token_at
quote_read quote inside r true single e f is all =
    let here : quote ≡ 34 = eqb-true quote 34 e in
    subst (λ (q : ℕ). Reads (Quoted (encode_utf8_all inside)) (length r) (token_at ((q ∷ inside ++ q ∷ []) ++ r))) (sym here) (quoted_read 34 inside r (subst (λ (q : ℕ). list_all (is_inside q) inside ≡ true) here all))
quote_read quote inside r false true e f is all =
    let here : quote ≡ 39 = eqb-true quote 39 f in
    subst (λ (q : ℕ). Reads (Quoted (encode_utf8_all inside)) (length r) (token_at ((q ∷ inside ++ q ∷ []) ++ r))) (sym here) (quoted_read 39 inside r (subst (λ (q : ℕ). list_all (is_inside q) inside ≡ true) here all))
quote_read quote inside r false false e f is all = absurd (false≢true is)

dot_read : (r : List ℕ) → Reads Dot (length r) (token_at (46 ∷ r))
unfolding token_at dotted_at
dot_read r = dot_read_at (begins_as_name (past_steps (46 ∷ r))) refl
  where
    dot_read_at : (b : Bool) → begins_as_name (past_steps (46 ∷ r)) ≡ b
        → Reads Dot (length r) (cond b (Some (Relative (text_before (46 ∷ r) (past_names (past_steps (46 ∷ r)))), past_names (past_steps (46 ∷ r)))) (Some (Dot, r)))
    dot_read_at true begins =
        let fewer : length (past_names (past_steps (46 ∷ r))) < length r = omega (arith, names_fit (past_steps (46 ∷ r)), steps_shrink r begins) in
        (omega arith, λ same. absurd (omega arith))
    dot_read_at false begins = (omega arith, λ _. refl)

name_read : (cs r : List ℕ) → is_local_name cs ≡ true → Reads (Name (encode_utf8_all cs)) (length r) (token_at (cs ++ r))
unfolding token_at name_at
name_read [] r local = absurd (false≢true local)
name_read (c ∷ cs) r local =
    let start : is_name_start c ≡ true = (and_parts (is_name_start c) (list_all is_name_char (c ∷ cs)) local).0 in
    let chars : list_all is_name_char cs ≡ true = (and_parts (is_name_char c) (list_all is_name_char cs) (name_chars (c ∷ cs) local)).1 in
    let left : length (past is_name_char (cs ++ r)) ≤ length r = subst (λ (x : List ℕ). length x ≤ length r) (sym (past_append is_name_char cs r chars)) (past_fits is_name_char r) in
    rw (no_digit c start, no_start c 34 start refl, no_start c 39 start refl, no_start c 47 start refl, no_start c 46 start refl, start)
    (reads_text Name (c ∷ cs) r (c ∷ (cs ++ r)) (past is_name_char (cs ++ r)) refl left)

absolute_read : (name : List ℕ) (names : List (List ℕ)) (r : List ℕ) → are_names (name ∷ names) ≡ true → Reads (Absolute (encode_utf8_all (slashed (name ∷ names)))) (length r) (token_at (slashed (name ∷ names) ++ r))
unfolding token_at absolute_at
absolute_read name names r all =
    let (begins, passed) = names_pass name names r all in
    let cs = (name ++ slashed names) ++ r in
    let left : length (past_attribute (past_names cs)) ≤ length r =
    subst (λ (x : List ℕ). length (past_attribute x) ≤ length r) (sym passed) (omega (arith, attribute_fits (past_names r), names_fit r)) in
    rw begins (reads_text Absolute (slashed (name ∷ names)) r (47 ∷ cs) (past_attribute (past_names cs)) refl left)

attribute_read : (name : List ℕ) (names : List (List ℕ)) (last r : List ℕ) → are_names (name ∷ names) ≡ true → is_local_name last ≡ true
    → Reads (Absolute (encode_utf8_all (slashed (name ∷ names) ++ 47 ∷ 64 ∷ last))) (length r) (token_at ((slashed (name ∷ names) ++ 47 ∷ 64 ∷ last) ++ r))
unfolding token_at absolute_at
attribute_read name names last r all local =
    let (begins, passed) = names_pass name names (47 ∷ 64 ∷ (last ++ r)) all in
    let end : length (past is_name_char (last ++ r)) ≤ length r = subst (λ (x : List ℕ). length x ≤ length r) (sym (past_append is_name_char last r (name_chars last local))) (past_fits is_name_char r) in
    let behind : length (past_attribute (47 ∷ 64 ∷ (last ++ r))) ≤ length r = rw (begins_append last r local) end in
    let cs = ((name ++ slashed names) ++ 47 ∷ 64 ∷ last) ++ r in
    let apart : cs ≡ (name ++ slashed names) ++ 47 ∷ 64 ∷ (last ++ r) = append_assoc (name ++ slashed names) (47 ∷ 64 ∷ last) r in
    let on : begins_as_name cs ≡ true = ap begins_as_name apart ∙ begins in
    let left : length (past_attribute (past_names cs)) ≤ length r = subst (λ (x : List ℕ). length (past_attribute x) ≤ length r) (sym (ap past_names apart ∙ passed)) behind in
    rw on (reads_text Absolute (slashed (name ∷ names) ++ 47 ∷ 64 ∷ last) r (47 ∷ cs) (past_attribute (past_names cs)) refl left)

relative_read : (n : ℕ) (name : List ℕ) (names : List (List ℕ)) (r : List ℕ) → are_names (name ∷ names) ≡ true
    → Reads (Relative (encode_utf8_all (steps (suc n) ++ (name ++ slashed names)))) (length r) (token_at ((steps (suc n) ++ (name ++ slashed names)) ++ r))
unfolding token_at dotted_at
relative_read n name names r all =
    let (begins, passed) = names_pass name names r all in
    let cs = (name ++ slashed names) ++ r in
    let left : length (past_names cs) ≤ length r = subst (λ (x : List ℕ). length x ≤ length r) (sym passed) (names_fit r) in
    rw (steps_pass n (name ++ slashed names) r begins, begins)
    (reads_text Relative (steps (suc n) ++ (name ++ slashed names)) r ((steps (suc n) ++ (name ++ slashed names)) ++ r) (past_names cs) refl left)

or_read : (alone with_equals : Token) (cs : List ℕ) → Reads alone (length cs) (Some (sign_or alone with_equals cs))
or_read alone with_equals [] = (omega arith, λ _. refl)
or_read alone with_equals (c ∷ cs) = or_read_at (c == 61)
  where
    or_read_at : (b : Bool) → Reads alone (length (c ∷ cs)) (Some (cond b (with_equals, cs) (alone, c ∷ cs)))
    or_read_at true = (omega arith, λ same. absurd (omega arith))
    or_read_at false = (omega arith, λ _. refl)

pub token_read : (token : Token) (spelled r : List ℕ) → IsToken token spelled → Reads token (length r) (token_at (spelled ++ r))
unfolding token_at sign_at not_equal_at
token_read token spelled r (digits cs some few all) = digits_read cs r some few all
token_read token spelled r (quoted quote inside is all) = quote_read quote inside r (quote == 34) (quote == 39) refl refl is all
token_read token spelled r (absolute name names all) = absolute_read name names r all
token_read token spelled r (absolute_attribute name names last all local) = attribute_read name names last r all local
token_read token spelled r (relative n name names all) = relative_read n name names r all
token_read token spelled r (named cs local) = name_read cs r local
token_read token spelled r dot = dot_read r
token_read token spelled r opening = (omega arith, λ _. refl)
token_read token spelled r closing = (omega arith, λ _. refl)
token_read token spelled r opening_bracket = (omega arith, λ _. refl)
token_read token spelled r closing_bracket = (omega arith, λ _. refl)
token_read token spelled r comma = (omega arith, λ _. refl)
token_read token spelled r equal = (omega arith, λ _. refl)
token_read token spelled r not_equal = (omega arith, λ _. refl)
token_read token spelled r less = or_read Less LessEqual r
token_read token spelled r less_equal = (omega arith, λ _. refl)
token_read token spelled r greater = or_read Greater GreaterEqual r
token_read token spelled r greater_equal = (omega arith, λ _. refl)
token_read token spelled r plus = (omega arith, λ _. refl)
token_read token spelled r minus = (omega arith, λ _. refl)
token_read token spelled r star = (omega arith, λ _. refl)
