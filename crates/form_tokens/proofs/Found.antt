-- What is read stands at the front.
use Rattle.std.specs.Prelude.{ℕ, zero, suc, pos, ◌≡◌, ◌+◌, ◌-◌, ◌*◌, ◌≤◌, ◌==◌, Bool, true, false, cond, ◌&&◌, ◌||◌, List, [], ◌∷◌, ◌++◌, length, fold, Option, Some, None, encode_utf8_all, refl}
use Rattle.std.specs.List.{list_all}
use Rattle.std.proofs.Common.{sym, ap, subst, ◌∙◌, arith, append_assoc, eqb, eqb-true}
use Rattle.std.proofs.lemmas.Bool.{false≢true, and_parts}
use Rattle.field_text.specs.Xml.{is_name_start, is_name_char, begins_as_name, is_local_name}
use Rattle.rosa_pieces.specs.Reading.{◌>>=◌, front, past, past_one}
use Rattle.rosa_pieces.proofs.Fronts.{front_past, front_passes, take_front}
use Rattle.rosa_pieces.proofs.Steps.{start_is_char}
use Rattle.form_tokens.specs.declared.token.Token.{Token}
use Rattle.form_tokens.specs.declared.token.Token.TheVariants.{Digits, Quoted, Absolute, Relative, Name, Dot, Open, Close, OpenBracket, CloseBracket, Comma, Equal, NotEqual, Less, LessEqual, Greater, GreaterEqual, Plus, Minus, Star}
use Rattle.form_tokens.specs.Tokens.{is_digit, digits_at, is_inside, text_before, quoted_at, past_names, past_attribute, absolute_at, past_steps, dotted_at, name_at, sign_or, not_equal_at, sign_at, digits_token, token_at}
use Rattle.form_tokens.specs.Spelling.{value_of, is_quote, are_names, slashed, steps, IsToken, digits, quoted, absolute, absolute_attribute, relative, named, dot, opening, closing, opening_bracket, closing_bracket, comma, equal, not_equal, less, less_equal, greater, greater_equal, plus, minus, star, StandsBefore}
use Rattle.form_tokens.proofs.Fits.{text_is}

-- what is read, if anything is, stands before what is left
abbrev pub IsFound : List ℕ → Option (Token × List ℕ) → Type 0
IsFound cs None = Unit {0}
IsFound cs (Some x) = StandsBefore x.0 cs x.1

either : (cs : List ℕ) (b : Bool) (x y : Option (Token × List ℕ)) → (b ≡ true → IsFound cs x) → (b ≡ false → IsFound cs y) → IsFound cs (cond b x y)
either cs true x y h k = h refl
either cs false x y h k = k refl

-- a token whose text is its own characters
stands : (f : List ℕ → Token) (spelled cs rest : List ℕ) → cs ≡ spelled ++ rest → IsToken (f (encode_utf8_all spelled)) spelled → StandsBefore (f (text_before cs rest)) cs rest
stands f spelled cs rest parts is = (spelled, subst (λ (text : List ℕ). IsToken (f text) spelled) (sym (text_is spelled rest cs rest parts refl)) is, parts)

record DigitsAt (n value : ℕ) (cs : List ℕ) (x : ℕ × List ℕ) : Type 0 where
  ds : List ℕ
  parts : cs ≡ ds ++ x.1
  all : list_all is_digit ds ≡ true
  few : length ds ≤ n
  value_is : x.0 ≡ fold (λ v c. v * 10 + (c - 48)) value ds

digits_found : (n value : ℕ) (cs : List ℕ) → DigitsAt n value cs (digits_at n value cs)
digits_found zero value cs = record { ds = []; parts = refl; all = refl; few = omega arith; value_is = refl }
digits_found (suc n) value [] = record { ds = []; parts = refl; all = refl; few = omega arith; value_is = refl }
digits_found (suc n) value (c ∷ cs) = digit_found (is_digit c) refl (digits_found n (value * 10 + (c - 48)) cs)
  where
    digit_found : (b : Bool) → is_digit c ≡ b → DigitsAt n (value * 10 + (c - 48)) cs (digits_at n (value * 10 + (c - 48)) cs)
        → DigitsAt (suc n) value (c ∷ cs) (cond b (digits_at n (value * 10 + (c - 48)) cs) (value, c ∷ cs))
    digit_found true e others = record {
      ds = c ∷ others.ds;
      parts = ap (λ r. c ∷ r) others.parts;
      all = rw e others.all;
      few = let less = others.few in omega arith;
      value_is = others.value_is;
    }
    digit_found false e others = record { ds = []; parts = refl; all = refl; few = omega arith; value_is = refl }

number_found : (c : ℕ) (cs : List ℕ) → is_digit c ≡ true → IsFound (c ∷ cs) (Some (digits_token (digits_at 15 0 (c ∷ cs))))
number_found c cs digit =
    let others = digits_found 14 (0 * 10 + (c - 48)) cs in
    let few : length (c ∷ others.ds) ≤ 15 = let less = others.few in omega arith in
    let token : IsToken (Digits (pos (value_of (c ∷ others.ds)))) (c ∷ others.ds) = digits (c ∷ others.ds) (omega arith) few (rw digit others.all) in
    rw digit (c ∷ others.ds, subst (λ (v : ℕ). IsToken (Digits (pos v)) (c ∷ others.ds)) (sym others.value_is) token, ap (λ r. c ∷ r) others.parts)

one_found : (quote : ℕ) (inside cs rest : List ℕ) → is_quote quote ≡ true → list_all (is_inside quote) inside ≡ true → cs ≡ inside ++ rest
    → (token : Token) → token ≡ Quoted (encode_utf8_all inside) → IsFound (quote ∷ cs) (past_one quote rest >>= λ r. Some (token, r))
one_found quote inside cs [] is all parts token text = tt
one_found quote inside cs (d ∷ ds) is all parts token text = end_found (d == quote) refl
  where
    end_found : (b : Bool) → eqb d quote ≡ b → IsFound (quote ∷ cs) (cond b (Some ds) None >>= λ r. Some (token, r))
    end_found true e =
        let end : d ≡ quote = eqb-true d quote e in
        let here : cs ≡ inside ++ (quote ∷ ds) = parts ∙ ap (λ q. inside ++ (q ∷ ds)) end in
        let apart : (inside ++ quote ∷ []) ++ ds ≡ inside ++ (quote ∷ ds) = append_assoc inside (quote ∷ []) ds in
        (quote ∷ inside ++ quote ∷ [], subst (λ (t : Token). IsToken t (quote ∷ inside ++ quote ∷ [])) (sym text) (quoted quote inside is all), ap (λ r. quote ∷ r) (here ∙ sym apart))
    end_found false e = tt

quoted_found : (quote : ℕ) (cs : List ℕ) → is_quote quote ≡ true → IsFound (quote ∷ cs) (quoted_at quote cs)
unfolding quoted_at
quoted_found quote cs is =
    let p = is_inside quote in
    one_found quote (front p cs) cs (past p cs) is (front_passes p cs) (sym (front_past p cs)) (Quoted (text_before cs (past p cs))) (ap Quoted (ap encode_utf8_all (take_front p cs (past p cs) refl)))

-- characters of a name, names behind them, and the rest
record Names (cs rest : List ℕ) : Type 0 where
  more : List ℕ
  names : List (List ℕ)
  chars : list_all is_name_char more ≡ true
  are : are_names names ≡ true
  parts : cs ≡ (more ++ slashed names) ++ rest
  begins : begins_as_name cs ≡ true → begins_as_name more ≡ true

names_by : (c : ℕ) (cs : List ℕ) (a b d : Bool) → is_name_char c ≡ a → (c == 47) ≡ b → begins_as_name cs ≡ d → Names cs (past_names cs)
    → Names (c ∷ cs) (cond (a || (b && d)) (past_names cs) (c ∷ cs))
names_by c cs true b d e f g others = record {
  more = c ∷ others.more;
  names = others.names;
  chars = rw e others.chars;
  are = others.are;
  parts = ap (λ r. c ∷ r) others.parts;
  begins = λ start. start;
}
names_by c cs false true true e f g others =
    let local : is_local_name others.more ≡ true = rw (others.begins g) others.chars in record {
      more = [];
      names = others.more ∷ others.names;
      chars = refl;
      are = rw local others.are;
      parts = ap (λ k. k ∷ cs) (eqb-true c 47 f) ∙ ap (λ r. 47 ∷ r) others.parts;
      begins = λ start. absurd (false≢true (sym e ∙ start_is_char c start));
    }
names_by c cs false true false e f g others = record { more = []; names = []; chars = refl; are = refl; parts = refl; begins = λ start. absurd (false≢true (sym e ∙ start_is_char c start)) }
names_by c cs false false d e f g others = record { more = []; names = []; chars = refl; are = refl; parts = refl; begins = λ start. absurd (false≢true (sym e ∙ start_is_char c start)) }

names_found : (cs : List ℕ) → Names cs (past_names cs)
names_found [] = record { more = []; names = []; chars = refl; are = refl; parts = refl; begins = λ none. none }
names_found (c ∷ cs) = names_by c cs (is_name_char c) (c == 47) (begins_as_name cs) refl refl refl (names_found cs)

-- a name with further names behind it, where one begins
record NamesBegin (cs rest : List ℕ) : Type 0 where
  name : List ℕ
  names : List (List ℕ)
  are : are_names (name ∷ names) ≡ true
  parts : cs ≡ (name ++ slashed names) ++ rest

names_begin : (cs : List ℕ) → begins_as_name cs ≡ true → NamesBegin cs (past_names cs)
names_begin cs begins =
    let found = names_found cs in
    let local : is_local_name found.more ≡ true = rw (found.begins begins) found.chars in
    record { name = found.more; names = found.names; are = rw local found.are; parts = found.parts }

-- the rest begins with an attribute's name, or nothing more is passed
data Attribute : List ℕ → List ℕ → Type 0 where
  no_attribute : (r : List ℕ) → Attribute r r
  has_attribute : (last r : List ℕ) → is_local_name last ≡ true → Attribute (47 ∷ 64 ∷ (last ++ r)) r

attribute_by : (c d : ℕ) (cs : List ℕ) (t : Bool) → ((c == 47) && (d == 64) && begins_as_name cs) ≡ t → Attribute (c ∷ d ∷ cs) (cond t (past is_name_char cs) (c ∷ d ∷ cs))
attribute_by c d cs false e = no_attribute (c ∷ d ∷ cs)
attribute_by c d [] true e = absurd (false≢true ((and_parts ((c == 47) && (d == 64)) false e).1))
attribute_by c d (k ∷ ks) true e =
    let signs : ((c == 47) && (d == 64)) ≡ true = (and_parts ((c == 47) && (d == 64)) (is_name_start k) e).0 in
    let start : is_name_start k ≡ true = (and_parts ((c == 47) && (d == 64)) (is_name_start k) e).1 in
    let char : is_name_char k ≡ true = start_is_char k start in
    let slash : c ≡ 47 = eqb-true c 47 ((and_parts (c == 47) (d == 64) signs).0) in
    let sign : d ≡ 64 = eqb-true d 64 ((and_parts (c == 47) (d == 64) signs).1) in
    let last = front is_name_char (k ∷ ks) in
    let rest = past is_name_char (k ∷ ks) in
    let begins : begins_as_name last ≡ true = rw char start in
    let local : is_local_name last ≡ true = rw begins (front_passes is_name_char (k ∷ ks)) in
    let whole : 47 ∷ 64 ∷ (last ++ rest) ≡ c ∷ d ∷ k ∷ ks = ap (λ r. 47 ∷ 64 ∷ r) (front_past is_name_char (k ∷ ks)) ∙ (ap (λ x. x ∷ 64 ∷ k ∷ ks) (sym slash) ∙ ap (λ x. c ∷ x ∷ k ∷ ks) (sym sign)) in
    subst (λ (r : List ℕ). Attribute r rest) whole (has_attribute last rest local)

attribute_found : (r : List ℕ) → Attribute r (past_attribute r)
attribute_found [] = no_attribute []
attribute_found (c ∷ []) = no_attribute (c ∷ [])
attribute_found (c ∷ d ∷ cs) = attribute_by c d cs ((c == 47) && (d == 64) && begins_as_name cs) refl

with_attribute : (name : List ℕ) (names : List (List ℕ)) (cs r rest : List ℕ) → are_names (name ∷ names) ≡ true → cs ≡ slashed (name ∷ names) ++ r → Attribute r rest
    → StandsBefore (Absolute (text_before cs rest)) cs rest
with_attribute name names cs r rest all parts (no_attribute _) = stands Absolute (slashed (name ∷ names)) cs r parts (absolute name names all)
with_attribute name names cs r rest all parts (has_attribute last _ local) =
    stands Absolute (slashed (name ∷ names) ++ 47 ∷ 64 ∷ last) cs rest (parts ∙ sym (append_assoc (slashed (name ∷ names)) (47 ∷ 64 ∷ last) rest)) (absolute_attribute name names last all local)

absolute_found : (cs : List ℕ) → IsFound (47 ∷ cs) (absolute_at (47 ∷ cs) cs)
unfolding absolute_at
absolute_found cs = either (47 ∷ cs) (begins_as_name cs) _ None (λ begins.
    let found = names_begin cs begins in
    with_attribute found.name found.names (47 ∷ cs) (past_names cs) (past_attribute (past_names cs)) found.are (ap (λ r. 47 ∷ r) found.parts) (attribute_found (past_names cs))) (λ _. tt)

steps_by : (a b c : ℕ) (cs : List ℕ) (t : Bool) → ((a == 46) && (b == 46) && (c == 47)) ≡ t → (n : ℕ) × (cs ≡ steps n ++ past_steps cs)
    → (n : ℕ) × (a ∷ b ∷ c ∷ cs ≡ steps n ++ cond t (past_steps cs) (a ∷ b ∷ c ∷ cs))
steps_by a b c cs false e others = (0, refl)
steps_by a b c cs true e (n, parts) =
    let periods : ((a == 46) && (b == 46)) ≡ true = (and_parts ((a == 46) && (b == 46)) (c == 47) e).0 in
    let first : a ≡ 46 = eqb-true a 46 ((and_parts (a == 46) (b == 46) periods).0) in
    let second : b ≡ 46 = eqb-true b 46 ((and_parts (a == 46) (b == 46) periods).1) in
    let slash : c ≡ 47 = eqb-true c 47 ((and_parts ((a == 46) && (b == 46)) (c == 47) e).1) in
    (suc n, ap (λ x. x ∷ b ∷ c ∷ cs) first ∙ (ap (λ x. 46 ∷ x ∷ c ∷ cs) second ∙ (ap (λ x. 46 ∷ 46 ∷ x ∷ cs) slash ∙ ap (λ r. 46 ∷ 46 ∷ 47 ∷ r) parts)))

steps_found : (cs : List ℕ) → (n : ℕ) × (cs ≡ steps n ++ past_steps cs)
steps_found [] = (0, refl)
steps_found (a ∷ []) = (0, refl)
steps_found (a ∷ b ∷ []) = (0, refl)
steps_found (a ∷ b ∷ c ∷ cs) = steps_by a b c cs ((a == 46) && (b == 46) && (c == 47)) refl (steps_found cs)

relative_found : (cs : List ℕ) (n : ℕ) → 46 ∷ cs ≡ steps n ++ past_steps (46 ∷ cs) → begins_as_name (past_steps (46 ∷ cs)) ≡ true
    → StandsBefore (Relative (text_before (46 ∷ cs) (past_names (past_steps (46 ∷ cs))))) (46 ∷ cs) (past_names (past_steps (46 ∷ cs)))
relative_found cs zero parts begins = absurd (false≢true (ap begins_as_name parts ∙ begins))
relative_found cs (suc n) parts begins =
    let found = names_begin (past_steps (46 ∷ cs)) begins in
    let names = found.name ++ slashed found.names in
    let rest = past_names (past_steps (46 ∷ cs)) in
    stands Relative (steps (suc n) ++ names) (46 ∷ cs) rest (parts ∙ (ap (λ r. steps (suc n) ++ r) found.parts ∙ sym (append_assoc (steps (suc n)) names rest))) (relative n found.name found.names found.are)

dotted_found : (cs : List ℕ) → IsFound (46 ∷ cs) (dotted_at (46 ∷ cs) cs)
unfolding dotted_at
dotted_found cs = either (46 ∷ cs) (begins_as_name (past_steps (46 ∷ cs))) _ (Some (Dot, cs))
    (λ begins. let (n, parts) = steps_found (46 ∷ cs) in relative_found cs n parts begins) (λ _. (46 ∷ [], dot, refl))

name_found : (c : ℕ) (cs : List ℕ) → is_name_start c ≡ true → StandsBefore (Name (text_before (c ∷ cs) (past is_name_char (c ∷ cs)))) (c ∷ cs) (past is_name_char (c ∷ cs))
name_found c cs start =
    let char : is_name_char c ≡ true = start_is_char c start in
    let begins : begins_as_name (front is_name_char (c ∷ cs)) ≡ true = rw char start in
    let local : is_local_name (front is_name_char (c ∷ cs)) ≡ true = rw begins (front_passes is_name_char (c ∷ cs)) in
    stands Name (front is_name_char (c ∷ cs)) (c ∷ cs) (past is_name_char (c ∷ cs)) (sym (front_past is_name_char (c ∷ cs))) (named (front is_name_char (c ∷ cs)) local)

named_found : (c : ℕ) (cs : List ℕ) → IsFound (c ∷ cs) (name_at (c ∷ cs))
unfolding name_at
named_found c cs = either (c ∷ cs) (begins_as_name (c ∷ cs)) _ None (λ start. name_found c cs start) (λ _. tt)

one_sign : (token : Token) (c k : ℕ) (cs : List ℕ) → IsToken token (k ∷ []) → (c == k) ≡ true → IsFound (c ∷ cs) (Some (token, cs))
one_sign token c k cs is e = (k ∷ [], is, ap (λ x. x ∷ cs) (eqb-true c k e))

or_sign : (alone with_equals : Token) (c k : ℕ) (cs : List ℕ) → IsToken alone (k ∷ []) → IsToken with_equals (k ∷ 61 ∷ []) → (c == k) ≡ true → IsFound (c ∷ cs) (Some (sign_or alone with_equals cs))
or_sign alone with_equals c k [] one two e = one_sign alone c k [] one e
or_sign alone with_equals c k (d ∷ cs) one two e = or_sign_at (d == 61) refl
  where
    or_sign_at : (b : Bool) → eqb d 61 ≡ b → IsFound (c ∷ d ∷ cs) (Some (cond b (with_equals, cs) (alone, d ∷ cs)))
    or_sign_at true f = (k ∷ 61 ∷ [], two, ap (λ x. x ∷ d ∷ cs) (eqb-true c k e) ∙ ap (λ x. k ∷ x ∷ cs) (eqb-true d 61 f))
    or_sign_at false f = one_sign alone c k (d ∷ cs) one e

not_equal_found : (c : ℕ) (cs : List ℕ) → (c == 33) ≡ true → IsFound (c ∷ cs) (not_equal_at cs)
unfolding not_equal_at
not_equal_found c [] e = tt
not_equal_found c (d ∷ cs) e = sign_found_at (d == 61) refl
  where
    sign_found_at : (b : Bool) → eqb d 61 ≡ b → IsFound (c ∷ d ∷ cs) (cond b (Some cs) None >>= λ rest. Some (NotEqual, rest))
    sign_found_at true f = (33 ∷ 61 ∷ [], not_equal, ap (λ x. x ∷ d ∷ cs) (eqb-true c 33 e) ∙ ap (λ x. 33 ∷ x ∷ cs) (eqb-true d 61 f))
    sign_found_at false f = tt

sign_found : (c : ℕ) (cs : List ℕ) → IsFound (c ∷ cs) (sign_at c cs)
unfolding sign_at
sign_found c cs =
    either _ (c == 40) _ _ (λ e. one_sign Open c 40 cs opening e) (λ _.
    either _ (c == 41) _ _ (λ e. one_sign Close c 41 cs closing e) (λ _.
    either _ (c == 91) _ _ (λ e. one_sign OpenBracket c 91 cs opening_bracket e) (λ _.
    either _ (c == 93) _ _ (λ e. one_sign CloseBracket c 93 cs closing_bracket e) (λ _.
    either _ (c == 44) _ _ (λ e. one_sign Comma c 44 cs comma e) (λ _.
    either _ (c == 61) _ _ (λ e. one_sign Equal c 61 cs equal e) (λ _.
    either _ (c == 33) _ _ (λ e. not_equal_found c cs e) (λ _.
    either _ (c == 60) _ _ (λ e. or_sign Less LessEqual c 60 cs less less_equal e) (λ _.
    either _ (c == 62) _ _ (λ e. or_sign Greater GreaterEqual c 62 cs greater greater_equal e) (λ _.
    either _ (c == 43) _ _ (λ e. one_sign Plus c 43 cs plus e) (λ _.
    either _ (c == 45) _ _ (λ e. one_sign Minus c 45 cs minus e) (λ _.
    either _ (c == 42) _ _ (λ e. one_sign Star c 42 cs star e) (λ _. tt))))))))))))

front_found : (c : ℕ) (cs : List ℕ) → IsFound (c ∷ cs) (token_at (c ∷ cs))
unfolding token_at
front_found c cs =
    either _ (is_digit c) _ _ (λ digit. number_found c cs digit) (λ _.
    either _ ((c == 34) || (c == 39)) _ _ (λ quote. quoted_found c cs quote) (λ _.
    either _ (c == 47) _ _ (λ e. subst (λ (k : ℕ). IsFound (k ∷ cs) (absolute_at (k ∷ cs) cs)) (sym (eqb-true c 47 e)) (absolute_found cs)) (λ _.
    either _ (c == 46) _ _ (λ e. subst (λ (k : ℕ). IsFound (k ∷ cs) (dotted_at (k ∷ cs) cs)) (sym (eqb-true c 46 e)) (dotted_found cs)) (λ _.
    either _ (begins_as_name (c ∷ cs)) _ _ (λ _. named_found c cs) (λ _. sign_found c cs)))))

pub token_found : (cs : List ℕ) → IsFound cs (token_at cs)
unfolding token_at
token_found [] = tt
token_found (c ∷ cs) = front_found c cs
