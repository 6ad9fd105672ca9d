-- What follows a token is an end of the characters.
use Rattle.std.proofs.Common.{◌≡◌, ℕ, zero, suc, ◌+◌, ◌*◌, ◌-◌, ◌==◌, ◌≤◌, Bool, true, false, cond, ◌&&◌, ◌||◌, List, [], ◌∷◌, ◌++◌, length, Option, Some, None, refl, sym, ap, subst, ◌∙◌, arith, append_assoc, encode_utf8_all}
use Rattle.std.specs.Str.{chars, IsUtf8}
use Rattle.std.proofs.lemmas.Bool.{cond_both}
use Rattle.std.proofs.lemmas.List.{length-append}
use Rattle.std.proofs.lemmas.Str.{encodes-append, encodes-chars}
use Rattle.field_text.specs.Xml.{is_xml_space, is_name_char, begins_as_name}
use Rattle.rosa_pieces.specs.Reading.{◌>>=◌, past, past_one}
use Rattle.form_tokens.specs.declared.token.Token.{Token}
use Rattle.form_tokens.specs.declared.token.Token.TheVariants.{Quoted, Absolute, Relative, Name, Dot, Open, Close, OpenBracket, CloseBracket, Comma, Equal, NotEqual, Less, LessEqual, Greater, GreaterEqual, Plus, Minus, Star}
use Rattle.form_tokens.specs.Tokens.{is_digit, digits_at, is_inside, text_before, quoted_at, past_names, past_attribute, absolute_at, past_steps, dotted_at, name_at, sign_or, not_equal_at, sign_at, token_at}
use Rattle.form_expr.specs.Laws.{AreFirst}

pub record IsEnd (rest cs : List ℕ) : Type 0 where
  pub front : List ℕ
  pub parts : cs ≡ front ++ rest

all_end : (cs : List ℕ) → IsEnd cs cs
all_end cs = record { front = []; parts = refl }

later_end : (c : ℕ) (rest cs : List ℕ) → IsEnd rest cs → IsEnd rest (c ∷ cs)
later_end c rest cs e = record { front = c ∷ e.front; parts = ap (λ (x : List ℕ). c ∷ x) e.parts }

end_of_end : (a b c : List ℕ) → IsEnd a b → IsEnd b c → IsEnd a c
end_of_end a b c e f = record { front = f.front ++ e.front; parts = f.parts ∙ ap (λ (x : List ℕ). f.front ++ x) e.parts ∙ sym (append_assoc f.front e.front a) }

past_end : (p : ℕ → Bool) (cs : List ℕ) → IsEnd (past p cs) cs
past_end p [] = all_end []
past_end p (c ∷ cs) = cond_both (p c) (past p cs) (c ∷ cs) (λ (x : List ℕ). IsEnd x (c ∷ cs)) (λ _. later_end c (past p cs) cs (past_end p cs)) (λ _. all_end (c ∷ cs))

names_end : (cs : List ℕ) → IsEnd (past_names cs) cs
names_end [] = all_end []
names_end (c ∷ cs) = cond_both (is_name_char c || ((c == 47) && begins_as_name cs)) (past_names cs) (c ∷ cs) (λ (x : List ℕ). IsEnd x (c ∷ cs)) (λ _. later_end c (past_names cs) cs (names_end cs)) (λ _. all_end (c ∷ cs))

attribute_end : (cs : List ℕ) → IsEnd (past_attribute cs) cs
attribute_end [] = all_end []
attribute_end (c ∷ []) = all_end (c ∷ [])
attribute_end (c ∷ d ∷ cs) = cond_both ((c == 47) && (d == 64) && begins_as_name cs) (past is_name_char cs) (c ∷ d ∷ cs) (λ (x : List ℕ). IsEnd x (c ∷ d ∷ cs))
    (λ _. later_end c (past is_name_char cs) (d ∷ cs) (later_end d (past is_name_char cs) cs (past_end is_name_char cs))) (λ _. all_end (c ∷ d ∷ cs))

steps_end : (cs : List ℕ) → IsEnd (past_steps cs) cs
steps_end [] = all_end []
steps_end (a ∷ []) = all_end (a ∷ [])
steps_end (a ∷ b ∷ []) = all_end (a ∷ b ∷ [])
steps_end (a ∷ b ∷ c ∷ cs) = cond_both ((a == 46) && (b == 46) && (c == 47)) (past_steps cs) (a ∷ b ∷ c ∷ cs) (λ (x : List ℕ). IsEnd x (a ∷ b ∷ c ∷ cs))
    (λ _. later_end a (past_steps cs) (b ∷ c ∷ cs) (later_end b (past_steps cs) (c ∷ cs) (later_end c (past_steps cs) cs (steps_end cs)))) (λ _. all_end (a ∷ b ∷ c ∷ cs))

digits_end : (n value : ℕ) (cs : List ℕ) → IsEnd (digits_at n value cs).1 cs
digits_end zero value cs = all_end cs
digits_end (suc n) value [] = all_end []
digits_end (suc n) value (c ∷ cs) = cond_both (is_digit c) (digits_at n (value * 10 + (c - 48)) cs) (value, c ∷ cs) (λ (x : ℕ × List ℕ). IsEnd x.1 (c ∷ cs))
    (λ _. later_end c (digits_at n (value * 10 + (c - 48)) cs).1 cs (digits_end n (value * 10 + (c - 48)) cs)) (λ _. all_end (c ∷ cs))

-- what is read leaves an end
abbrev Ends : List ℕ → Option (Token × List ℕ) → Type 0
Ends cs None = Unit {0}
Ends cs (Some x) = IsEnd x.1 cs

either : (cs : List ℕ) (b : Bool) (x y : Option (Token × List ℕ)) → Ends cs x → Ends cs y → Ends cs (cond b x y)
either cs true x y h k = h
either cs false x y h k = k

one_end : (c : ℕ) (cs all : List ℕ) (f : List ℕ → Token) → IsEnd cs all → Ends all (past_one c cs >>= λ rest. Some (f rest, rest))
one_end c [] all f h = tt
one_end c (d ∷ cs) all f h = elim (d == c) as (λ b. Ends all (cond b (Some cs) None >>= λ rest. Some (f rest, rest))) [
  | true ↦ end_of_end cs (d ∷ cs) all (later_end d cs cs (all_end cs)) h
  | false ↦ tt
]

quoted_end : (quote c : ℕ) (cs : List ℕ) → Ends (c ∷ cs) (quoted_at quote cs)
unfolding quoted_at
quoted_end quote c cs = one_end quote (past (is_inside quote) cs) (c ∷ cs) (λ _. Quoted (text_before cs (past (is_inside quote) cs))) (later_end c (past (is_inside quote) cs) cs (past_end (is_inside quote) cs))

absolute_end : (path : List ℕ) (c : ℕ) (cs : List ℕ) → Ends (c ∷ cs) (absolute_at path cs)
unfolding absolute_at
absolute_end path c cs = either (c ∷ cs) (begins_as_name cs) (Some (Absolute (text_before path (past_attribute (past_names cs))), past_attribute (past_names cs))) None
    (later_end c (past_attribute (past_names cs)) cs (end_of_end (past_attribute (past_names cs)) (past_names cs) cs (attribute_end (past_names cs)) (names_end cs))) tt

dotted_end : (c : ℕ) (cs : List ℕ) → Ends (c ∷ cs) (dotted_at (c ∷ cs) cs)
unfolding dotted_at
dotted_end c cs = either (c ∷ cs) (begins_as_name (past_steps (c ∷ cs))) (Some (Relative (text_before (c ∷ cs) (past_names (past_steps (c ∷ cs)))), past_names (past_steps (c ∷ cs)))) (Some (Dot, cs))
    (end_of_end (past_names (past_steps (c ∷ cs))) (past_steps (c ∷ cs)) (c ∷ cs) (names_end (past_steps (c ∷ cs))) (steps_end (c ∷ cs))) (later_end c cs cs (all_end cs))

name_end : (cs : List ℕ) → Ends cs (name_at cs)
unfolding name_at
name_end cs = either cs (begins_as_name cs) (Some (Name (text_before cs (past is_name_char cs)), past is_name_char cs)) None (past_end is_name_char cs) tt

or_end : (alone with_equals : Token) (c : ℕ) (cs : List ℕ) → Ends (c ∷ cs) (Some (sign_or alone with_equals cs))
or_end alone with_equals c [] = later_end c [] [] (all_end [])
or_end alone with_equals c (d ∷ cs) = cond_both (d == 61) (with_equals, cs) (alone, d ∷ cs) (λ (x : Token × List ℕ). IsEnd x.1 (c ∷ d ∷ cs)) (λ _. later_end c cs (d ∷ cs) (later_end d cs cs (all_end cs))) (λ _. later_end c (d ∷ cs) (d ∷ cs) (all_end (d ∷ cs)))

not_equal_end : (c : ℕ) (cs : List ℕ) → Ends (c ∷ cs) (not_equal_at cs)
unfolding not_equal_at
not_equal_end c cs = one_end 61 cs (c ∷ cs) (λ _. NotEqual) (later_end c cs cs (all_end cs))

one_sign : (token : Token) (c : ℕ) (cs : List ℕ) → Ends (c ∷ cs) (Some (token, cs))
one_sign token c cs = later_end c cs cs (all_end cs)

sign_end : (c : ℕ) (cs : List ℕ) → Ends (c ∷ cs) (sign_at c cs)
unfolding sign_at
sign_end c cs =
    either _ (c == 40) _ _ (one_sign Open c cs) (
    either _ (c == 41) _ _ (one_sign Close c cs) (
    either _ (c == 91) _ _ (one_sign OpenBracket c cs) (
    either _ (c == 93) _ _ (one_sign CloseBracket c cs) (
    either _ (c == 44) _ _ (one_sign Comma c cs) (
    either _ (c == 61) _ _ (one_sign Equal c cs) (
    either _ (c == 33) _ _ (not_equal_end c cs) (
    either _ (c == 60) _ _ (or_end Less LessEqual c cs) (
    either _ (c == 62) _ _ (or_end Greater GreaterEqual c cs) (
    either _ (c == 43) _ _ (one_sign Plus c cs) (
    either _ (c == 45) _ _ (one_sign Minus c cs) (
    either _ (c == 42) _ _ (one_sign Star c cs) tt)))))))))))

token_end : (cs : List ℕ) → Ends cs (token_at cs)
unfolding token_at
token_end [] = tt
token_end (c ∷ cs) =
    either _ (is_digit c) _ _ (digits_end 15 0 (c ∷ cs)) (
    either _ ((c == 34) || (c == 39)) _ _ (quoted_end c c cs) (
    either _ (c == 47) _ _ (absolute_end (c ∷ cs) c cs) (
    either _ (c == 46) _ _ (dotted_end c cs) (
    either _ (begins_as_name (c ∷ cs)) _ _ (name_end (c ∷ cs)) (sign_end c cs)))))

after_token : (cs rest : List ℕ) (token : Token) → token_at cs ≡ Some (token, rest) → IsEnd rest cs
after_token cs rest token e = subst (λ (x : Option (Token × List ℕ)). Ends cs x) e (token_end cs)

first_end : (tokens : List Token) (cs rest : List ℕ) → AreFirst tokens cs rest → IsEnd rest cs
first_end [] cs rest e = subst (λ (x : List ℕ). IsEnd x cs) e (past_end is_xml_space cs)
first_end (token ∷ tokens) cs rest (after, is, others) =
    end_of_end rest after cs (first_end tokens after rest others) (end_of_end after (past is_xml_space cs) cs (after_token (past is_xml_space cs) after token is) (past_end is_xml_space cs))

-- what follows the tokens of a text is no longer than it
pub rest_fits : (tokens : List Token) (text rest : List ℕ) → IsUtf8 text → AreFirst tokens (chars text) rest → length (encode_utf8_all rest) ≤ length text
rest_fits tokens text rest utf8 first =
    let e = first_end tokens (chars text) rest first in
    let whole = ap encode_utf8_all e.parts ∙ encodes-append e.front rest in
    omega (arith, ap length whole, length-append (encode_utf8_all e.front) (encode_utf8_all rest), ap length (encodes-chars text utf8))
