-- A token has characters.
use Rattle.std.proofs.Common.{◌≡◌, ℕ, zero, suc, ◌<◌, ◌≤◌, ◌+◌, ◌*◌, ◌-◌, ◌==◌, Bool, true, false, cond, ◌&&◌, ◌||◌, List, [], ◌∷◌, length, Option, Some, None, refl, subst, arith}
use Rattle.std.proofs.lemmas.Bool.{cond_both}
use Rattle.field_text.specs.Xml.{is_name_char, begins_as_name}
use Rattle.rosa_pieces.specs.Reading.{◌>>=◌, past, past_one}
use Rattle.rosa_pieces.proofs.Fronts.{rest_fits}
use Rattle.rosa_pieces.proofs.Steps.{start_is_char}
use Rattle.form_tokens.specs.declared.token.Token.{Token}
use Rattle.form_tokens.specs.declared.token.Token.TheVariants.{Quoted, Absolute, Relative, Name, Dot, Open, Close, OpenBracket, CloseBracket, Comma, Equal, NotEqual, Less, LessEqual, Greater, GreaterEqual, Plus, Minus, Star}
use Rattle.form_tokens.specs.Tokens.{is_digit, digits_at, is_inside, text_before, quoted_at, past_names, past_attribute, absolute_at, past_steps, dotted_at, name_at, sign_or, not_equal_at, sign_at, digits_token, token_at}

-- what is read leaves fewer characters than so many
abbrev Leaves : ℕ → Option (Token × List ℕ) → Type 0
Leaves n None = Unit {0}
Leaves n (Some x) = length x.1 < n

either : (n : ℕ) (b : Bool) (x y : Option (Token × List ℕ)) → (b ≡ true → Leaves n x) → Leaves n y → Leaves n (cond b x y)
either n true x y h k = h refl
either n false x y h k = k

pub past_fits : (p : ℕ → Bool) (cs : List ℕ) → length (past p cs) ≤ length cs
past_fits p cs = rest_fits p cs (past p cs) refl

names_fit : (cs : List ℕ) → length (past_names cs) ≤ length cs
names_fit [] = omega arith
names_fit (c ∷ cs) = cond_both (is_name_char c || ((c == 47) && begins_as_name cs)) (past_names cs) (c ∷ cs) (λ (x : List ℕ). length x ≤ length (c ∷ cs)) (λ _. omega (arith, names_fit cs)) (λ _. omega arith)

attribute_fits : (cs : List ℕ) → length (past_attribute cs) ≤ length cs
attribute_fits [] = omega arith
attribute_fits (c ∷ []) = omega arith
attribute_fits (c ∷ d ∷ cs) = cond_both ((c == 47) && (d == 64) && begins_as_name cs) (past is_name_char cs) (c ∷ d ∷ cs) (λ (x : List ℕ). length x ≤ length (c ∷ d ∷ cs)) (λ _. omega (arith, past_fits is_name_char cs)) (λ _. omega arith)

steps_fit : (cs : List ℕ) → length (past_steps cs) ≤ length cs
steps_fit [] = omega arith
steps_fit (a ∷ []) = omega arith
steps_fit (a ∷ b ∷ []) = omega arith
steps_fit (a ∷ b ∷ c ∷ cs) = cond_both ((a == 46) && (b == 46) && (c == 47)) (past_steps cs) (a ∷ b ∷ c ∷ cs) (λ (x : List ℕ). length x ≤ length (a ∷ b ∷ c ∷ cs)) (λ _. omega (arith, steps_fit cs)) (λ _. omega arith)

digits_fit : (n value : ℕ) (cs : List ℕ) → length (digits_at n value cs).1 ≤ length cs
digits_fit zero value cs = omega arith
digits_fit (suc n) value [] = omega arith
digits_fit (suc n) value (c ∷ cs) = cond_both (is_digit c) (digits_at n (value * 10 + (c - 48)) cs) (value, c ∷ cs) (λ (x : ℕ × List ℕ). length x.1 ≤ length (c ∷ cs)) (λ _. omega (arith, digits_fit n (value * 10 + (c - 48)) cs)) (λ _. omega arith)

-- names that begin have a first character
names_shrink : (cs : List ℕ) → begins_as_name cs ≡ true → length (past_names cs) < length cs
names_shrink [] h = absurd cc
names_shrink (c ∷ cs) h = rw (start_is_char c h) (omega (arith, names_fit cs))

name_shrinks : (cs : List ℕ) → begins_as_name cs ≡ true → length (past is_name_char cs) < length cs
name_shrinks [] h = absurd cc
name_shrinks (c ∷ cs) h = rw (start_is_char c h) (omega (arith, past_fits is_name_char cs))

digits_leave : (c : ℕ) (cs : List ℕ) → is_digit c ≡ true → Leaves (suc (length cs)) (Some (digits_token (digits_at 15 0 (c ∷ cs))))
digits_leave c cs h = rw h (omega (arith, digits_fit 14 (0 * 10 + (c - 48)) cs))

one_leaves : (n c : ℕ) (cs : List ℕ) (f : List ℕ → Token) → length cs < n → Leaves n (past_one c cs >>= λ rest. Some (f rest, rest))
one_leaves n c [] f h = tt
one_leaves n c (d ∷ cs) f h = elim (d == c) as (λ b. Leaves n (cond b (Some cs) None >>= λ rest. Some (f rest, rest))) [
  | true ↦ omega arith
  | false ↦ tt
]

quoted_leaves : (quote : ℕ) (cs : List ℕ) → Leaves (suc (length cs)) (quoted_at quote cs)
unfolding quoted_at
quoted_leaves quote cs = one_leaves (suc (length cs)) quote (past (is_inside quote) cs) (λ _. Quoted (text_before cs (past (is_inside quote) cs))) (omega (arith, past_fits (is_inside quote) cs))

absolute_leaves : (path cs : List ℕ) → Leaves (suc (length cs)) (absolute_at path cs)
unfolding absolute_at
absolute_leaves path cs = either (suc (length cs)) (begins_as_name cs) (Some (Absolute (text_before path (past_attribute (past_names cs))), past_attribute (past_names cs))) None (λ _. omega (arith, attribute_fits (past_names cs), names_fit cs)) tt

dotted_leaves : (c : ℕ) (cs : List ℕ) → Leaves (suc (length cs)) (dotted_at (c ∷ cs) cs)
unfolding dotted_at
dotted_leaves c cs = either (suc (length cs)) (begins_as_name (past_steps (c ∷ cs))) (Some (Relative (text_before (c ∷ cs) (past_names (past_steps (c ∷ cs)))), past_names (past_steps (c ∷ cs)))) (Some (Dot, cs))
    (λ begins. omega (arith, names_shrink (past_steps (c ∷ cs)) begins, steps_fit (c ∷ cs))) (omega arith)

name_leaves : (c : ℕ) (cs : List ℕ) → Leaves (suc (length cs)) (name_at (c ∷ cs))
unfolding name_at
name_leaves c cs = either (suc (length cs)) (begins_as_name (c ∷ cs)) (Some (Name (text_before (c ∷ cs) (past is_name_char (c ∷ cs))), past is_name_char (c ∷ cs))) None (λ begins. omega (arith, name_shrinks (c ∷ cs) begins)) tt

or_leaves : (alone with_equals : Token) (cs : List ℕ) → Leaves (suc (length cs)) (Some (sign_or alone with_equals cs))
or_leaves alone with_equals [] = omega arith
or_leaves alone with_equals (c ∷ cs) = cond_both (c == 61) (with_equals, cs) (alone, c ∷ cs) (λ (x : Token × List ℕ). length x.1 < suc (length (c ∷ cs))) (λ _. omega arith) (λ _. omega arith)

not_equal_leaves : (cs : List ℕ) → Leaves (suc (length cs)) (not_equal_at cs)
unfolding not_equal_at
not_equal_leaves cs = one_leaves (suc (length cs)) 61 cs (λ _. NotEqual) (omega arith)

one_sign : (token : Token) (cs : List ℕ) → Leaves (suc (length cs)) (Some (token, cs))
one_sign token cs = omega arith

sign_leaves : (c : ℕ) (cs : List ℕ) → Leaves (suc (length cs)) (sign_at c cs)
unfolding sign_at
sign_leaves c cs =
    either _ (c == 40) _ _ (λ _. one_sign Open cs) (
    either _ (c == 41) _ _ (λ _. one_sign Close cs) (
    either _ (c == 91) _ _ (λ _. one_sign OpenBracket cs) (
    either _ (c == 93) _ _ (λ _. one_sign CloseBracket cs) (
    either _ (c == 44) _ _ (λ _. one_sign Comma cs) (
    either _ (c == 61) _ _ (λ _. one_sign Equal cs) (
    either _ (c == 33) _ _ (λ _. not_equal_leaves cs) (
    either _ (c == 60) _ _ (λ _. or_leaves Less LessEqual cs) (
    either _ (c == 62) _ _ (λ _. or_leaves Greater GreaterEqual cs) (
    either _ (c == 43) _ _ (λ _. one_sign Plus cs) (
    either _ (c == 45) _ _ (λ _. one_sign Minus cs) (
    either _ (c == 42) _ _ (λ _. one_sign Star cs) tt)))))))))))

front_leaves : (c : ℕ) (cs : List ℕ) → Leaves (suc (length cs)) (token_at (c ∷ cs))
unfolding token_at
front_leaves c cs =
    either _ (is_digit c) _ _ (λ digit. digits_leave c cs digit) (
    either _ ((c == 34) || (c == 39)) _ _ (λ _. quoted_leaves c cs) (
    either _ (c == 47) _ _ (λ _. absolute_leaves (c ∷ cs) cs) (
    either _ (c == 46) _ _ (λ _. dotted_leaves c cs) (
    either _ (begins_as_name (c ∷ cs)) _ _ (λ _. name_leaves c cs) (sign_leaves c cs)))))

pub token_is_long : (cs rest : List ℕ) (token : Token) → token_at cs ≡ Some (token, rest) → length rest < length cs
unfolding token_at
token_is_long [] rest token e = absurd cc
token_is_long (c ∷ cs) rest token e = let h = subst (Leaves (suc (length cs))) e (front_leaves c cs) in omega (arith, h)
