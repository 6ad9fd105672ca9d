-- The tokens of expressions: which one stands at the front of characters, and what follows it. Each is as long as it
-- can be.
use Rattle.std.specs.Prelude.{ℕ, zero, suc, pos, ◌+◌, ◌-◌, ◌*◌, ◌==◌, not, Bool, ◌&&◌, ◌||◌, if◌then◌else◌, List, []}
use Rattle.std.specs.Prelude.{◌∷◌, length, take, Option, Some, None, encode_utf8_all}
use Rattle.field_text.specs.Xml.{is_between, is_name_char, begins_as_name}
use Rattle.rosa_pieces.specs.Reading.{◌>>=◌, past, past_one}
use Rattle.form_tokens.specs.declared.token.Token.{Token}
use Rattle.form_tokens.specs.declared.token.Token.TheVariants.{Digits, Quoted, Absolute, Relative, Name, Dot, Open}
use Rattle.form_tokens.specs.declared.token.Token.TheVariants.{Close, OpenBracket, CloseBracket, Comma, Equal}
use Rattle.form_tokens.specs.declared.token.Token.TheVariants.{NotEqual, Less, LessEqual, Greater, GreaterEqual, Plus}
use Rattle.form_tokens.specs.declared.token.Token.TheVariants.{Minus, Star}

abbrev pub is_digit : ℕ → Bool
is_digit c = is_between 48 57 c

-- the value of the digits at the front, at most n of them, behind those with this value; and what follows them
abbrev pub digits_at : ℕ → ℕ → List ℕ → ℕ × List ℕ
digits_at zero value cs = (value, cs)
digits_at (suc n) value [] = (value, [])
digits_at (suc n) value (c ∷ cs) = if is_digit c then digits_at n (value * 10 + (c - 48)) cs else (value, c ∷ cs)

abbrev pub is_inside : ℕ → ℕ → Bool
is_inside quote c = not (c == quote)

-- the text of the characters before the rest
abbrev pub text_before : List ℕ → List ℕ → List ℕ
text_before cs rest = encode_utf8_all (take (length cs - length rest) cs)

-- behind the first quote: what stands before the next one
unfoldable pub quoted_at : ℕ → List ℕ → Option (Token × List ℕ)
quoted_at quote cs = do
  rest ← past_one quote (past (is_inside quote) cs)
  Some (Quoted (text_before cs (past (is_inside quote) cs)), rest)

-- what follows a name and the names behind it, with a slash before each
abbrev pub past_names : List ℕ → List ℕ
past_names [] = []
past_names (c ∷ cs) = if is_name_char c || ((c == 47) && begins_as_name cs) then past_names cs else c ∷ cs

-- what follows `/@` and a name, where they stand there
abbrev pub past_attribute : List ℕ → List ℕ
past_attribute [] = []
past_attribute (c ∷ []) = c ∷ []
past_attribute (c ∷ d ∷ cs) = if (c == 47) && (d == 64) && begins_as_name cs then past is_name_char cs else c ∷ d ∷ cs

-- behind the first slash, from which the path is
unfoldable pub absolute_at : List ℕ → List ℕ → Option (Token × List ℕ)
absolute_at path cs = if begins_as_name cs then Some
    (Absolute (text_before path (past_attribute (past_names cs))), past_attribute (past_names cs)) else None

-- what follows the steps `../` at the front
abbrev pub past_steps : List ℕ → List ℕ
past_steps [] = []
past_steps (a ∷ []) = a ∷ []
past_steps (a ∷ b ∷ []) = a ∷ b ∷ []
past_steps (a ∷ b ∷ c ∷ cs) = if (a == 46) && (b == 46) && (c == 47) then past_steps cs else a ∷ b ∷ c ∷ cs

-- behind the first period, from which the path is
unfoldable pub dotted_at : List ℕ → List ℕ → Option (Token × List ℕ)
dotted_at path cs = if begins_as_name (past_steps path)
    then Some (Relative (text_before path (past_names (past_steps path))), past_names (past_steps path))
    else Some (Dot, cs)

unfoldable pub name_at : List ℕ → Option (Token × List ℕ)
name_at cs =
    if begins_as_name cs then Some (Name (text_before cs (past is_name_char cs)), past is_name_char cs) else None

-- the sign, or with an equals sign behind it the other one
abbrev pub sign_or : Token → Token → List ℕ → Token × List ℕ
sign_or alone with_equals [] = (alone, [])
sign_or alone with_equals (c ∷ cs) = if c == 61 then (with_equals, cs) else (alone, c ∷ cs)

unfoldable pub not_equal_at : List ℕ → Option (Token × List ℕ)
not_equal_at cs = do
  rest ← past_one 61 cs
  Some (NotEqual, rest)

-- a sign of one character
unfoldable pub sign_at : ℕ → List ℕ → Option (Token × List ℕ)
sign_at c cs =
    if c == 40 then Some (Open, cs) else
    if c == 41 then Some (Close, cs) else
    if c == 91 then Some (OpenBracket, cs) else
    if c == 93 then Some (CloseBracket, cs) else
    if c == 44 then Some (Comma, cs) else
    if c == 61 then Some (Equal, cs) else
    if c == 33 then not_equal_at cs else
    if c == 60 then Some (sign_or Less LessEqual cs) else
    if c == 62 then Some (sign_or Greater GreaterEqual cs) else
    if c == 43 then Some (Plus, cs) else
    if c == 45 then Some (Minus, cs) else
    if c == 42 then Some (Star, cs) else None

abbrev pub digits_token : ℕ × List ℕ → Token × List ℕ
digits_token x = (Digits (pos x.0), x.1)

-- the token at the front, by its first character
unfoldable pub token_at : List ℕ → Option (Token × List ℕ)
token_at [] = None
token_at (c ∷ cs) =
    if is_digit c then Some (digits_token (digits_at 15 0 (c ∷ cs))) else
    if (c == 34) || (c == 39) then quoted_at c cs else
    if c == 47 then absolute_at (c ∷ cs) cs else
    if c == 46 then dotted_at (c ∷ cs) cs else
    if begins_as_name (c ∷ cs) then name_at (c ∷ cs) else sign_at c cs
