-- What spells each token, and which token stands at the front of characters.
use Rattle.std.specs.Prelude.{ℕ, zero, suc, pos, ◌≡◌, ◌+◌, ◌-◌, ◌*◌, ◌<◌, ◌≤◌, ◌==◌, Bool, true, ◌||◌, List, [], ◌∷◌}
use Rattle.std.specs.Prelude.{◌++◌, length, fold, codes, encode_utf8_all}
use Rattle.std.specs.List.{list_all}
use Rattle.field_text.specs.Xml.{is_local_name}
use Rattle.form_tokens.specs.declared.token.Token.{Token}
use Rattle.form_tokens.specs.declared.token.Token.TheVariants.{Digits, Quoted, Absolute, Relative, Name, Dot, Open}
use Rattle.form_tokens.specs.declared.token.Token.TheVariants.{Close, OpenBracket, CloseBracket, Comma, Equal}
use Rattle.form_tokens.specs.declared.token.Token.TheVariants.{NotEqual, Less, LessEqual, Greater, GreaterEqual, Plus}
use Rattle.form_tokens.specs.declared.token.Token.TheVariants.{Minus, Star}
use Rattle.form_tokens.specs.Tokens.{is_digit, is_inside}

-- the number that decimal digits are
abbrev pub value_of : List ℕ → ℕ
value_of digits = fold (λ value c. value * 10 + (c - 48)) 0 digits

abbrev pub is_quote : ℕ → Bool
is_quote c = (c == 34) || (c == 39)

abbrev pub are_names : List (List ℕ) → Bool
are_names names = list_all is_local_name names

-- names, with a slash before each
abbrev pub slashed : List (List ℕ) → List ℕ
slashed [] = []
slashed (name ∷ names) = 47 ∷ name ++ slashed names

-- so many steps `../`
abbrev pub steps : ℕ → List ℕ
steps zero = []
steps (suc n) = 46 ∷ 46 ∷ 47 ∷ steps n

pub data IsToken : Token → List ℕ → Type 0 where
  digits : (cs : List ℕ) → 0 < length cs → length cs ≤ 15 → list_all is_digit cs ≡ true
      → IsToken (Digits (pos (value_of cs))) cs
  quoted : (quote : ℕ) (inside : List ℕ) → is_quote quote ≡ true → list_all (is_inside quote) inside ≡ true
      → IsToken (Quoted (encode_utf8_all inside)) (quote ∷ inside ++ quote ∷ [])
  absolute : (name : List ℕ) (names : List (List ℕ)) → are_names (name ∷ names) ≡ true
      → IsToken (Absolute (encode_utf8_all (slashed (name ∷ names)))) (slashed (name ∷ names))
  -- the last name is an attribute's
  absolute_attribute : (name : List ℕ) (names : List (List ℕ)) (last : List ℕ) → are_names (name ∷ names) ≡ true
      → is_local_name last ≡ true
      → IsToken (Absolute (encode_utf8_all (slashed (name ∷ names) ++ 47 ∷ 64 ∷ last)))
      (slashed (name ∷ names) ++ 47 ∷ 64 ∷ last)
  relative : (n : ℕ) (name : List ℕ) (names : List (List ℕ)) → are_names (name ∷ names) ≡ true
      → IsToken (Relative (encode_utf8_all (steps (suc n) ++ (name ++ slashed names))))
      (steps (suc n) ++ (name ++ slashed names))
  named : (cs : List ℕ) → is_local_name cs ≡ true → IsToken (Name (encode_utf8_all cs)) cs
  dot : IsToken Dot (codes ".")
  opening : IsToken Open (codes "(")
  closing : IsToken Close (codes ")")
  opening_bracket : IsToken OpenBracket (codes "[")
  closing_bracket : IsToken CloseBracket (codes "]")
  comma : IsToken Comma (codes ",")
  equal : IsToken Equal (codes "=")
  not_equal : IsToken NotEqual (codes "!=")
  less : IsToken Less (codes "<")
  less_equal : IsToken LessEqual (codes "<=")
  greater : IsToken Greater (codes ">")
  greater_equal : IsToken GreaterEqual (codes ">=")
  plus : IsToken Plus (codes "+")
  minus : IsToken Minus (codes "-")
  star : IsToken Star (codes "*")

-- the characters are what spells the token, and then the rest
abbrev pub StandsBefore : Token → List ℕ → List ℕ → Type 0
StandsBefore token cs rest = (spelled : List ℕ) × IsToken token spelled × (cs ≡ spelled ++ rest)

-- any token at the front leaves more than the rest, or is this one
abbrev pub IsLongest : Token → List ℕ → List ℕ → Type 0
IsLongest token cs rest = (other : Token) (left : List ℕ) → StandsBefore other cs left → (length rest ≤ length left)
    × (length left ≡ length rest → other ≡ token)

abbrev pub HasNoToken : List ℕ → Type 0
HasNoToken cs = (token : Token) (rest : List ℕ) → ¬ (StandsBefore token cs rest)
