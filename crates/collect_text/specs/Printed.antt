-- How a text is printed in a line.
use Rattle.std.specs.Prelude.{ℕ, ◌/◌, ◌%◌, List, [], ◌∷◌, ◌++◌, length, Bool, not, ◌&&◌, ◌||◌, if◌then◌else◌, ◌==◌}
use Rattle.std.specs.Prelude.{nat_lt, nat_le, IsTrue, codes}
use Rattle.std.specs.List.{flat_map, list_all}
use Rattle.std.specs.Char.{digit_char}
use Rattle.std.specs.Str.{IsUtf8}
use Rattle.collect_text.specs.Words.{is_bare}

abbrev pub is_bare_word : List ℕ → Bool
is_bare_word text = not (length text == 0) && list_all is_bare text

-- a byte between quotes: the backslash, the quote, the line feed, the carriage return and the tab by a letter, any
-- other byte below 32 as `\x` and two hexadecimal digits in lower case
abbrev pub escape : ℕ → List ℕ
escape b =
    if b == 92 then codes "\\\\"
    else (if b == 34 then codes "\\\""
    else (if b == 10 then codes "\\n"
    else (if b == 13 then codes "\\r"
    else (if b == 9 then codes "\\t"
    else (if nat_lt b 32 then codes "\\x" ++ digit_char (b / 16) ∷ digit_char (b % 16) ∷ []
    else b ∷ [])))))

-- a text bare where it is a bare word, else between quotes
abbrev pub printed_text : List ℕ → List ℕ
printed_text text = if is_bare_word text then text else 34 ∷ flat_map escape text ++ 34 ∷ []

-- texts with a space between each two
abbrev pub printed_words : List (List ℕ) → List ℕ
printed_words [] = []
printed_words (t ∷ []) = printed_text t
printed_words (t ∷ u ∷ ts) = printed_text t ++ 32 ∷ printed_words (u ∷ ts)

-- a byte of 32 or more, the line feed, the carriage return or the tab
abbrev pub is_legible : ℕ → Bool
is_legible b = nat_le 32 b || b == 10 || b == 13 || b == 9

abbrev pub IsLegible : List ℕ → Type 0
IsLegible text = IsUtf8 text × IsTrue (list_all is_legible text)
