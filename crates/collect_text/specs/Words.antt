-- The words that a line spells.
use Rattle.std.specs.Prelude.{ℕ, List, [], ◌∷◌, Bool, true, false, not, ◌&&◌, ◌||◌, if◌then◌else◌, ◌==◌, nat_lt}
use Rattle.std.specs.Prelude.{nat_le, Option, Some, None, option_map, option_and_then}
use Rattle.std.specs.Str.{is_utf8}
use Rattle.collect_text.specs.Lines.{in_front}

-- a byte of a bare word: printable ASCII but the space, the quote (34) and the backslash (92)
abbrev pub is_bare : ℕ → Bool
is_bare b = nat_le 33 b && nat_le b 126 && not (b == 34) && not (b == 92)

-- what a backslash and the byte b stand for: a backslash, a quote, a line feed, a carriage return or a tab
abbrev pub unescaped : ℕ → Option ℕ
unescaped b =
    if b == 92 then Some 92
    else (if b == 34 then Some 34
    else (if b == 110 then Some 10
    else (if b == 114 then Some 13
    else (if b == 116 then Some 9
    else None))))

-- where in a line its next byte stands
pub data Place : Type 0 where
  -- in front of a word, or behind the last
  between : Place
  -- in a bare word
  bare : Place
  -- between the quotes of a word
  quoted : Place
  -- behind a backslash there
  escaped : Place
  -- behind the closing quote
  closed : Place

-- a byte of the first word, and the end of a word, in front of what follows
abbrev pub byte_then : ℕ → Option (List (List ℕ)) → Option (List (List ℕ))
byte_then b rest = option_map (in_front b) rest

abbrev pub end_then : Option (List (List ℕ)) → Option (List (List ℕ))
end_then rest = option_map (λ ws. [] ∷ ws) rest

-- the words that the bytes from a place on spell, the first one's rest before them where the place is in a word
abbrev pub spelled : Place → List ℕ → Option (List (List ℕ))
spelled between [] = Some []
spelled between (b ∷ bs) =
    if b == 32 then spelled between bs
    else (if b == 34 then spelled quoted bs
    else (if is_bare b then byte_then b (spelled bare bs)
    else None))
spelled bare [] = Some ([] ∷ [])
spelled bare (b ∷ bs) =
    if b == 32 then end_then (spelled between bs)
    else (if is_bare b then byte_then b (spelled bare bs)
    else None)
spelled quoted [] = None
spelled quoted (b ∷ bs) =
    if b == 34 then spelled closed bs
    else (if b == 92 then spelled escaped bs
    else (if nat_lt b 32 then None
    else byte_then b (spelled quoted bs)))
spelled escaped [] = None
spelled escaped (b ∷ bs) = option_and_then (λ meant. byte_then meant (spelled quoted bs)) (unescaped b)
spelled closed [] = Some ([] ∷ [])
spelled closed (b ∷ bs) = if b == 32 then end_then (spelled between bs) else None

-- a list of words in which each is UTF-8
abbrev pub all_utf8 : List (List ℕ) → Bool
all_utf8 [] = true
all_utf8 (w ∷ ws) = is_utf8 w && all_utf8 ws

abbrev pub texts_only : List (List ℕ) → Option (List (List ℕ))
texts_only ws = if all_utf8 ws then Some ws else None

-- The words of a line, none where it spells no words. They are cut by spaces (32). A bare word stands for itself; a
-- quoted one is UTF-8 without control bytes, with escapes, and a space or the end of the line stands behind it.
abbrev pub words_of : List ℕ → Option (List (List ℕ))
words_of line = option_and_then texts_only (spelled between line)

abbrev pub is_comment : List ℕ → Bool
is_comment [] = false
is_comment (b ∷ bs) = b == 35

abbrev pub no_words : Option (List (List ℕ)) → Bool
no_words None = false
no_words (Some []) = true
no_words (Some (w ∷ ws)) = false

-- a line that says nothing: it has no words, or its first byte is `#` (35)
abbrev pub is_skipped : List ℕ → Bool
is_skipped line = is_comment line || no_words (words_of line)
