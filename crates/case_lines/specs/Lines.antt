-- The lines of a file of cases, and the lines that are printed.
use Rattle.std.specs.Prelude.{ℕ, ◌≡◌, ◌≢◌, ◌==◌, ◌||◌, Bool, nat_eq, nat_lt, if◌then◌else◌}
use Rattle.std.specs.Prelude.{List, [], ◌++◌, length, take, codes, encode_utf8, filter, not}
use Rattle.std.specs.List.{starts_with, flat_map}
use Rattle.std.specs.Str.{chars}
use Rattle.std.specs.Str.Lines.{lines}
use Rattle.std.specs.Fmt.{decimal}

-- a line without a case is empty or begins with two slashes and a space
abbrev pub is_comment : List ℕ → Bool
is_comment line = (length line == 0) || starts_with nat_eq line (codes "// ")

-- the lines of a file that hold cases
abbrev pub cases : List ℕ → List (List ℕ)
cases text = filter (λ line. not (is_comment line)) (lines text)

-- what stands before a bar between spaces, and behind it; all and nothing where there is none
pub data IsCut (line front behind : List ℕ) : Type 0 where
  parts : line ≡ front ++ (codes " | " ++ behind) → IsCut line front behind
  whole : ((xs ys : List ℕ) → line ≢ xs ++ (codes " | " ++ ys))
      → front ≡ line → behind ≡ [] → IsCut line front behind

-- a character as it is printed: a line feed, a carriage return, a tab and a backslash as their escapes
abbrev pub printed_char : ℕ → List ℕ
printed_char c =
    if c == 10 then codes "\\n" else
    if c == 13 then codes "\\r" else
    if c == 9 then codes "\\t" else
    if c == 92 then codes "\\\\" else encode_utf8 c

-- how many characters of a long text are printed
abbrev pub shown : ℕ
shown = 200

-- how many bytes a long text has
abbrev pub length_told : List ℕ → List ℕ
length_told text = if nat_lt shown (length text) then codes ".. " ++ decimal (length text) ++ codes " bytes" else []

-- the front of a text, and its length where it is long
abbrev pub printed : List ℕ → List ℕ
printed text = flat_map printed_char (take shown (chars text)) ++ length_told text
