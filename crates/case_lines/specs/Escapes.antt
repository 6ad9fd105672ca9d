-- What a backslash begins in a part of a case.
use Rattle.std.specs.Prelude.{ℕ, ◌==◌, ◌-◌, ◌+◌, ◌*◌, ◌^◌, ◌&&◌, nat_le, min, if◌then◌else◌}
use Rattle.std.specs.Prelude.{List, [], ◌∷◌, ◌++◌, length, fold, suc, zero, take, drop}
use Rattle.std.specs.List.{flat_map}
use Rattle.std.specs.Fmt.{decimal}

-- what a letter behind a backslash stands for: a line feed, a carriage return, a tab, a backslash, or nothing
abbrev pub short_escape : ℕ → List ℕ
short_escape letter =
    if letter == 110 then 10 ∷ [] else
    if letter == 114 then 13 ∷ [] else
    if letter == 116 then 9 ∷ [] else
    if letter == 92 then 92 ∷ [] else []

-- the value of a digit, whose letters are capitals, and 0 for another byte
abbrev pub digit_value : ℕ → ℕ
digit_value digit =
    if nat_le 48 digit && nat_le digit 57 then digit - 48 else
    if nat_le 65 digit && nat_le digit 70 then digit - 55 else 0

-- the byte of two digits
abbrev pub byte_of_digits : ℕ → ℕ → ℕ
byte_of_digits high low = digit_value high * 16 + digit_value low

-- the most that counts
abbrev pub most : ℕ
most = 2 ^ 64 - 1

-- the number of some digits
abbrev pub number_of : List ℕ → ℕ
number_of digits = fold (λ value digit. min (min (value * 10) most + digit_value digit) most) 0 digits

-- a text with a number in place of each percent sign
abbrev pub numbered : ℕ → List ℕ → List ℕ
numbered number text = flat_map (λ byte. if byte == 37 then decimal number else byte ∷ []) text

-- a text so many times, each with its number
abbrev pub repeated : ℕ → List ℕ → List ℕ
repeated zero text = []
repeated (suc times) text = repeated times text ++ numbered times text

-- how many bytes stand before the first such byte
abbrev pub place_of : ℕ → List ℕ → ℕ
place_of byte [] = 0
place_of byte (b ∷ bytes) = if b == byte then 0 else 1 + place_of byte bytes

-- what stands before the first such byte
abbrev pub before : ℕ → List ℕ → List ℕ
before byte bytes = take (place_of byte bytes) bytes

-- all but the first
abbrev pub others : List ℕ → List ℕ
others [] = []
others (_ ∷ bytes) = bytes

-- what stands behind the first such byte
abbrev pub behind : ℕ → List ℕ → List ℕ
behind byte bytes = others (drop (place_of byte bytes) bytes)

-- what the front of some bytes stands for, and what follows it
pub record Front : Type 0 where
  pub stands_for : List ℕ
  pub rest : List ℕ

-- two digits of a byte; of fewer nothing is made
abbrev pub hexadecimal : List ℕ → Front
hexadecimal (high ∷ low ∷ rest) = record { stands_for = byte_of_digits high low ∷ []; rest = rest }
hexadecimal rest = record { stands_for = []; rest = rest }

-- a number, a colon, and what is repeated so often up to a brace
abbrev pub repetition : List ℕ → Front
repetition inside = record {
  stands_for = repeated (number_of (before 58 inside)) (before 125 (behind 58 inside));
  rest = behind 125 (behind 58 inside);
}

-- behind a backslash
abbrev pub escape : List ℕ → Front
escape [] = record { stands_for = []; rest = [] }
escape (letter ∷ rest) =
    if letter == 120 then hexadecimal rest else
    if letter == 123 then repetition rest else record { stands_for = short_escape letter; rest = rest }

abbrev pub front : List ℕ → Front
front [] = record { stands_for = []; rest = [] }
front (byte ∷ rest) = if byte == 92 then escape rest else record { stands_for = byte ∷ []; rest = rest }

-- what so many fronts stand for, and what follows them
abbrev pub fronts : ℕ → List ℕ → Front
fronts zero bytes = record { stands_for = []; rest = bytes }
fronts (suc count) bytes = record {
  stands_for = (fronts count bytes).stands_for ++ (front (fronts count bytes).rest).stands_for;
  rest = (front (fronts count bytes).rest).rest;
}

-- the bytes that a part of a case stands for; there are no more fronts than bytes
abbrev pub bytes_of : List ℕ → List ℕ
bytes_of part = (fronts (length part) part).stands_for
