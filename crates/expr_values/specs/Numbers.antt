-- Whole numbers in texts: white space, perhaps a minus sign, and digits.
use Rattle.std.specs.Prelude.{ℕ, ℤ, pos, neg_ℤ, ◌+◌, ◌-◌, ◌*◌, ◌==◌, nat_le, Bool, false, ◌&&◌, if◌then◌else◌, List}
use Rattle.std.specs.Prelude.{[], ◌∷◌, length, reverse, fold, Option, Some, None}
use Rattle.std.specs.List.{list_all}
use Rattle.field_text.specs.Xml.{is_between, is_xml_space}

-- without white space at the front, and at both ends
abbrev pub trimmed_front : List ℕ → List ℕ
trimmed_front [] = []
trimmed_front (c ∷ cs) = if is_xml_space c then trimmed_front cs else c ∷ cs

abbrev pub trimmed : List ℕ → List ℕ
trimmed text = reverse (trimmed_front (reverse (trimmed_front text)))

abbrev pub is_digit : ℕ → Bool
is_digit c = is_between 48 57 c

-- one digit or more, at most this many
abbrev pub are_digits : ℕ → List ℕ → Bool
are_digits most digits = nat_le 1 (length digits) && nat_le (length digits) most && list_all is_digit digits

-- the number that digits spell
abbrev pub digits_value : List ℕ → ℕ
digits_value digits = fold (λ value c. value * 10 + (c - 48)) 0 digits

-- perhaps a minus sign, and at most this many digits
abbrev pub is_whole : ℕ → List ℕ → Bool
is_whole most [] = false
is_whole most (c ∷ cs) = if c == 45 then are_digits most cs else are_digits most (c ∷ cs)

-- the number that these spell
abbrev pub signed_value : List ℕ → ℤ
signed_value [] = pos 0
signed_value (c ∷ cs) = if c == 45 then neg_ℤ (pos (digits_value cs)) else pos (digits_value (c ∷ cs))

-- the number in a text with white space round it, if there is one of at most 15 digits
abbrev pub number_in : List ℕ → Option ℤ
number_in text = if is_whole 15 (trimmed text) then Some (signed_value (trimmed text)) else None
