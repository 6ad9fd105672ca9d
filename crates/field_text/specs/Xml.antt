-- Characters and names of XML 1.0 (sections 2.2 and 2.3), over code points. A name here is the part without a colon
-- (Namespaces in XML 1.0, section 3), and every character past ASCII that a document may hold may stand in it.
use Rattle.std.specs.Prelude.{ℕ, Bool, false, ◌||◌, ◌&&◌, ◌==◌, nat_le, List, [], ◌∷◌, if◌then◌else◌}
use Rattle.std.specs.List.{list_all}

abbrev pub is_between : ℕ → ℕ → ℕ → Bool
is_between low high c = nat_le low c && nat_le c high

-- the characters that a document may hold
abbrev pub is_xml_char : ℕ → Bool
is_xml_char c = (c == 9) || (c == 10) || (c == 13) || is_between 0x20 0xD7FF c || is_between 0xE000 0xFFFD c
    || is_between 0x10000 0x10FFFF c

-- space, tab, line feed, carriage return
abbrev pub is_xml_space : ℕ → Bool
is_xml_space c = (c == 32) || (c == 9) || (c == 10) || (c == 13)

-- an ASCII letter, `_`, or a character past ASCII
abbrev pub is_name_start : ℕ → Bool
is_name_start c = is_between 65 90 c || is_between 97 122 c || (c == 95) || (nat_le 128 c && is_xml_char c)

-- these, a digit, `.` or `-`
abbrev pub is_name_char : ℕ → Bool
is_name_char c = is_name_start c || is_between 48 57 c || (c == 46) || (c == 45)

-- the first character may begin a name
abbrev pub begins_as_name : List ℕ → Bool
begins_as_name [] = false
begins_as_name (c ∷ _) = is_name_start c

-- characters that are a name without a colon
abbrev pub is_local_name : List ℕ → Bool
is_local_name cs = begins_as_name cs && list_all is_name_char cs

-- the character, or U+FFFD in the place of one that a document may not hold
abbrev pub xml_char_of : ℕ → ℕ
xml_char_of c = if is_xml_char c then c else 0xFFFD
