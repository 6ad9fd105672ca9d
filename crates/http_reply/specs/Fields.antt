-- Fields of a head by their names, which are compared in any case of ASCII letters (RFC 9110, section 5.1). A field
-- is its name, and its value without the white space round it.
use Rattle.std.specs.Prelude.{ℕ, Bool, not, ◌||◌, List, codes, find, count_by, Option}
use Rattle.std.specs.List.{list_all}
use Rattle.std.specs.Option.{option_map}
use Rattle.std.specs.Str.{str_eq_ignore_ascii_case}

abbrev pub Fields : Type 0
Fields = List (List ℕ × List ℕ)

abbrev pub is_named : List ℕ → List ℕ × List ℕ → Bool
is_named name field = str_eq_ignore_ascii_case field.0 name

-- how many fields have it
abbrev pub field_count : List ℕ → Fields → ℕ
field_count name fields = count_by (is_named name) fields

-- the value of the first of them
abbrev pub first_value : List ℕ → Fields → Option (List ℕ)
first_value name fields = option_map (λ field. field.1) (find (is_named name) fields)

-- the field has another name, or this value, in any case of letters
abbrev pub has_value_if_named : List ℕ → List ℕ → List ℕ × List ℕ → Bool
has_value_if_named name value field = not (is_named name field) || str_eq_ignore_ascii_case field.1 value

-- the value of each field of the name is this one
abbrev pub each_value : List ℕ → List ℕ → Fields → Bool
each_value name value fields = list_all (has_value_if_named name value) fields

abbrev pub transfer_encoding : List ℕ
transfer_encoding = codes "transfer-encoding"

abbrev pub content_length : List ℕ
content_length = codes "content-length"

abbrev pub content_encoding : List ℕ
content_encoding = codes "content-encoding"

abbrev pub content_type : List ℕ
content_type = codes "content-type"
