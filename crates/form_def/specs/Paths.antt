-- Paths of fields: the root's name and then one or more names, a slash before each. The last may be an attribute's,
-- with `@` before its name.
use Rattle.std.specs.Prelude.{ℕ, Bool, false, ◌&&◌, ◌||◌, ◌==◌, List, [], ◌∷◌}
use Rattle.std.specs.List.{slice_split, before_last}
use Rattle.std.specs.Str.{bytes_eq, chars}
use Rattle.field_text.specs.Xml.{is_local_name}

abbrev pub is_slash : ℕ → Bool
is_slash b = b == 47

-- what stands before, between and behind the slashes
abbrev pub parts_of : List ℕ → List (List ℕ)
parts_of path = slice_split is_slash path

-- the path without its last name
abbrev pub parent_path : List ℕ → List ℕ
parent_path path = before_last is_slash path

abbrev pub is_name : List ℕ → Bool
is_name name = is_local_name (chars name)

abbrev pub is_attribute : List ℕ → Bool
is_attribute [] = false
is_attribute (b ∷ name) = (b == 64) && is_name name

abbrev pub are_names : List (List ℕ) → Bool
are_names [] = false
are_names (last ∷ []) = is_name last || is_attribute last
are_names (name ∷ next ∷ others) = is_name name && are_names (next ∷ others)

abbrev pub are_below : List ℕ → List (List ℕ) → Bool
are_below root [] = false
are_below root ((b ∷ bs) ∷ others) = false
are_below root ([] ∷ []) = false
are_below root ([] ∷ first ∷ names) = bytes_eq first root && are_names names

-- a path of a field below this root
abbrev pub is_path : List ℕ → List ℕ → Bool
is_path root path = are_below root (parts_of path)
