-- The paths in expressions (XPath 1.0, section 2): absolute ones, and those that climb from the field whose
-- expression it is.
use Rattle.std.specs.Prelude.{ℕ, Bool, not, ◌&&◌, ◌==◌, if◌then◌else◌, List, [], ◌∷◌, ◌++◌, Option, Some, None}
use Rattle.std.specs.Prelude.{position, codes, option_and_then}
use Rattle.std.specs.List.{list_any, starts_with}
use Rattle.std.specs.Str.{bytes_eq}
use Rattle.std.specs.Prelude.{nat_eq}
use Rattle.form_read.specs.Lists.{is_empty}
use Rattle.form_def.specs.Paths.{parent_path}
use Rattle.form_outline.specs.declared.outline.PrimaryField.{PrimaryField}

abbrev pub is_step : ℕ → ℕ → ℕ → Bool
is_step a b c = (a == 46) && (b == 46) && (c == 47)

-- what follows a step `../` at the front
abbrev pub past_step : List ℕ → Option (List ℕ)
past_step [] = None
past_step (a ∷ []) = None
past_step (a ∷ b ∷ []) = None
past_step (a ∷ b ∷ c ∷ steps) = if is_step a b c then Some steps else None

-- The path that steps and names lead to from a path. None leads above the document's root, whose path is empty.
abbrev pub climbed : List ℕ → List ℕ → Option (List ℕ)
climbed own [] = Some (own ++ 47 ∷ [])
climbed own (a ∷ []) = Some (own ++ 47 ∷ a ∷ [])
climbed own (a ∷ b ∷ []) = Some (own ++ 47 ∷ a ∷ b ∷ [])
climbed own (a ∷ b ∷ c ∷ steps) =
    if is_step a b c then (if is_empty own then None else climbed (parent_path own) steps)
    else Some (own ++ 47 ∷ a ∷ b ∷ c ∷ steps)

abbrev pub is_absolute : List ℕ → Bool
is_absolute path = starts_with nat_eq path (codes "/")

-- the path that one in an expression of the field of the path `own` stands for
abbrev pub path_from : List ℕ → List ℕ → Option (List ℕ)
path_from own path = if is_absolute path then Some path else climbed own path

abbrev pub is_leaf_at : List ℕ → PrimaryField → Bool
is_leaf_at path s = bytes_eq s.path path && not s.is_group

-- the leaf field of a path
abbrev pub leaf_of : List PrimaryField → List ℕ → Option ℕ
leaf_of slots path = position (is_leaf_at path) slots

abbrev pub has_at_sign : List ℕ → Bool
has_at_sign path = list_any (λ b. b == 64) path

-- the leaf field of a path, if that is no attribute of the entity
abbrev pub readable_of : List PrimaryField → List ℕ → Option ℕ
readable_of slots path = if has_at_sign path then None else leaf_of slots path

abbrev pub read_from : List PrimaryField → Option (List ℕ) → Option ℕ
read_from slots path = option_and_then (readable_of slots) path

-- the field that a path in an expression of a field reads
abbrev pub field_read : List PrimaryField → List ℕ → List ℕ → Option ℕ
field_read slots own path = read_from slots (path_from own path)
