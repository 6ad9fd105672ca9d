-- The fields of a form with their texts, and whether each is shown.
use Rattle.std.specs.Prelude.{ℕ, Bool, true, false, if◌then◌else◌, List, [], ◌∷◌, ◌++◌, codes, Option, find, nat_eq}
use Rattle.std.specs.List.{starts_with}
use Rattle.std.specs.Str.{bytes_eq}
use Rattle.form_def.specs.declared.field.Field.{Field}
use Rattle.form_def.specs.declared.field.Kind.{Kind}
use Rattle.form_def.specs.declared.field.Kind.TheVariants.{Words, Whole, One, Many, Group, Plain}
use Rattle.form_def.specs.Paths.{parts_of}
use Rattle.instance_doc.specs.Markup.{escaped}

pub record Row : Type 0 where
  pub field : Field
  pub text : List ℕ
  pub shown : Bool

-- a row for each field, as far as there are texts and marks
abbrev pub rows_of : List Field → List (List ℕ) → List Bool → List Row
rows_of [] texts shown = []
rows_of (f ∷ fields) [] shown = []
rows_of (f ∷ fields) (text ∷ texts) [] = []
rows_of (f ∷ fields) (text ∷ texts) (is_shown ∷ shown) =
    record { field = f; text = text; shown = is_shown } ∷ rows_of fields texts shown

-- ---- paths

abbrev pub last_part : List (List ℕ) → List ℕ
last_part [] = []
last_part (part ∷ []) = part
last_part (part ∷ next ∷ others) = last_part (next ∷ others)

-- the last name of a path
abbrev pub last_name : List ℕ → List ℕ
last_name path = last_part (parts_of path)

-- the whole path of what has this path in `meta`
abbrev pub meta_path : List ℕ → List ℕ → List ℕ
meta_path root path = codes "/" ++ (root ++ (codes "/meta/" ++ path))

-- a path with the front that paths in `meta` have
abbrev pub is_in_meta : List ℕ → List ℕ → Bool
is_in_meta meta path = starts_with nat_eq path meta

-- the first row of a path
abbrev pub row_at : List ℕ → List Row → Option Row
row_at path rows = find (λ r. bytes_eq r.field.path path) rows

-- ---- contents

abbrev pub is_group : Kind → Bool
is_group Group = true
is_group Words = false
is_group Whole = false
is_group One = false
is_group Many = false
is_group Plain = false

-- a group has what stands inside, and no text of its own
abbrev pub content : Row → List ℕ → List ℕ
content r inside = if is_group r.field.kind then inside else escaped r.text
