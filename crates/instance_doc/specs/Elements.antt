-- The elements of the fields outside `meta`.
use Rattle.std.specs.Prelude.{ℕ, Bool, not, ◌&&◌, if◌then◌else◌, List, [], ◌∷◌}
use Rattle.std.specs.List.{flat_map}
use Rattle.std.specs.Str.{bytes_eq}
use Rattle.form_def.specs.Paths.{parent_path}
use Rattle.instance_doc.specs.Markup.{element}
use Rattle.instance_doc.specs.Rows.{Row, content, is_in_meta, last_name, meta_path}

-- what a field becomes, with the field's path
pub record Placed (A : Type 0) : Type 0 where
  pub path : List ℕ
  pub value : A

abbrev pub is_right_below : {A : Type 0} → List ℕ → Placed A → Bool
is_right_below parent p = bytes_eq (parent_path p.path) parent

-- those from the front on that stand right below a path
abbrev pub children : {A : Type 0} → List ℕ → List (Placed A) → List (Placed A)
children parent [] = []
children parent (p ∷ others) = if is_right_below parent p then p ∷ children parent others else []

-- and those that come behind them
abbrev pub behind : {A : Type 0} → List ℕ → List (Placed A) → List (Placed A)
behind parent [] = []
behind parent (p ∷ others) = if is_right_below parent p then behind parent others else p ∷ others

abbrev pub values : {A : Type 0} → List (Placed (List A)) → List A
values placed = flat_map (λ p. p.value) placed

-- a field in front of others: those that come next and stand right below it are inside it
abbrev pub with_field : {A : Type 0} → (Row → List A → List A) → Row → List (Placed (List A)) → List (Placed (List A))
with_field of_field r others =
    record { path = r.field.path; value = of_field r (values (children r.field.path others)) }
    ∷ behind r.field.path others

-- what the outermost fields become, by what each becomes round what stands inside
abbrev pub placed : {A : Type 0} → (Row → List A → List A) → List Row → List (Placed (List A))
placed of_field [] = []
placed of_field (r ∷ rows) = with_field of_field r (placed of_field rows)

-- ---- their texts

-- a field is written where it is shown and doesn't stand in `meta`, by the front that paths have there
abbrev pub is_written : List ℕ → Row → Bool
is_written meta r = r.shown && not (is_in_meta meta r.field.path)

-- a field's element round what stands inside
abbrev pub field_text : List ℕ → Row → List ℕ → List ℕ
field_text meta r inside = if is_written meta r then element (last_name r.field.path) (content r inside) else []

abbrev pub fields_text : List ℕ → List Row → List ℕ
fields_text root rows = values (placed (field_text (meta_path root [])) rows)
