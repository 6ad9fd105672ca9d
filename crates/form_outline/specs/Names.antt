-- The names in an outline are local names, and each path begins with the root's.
use Rattle.std.specs.Prelude.{◌≡◌, ℕ, true, Bool, List}
use Rattle.std.specs.List.{list_all}
use Rattle.form_def.specs.Paths.{is_name, is_path}
use Rattle.form_outline.specs.declared.outline.PrimaryField.{PrimaryField}
use Rattle.form_outline.specs.declared.outline.PrimaryPart.{PrimaryPart}
use Rattle.form_outline.specs.declared.outline.PrimaryPart.TheVariants.{Field, Meta, Entity}
use Rattle.form_outline.specs.declared.outline.Outline.{Outline}

abbrev pub field_has_path : List ℕ → PrimaryField → Bool
field_has_path root f = is_path root f.path

abbrev pub has_paths : List ℕ → PrimaryPart → Bool
has_paths root (Field f) = field_has_path root f
has_paths root (Meta f) = field_has_path root f
has_paths root (Entity e) = list_all (field_has_path root) e.fields

abbrev pub IsNamed : Outline → Type 0
IsNamed outline = (is_name outline.root ≡ true) × (list_all (has_paths outline.root) outline.primary ≡ true)
