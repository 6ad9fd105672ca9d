-- What the primary instance is refused for: a second field of one path, and an entity that is the second or lacks a
-- dataset.
use Rattle.std.specs.Prelude.{ℕ, Bool, true, false, if◌then◌else◌, List, [], ◌∷◌, ◌++◌, codes, Option, Some, None}
use Rattle.std.specs.Prelude.{Result, Ok, Err}
use Rattle.std.specs.List.{list_any}
use Rattle.std.specs.Str.{bytes_eq}
use Rattle.form_outline.specs.declared.outline.PrimaryField.{PrimaryField}
use Rattle.form_outline.specs.declared.outline.EntityPart.{EntityPart}
use Rattle.form_outline.specs.declared.outline.PrimaryPart.{PrimaryPart}
use Rattle.form_outline.specs.declared.outline.PrimaryPart.TheVariants.{Field, Meta, Entity}
use Rattle.form_read.specs.declared.refusal.FormRefused.{FormRefused}
use Rattle.form_read.specs.declared.refusal.FormRefused.TheVariants.{UnknownPath, BadEntity}
use Rattle.form_read.specs.declared.primary.Seen.{Seen}
use Rattle.form_read.specs.Refusals.{◌>>=◌}

abbrev pub has_path : List (List ℕ) → List ℕ → Bool
has_path paths path = list_any (λ p. bytes_eq p path) paths

abbrev pub path_taken : List (List ℕ) → List ℕ → Result (List (List ℕ)) FormRefused
path_taken paths path = if has_path paths path then Err (UnknownPath path) else Ok (paths ++ path ∷ [])

abbrev pub paths_taken : List (List ℕ) → List PrimaryField → Result (List (List ℕ)) FormRefused
paths_taken paths [] = Ok paths
paths_taken paths (f ∷ fs) = path_taken paths f.path >>= λ more. paths_taken more fs

abbrev pub entity_path : List ℕ → List ℕ
entity_path root = 47 ∷ root ++ codes "/meta/entity"

abbrev pub is_no_entity : Bool → Option (List ℕ) → Bool
is_no_entity has_entity None = true
is_no_entity has_entity (Some dataset) = has_entity

abbrev pub field_taken : Seen → PrimaryField → Result Seen FormRefused
field_taken seen f =
    path_taken seen.paths f.path >>= λ paths. Ok (record { paths = paths; has_entity = seen.has_entity })

abbrev pub entity_taken : List ℕ → Seen → EntityPart → Result Seen FormRefused
entity_taken root seen e =
    if is_no_entity seen.has_entity e.dataset then Err (BadEntity (entity_path root))
    else (paths_taken seen.paths e.fields >>= λ paths. Ok (record { paths = paths; has_entity = true }))

abbrev pub part_taken : List ℕ → Seen → PrimaryPart → Result Seen FormRefused
part_taken root seen (Field f) = field_taken seen f
part_taken root seen (Meta f) = field_taken seen f
part_taken root seen (Entity e) = entity_taken root seen e

abbrev pub parts_taken : List ℕ → Seen → List PrimaryPart → Result Seen FormRefused
parts_taken root seen [] = Ok seen
parts_taken root seen (p ∷ ps) = part_taken root seen p >>= λ next. parts_taken root next ps

abbrev pub nothing_seen : Seen
nothing_seen = record { paths = []; has_entity = false }
