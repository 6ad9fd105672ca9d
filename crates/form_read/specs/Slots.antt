-- The fields that a form has, by number, before their binds and controls: those of the primary instance in document
-- order, and then those of `meta`, of which the first entity counts.
use Rattle.std.specs.Prelude.{ℕ, Bool, true, false, ◌||◌, if◌then◌else◌, List, [], ◌∷◌, ◌++◌, Option, position}
use Rattle.std.specs.List.{flat_map}
use Rattle.std.specs.Str.{bytes_eq}
use Rattle.form_outline.specs.declared.outline.PrimaryField.{PrimaryField}
use Rattle.form_outline.specs.declared.outline.PrimaryPart.{PrimaryPart}
use Rattle.form_outline.specs.declared.outline.PrimaryPart.TheVariants.{Field, Meta, Entity}

abbrev pub outside_meta : PrimaryPart → List PrimaryField
outside_meta (Field f) = f ∷ []
outside_meta (Meta f) = []
outside_meta (Entity e) = []

-- the fields of an entity, or of the name of the instance; a further entity gives none
abbrev pub inside_meta : Bool → PrimaryPart → List PrimaryField
inside_meta has_entity (Field f) = []
inside_meta has_entity (Meta f) = f ∷ []
inside_meta has_entity (Entity e) = if has_entity then [] else e.fields

abbrev pub is_entity : PrimaryPart → Bool
is_entity (Field f) = false
is_entity (Meta f) = false
is_entity (Entity e) = true

-- the fields of `meta` behind parts among which an entity was, or was not
abbrev pub meta_slots : Bool → List PrimaryPart → List PrimaryField
meta_slots has_entity [] = []
meta_slots has_entity (p ∷ ps) = inside_meta has_entity p ++ meta_slots (has_entity || is_entity p) ps

abbrev pub slots_of : List PrimaryPart → List PrimaryField
slots_of parts = flat_map outside_meta parts ++ meta_slots false parts

-- the number of the field of a path
abbrev pub slot_of : List PrimaryField → List ℕ → Option ℕ
slot_of slots path = position (λ s. bytes_eq s.path path) slots
