-- The parts of the entity in a form's `meta` (ODK Entities): its attributes and its label, which are fields too. Their
-- texts count whether they are shown or not, as the finalized document has them.
use Rattle.std.specs.Prelude.{ℕ, Bool, false, ◌||◌, if◌then◌else◌, List, [], codes, slice_get, Option, Some, None}
use Rattle.std.specs.Prelude.{length, ◌==◌, unwrap_or}
use Rattle.std.specs.Option.{option_map_or}
use Rattle.std.specs.Str.{bytes_eq}
use Rattle.field_text.specs.Finds.{◌>>=◌}
use Rattle.form_def.specs.declared.field.EntityDef.{EntityDef}
use Rattle.form_def.specs.declared.form.FormDef.{FormDef}
use Rattle.form_def.specs.Fields.{number_of}
use Rattle.instance_doc.specs.Rows.{meta_path}
use Rattle.finalizer.specs.declared.entity_parts.Part.{Part}
use Rattle.finalizer.specs.declared.entity_parts.Part.TheVariants.{Id, Create, Update, Label}

-- a part's path in `meta`
abbrev pub path_of : Part → List ℕ
path_of Id = codes "entity/@id"
path_of Create = codes "entity/@create"
path_of Update = codes "entity/@update"
path_of Label = codes "entity/label"

-- the number of the field that a part is, if the form has it
abbrev pub part_number : FormDef → Part → Option ℕ
part_number form part = number_of form.fields (meta_path form.root (path_of part))

abbrev pub part_text : FormDef → List (List ℕ) → Part → Option (List ℕ)
part_text form texts part = do
  number ← part_number form part
  slice_get texts number

-- whether an attribute asks for something
abbrev pub is_yes : List ℕ → Bool
is_yes text = bytes_eq text (codes "1") || bytes_eq text (codes "true")

abbrev pub is_asked : FormDef → List (List ℕ) → Part → Bool
is_asked form texts part = option_map_or is_yes (part_text form texts part) false

-- the text, unless it is empty
abbrev pub if_filled : List ℕ → Option (List ℕ)
if_filled text = if length text == 0 then None else Some text

abbrev pub entity_id : FormDef → List (List ℕ) → Option (List ℕ)
entity_id form texts = do
  text ← part_text form texts Id
  if_filled text

-- the label, empty where the form has none
abbrev pub entity_label : FormDef → List (List ℕ) → List ℕ
entity_label form texts = unwrap_or (part_text form texts Label) []

-- the number, if the field of it has an empty text
abbrev pub if_empty : List (List ℕ) → ℕ → Option ℕ
if_empty texts number = do
  text ← slice_get texts number
  if length text == 0 then Some number else None

abbrev pub id_to_draw : FormDef → EntityDef → Option ℕ
id_to_draw form entity = if entity.draws_id then part_number form Id else None

-- the number of the field that gets a drawn id: the entity's, where the form asks for one and the texts have none
abbrev pub undrawn : FormDef → List (List ℕ) → Option ℕ
undrawn form texts = do
  entity ← form.entity
  number ← id_to_draw form entity
  if_empty texts number
