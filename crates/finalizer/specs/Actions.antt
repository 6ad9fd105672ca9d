-- What a finalized instance does to an entity list (ODK Entities): it makes an entity, updates one, or does nothing.
use Rattle.std.specs.Prelude.{ℕ, ◌+◌, Bool, true, false, not, ◌&&◌, if◌then◌else◌, List, [], ◌∷◌, ◌++◌, find, is_some}
use Rattle.std.specs.Prelude.{Option, Some, None, option_map}
use Rattle.std.specs.Option.{option_map_or, option_to_list}
use Rattle.std.specs.Str.{bytes_eq}
use Rattle.field_text.specs.Finds.{◌>>=◌}
use Rattle.form_def.specs.declared.field.Field.{Field}
use Rattle.form_def.specs.declared.form.FormDef.{FormDef}
use Rattle.form_def.specs.Order.{is_marked}
use Rattle.question_rules.specs.Fields.{text_at}
use Rattle.entity_lists.specs.declared.entities.Prop.{Prop}
use Rattle.entity_lists.specs.declared.entity_list.EntityList.{EntityList}
use Rattle.entity_lists.specs.Entities.{entity_place}
use Rattle.entity_merge.specs.declared.actions.Action.{Action}
use Rattle.finalizer.specs.declared.entity_parts.Part.TheVariants.{Create, Update}
use Rattle.finalizer.specs.EntityParts.{entity_id, entity_label, is_asked}

-- whether the list of a name has an entity of an id; a list that isn't there has none
abbrev pub has_entity : List EntityList → List ℕ → List ℕ → Bool
has_entity lists name id =
    option_map_or (λ list. is_some (entity_place id list.rows)) (find (λ list. bytes_eq list.name name) lists) false

-- whether the entity is made (true) or updated (false): it is made where that is asked for and it isn't there, or else
-- updated where that is asked for and it is
abbrev pub creation : Bool → Bool → Bool → Option Bool
creation create update there =
    if create && not there then Some true else if update && there then Some false else None

-- the property of a name with the text of the field of a number
abbrev pub prop_of : List (List ℕ) → ℕ → List ℕ → Prop
prop_of texts number name = record { name = name; value = text_at texts number }

-- the property that a field is saved to, if it is shown and saved to one
abbrev pub saved : List (List ℕ) → List Bool → ℕ → Field → Option Prop
saved texts marks number field =
    if is_marked marks number then option_map (prop_of texts number) field.saveto else None

-- the properties of these fields in their order, the first of which has this number
abbrev pub saved_from : List (List ℕ) → List Bool → ℕ → List Field → List Prop
saved_from texts marks number [] = []
saved_from texts marks number (field ∷ fields) =
    option_to_list (saved texts marks number field) ++ saved_from texts marks (number + 1) fields

-- the action of an instance of a form with these texts, of which the marked ones are shown
abbrev pub action_of : FormDef → List EntityList → List (List ℕ) → List Bool → Option Action
action_of form lists texts marks = do
  entity ← form.entity
  id ← entity_id form texts
  create ← creation (is_asked form texts Create) (is_asked form texts Update) (has_entity lists entity.dataset id)
  Some (record {
    create = create;
    list = entity.dataset;
    id = id;
    label = entity_label form texts;
    props = saved_from texts marks 0 form.fields;
  })
