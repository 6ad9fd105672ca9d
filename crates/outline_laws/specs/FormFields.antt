-- A form by its outline (ODK XForms, "Primary Instance"): its fields are the elements of the primary instance in document
-- order and then those of `meta`, each with what the first bind of its path and the control that asks for it say.
use Rattle.std.specs.Prelude.{◌≡◌, ℕ, List, [], ◌∷◌, ◌++◌, find, length, Option, Some, slice_get}
use Rattle.std.specs.List.{flat_map}
use Rattle.form_def.specs.declared.form.FormDef.{FormDef}
use Rattle.form_outline.specs.declared.outline.Outline.{Outline}
use Rattle.form_outline.specs.declared.outline.PrimaryField.{PrimaryField}
use Rattle.form_outline.specs.declared.outline.PrimaryPart.{PrimaryPart}
use Rattle.form_outline.specs.declared.outline.PrimaryPart.TheVariants.{Field, Meta, Entity}
use Rattle.form_read.specs.Drafts.{scope_of}
use Rattle.form_read.specs.Forms.{field_of}
use Rattle.form_read.specs.Slots.{outside_meta, slot_of, slots_of}
use Rattle.form_read.specs.declared.draft.Asked.{Asked}
use Rattle.form_read.specs.declared.draft.Bound.{Bound}
use Rattle.outline_laws.specs.FirstBinds.{BindsSay}
use Rattle.outline_laws.specs.FirstControls.{ControlsSay}
use Rattle.outline_laws.specs.FirstTables.{TablesSay, is_inner_of, is_outer_of}

-- the field with this number, which is the first one of its path
pub record FieldSays (outline : Outline) (form : FormDef) (number : ℕ) : Type 0 where
  pub element : PrimaryField
  pub bound : Option Bound
  pub asked : Option Asked
  pub stands : slice_get (slots_of outline.primary) number ≡ Some element
  pub binds : BindsSay (scope_of outline) outline.model element.path bound
  pub controls : ControlsSay (scope_of outline) outline.controls number asked
  pub field : slice_get form.fields number ≡ Some (field_of element bound asked)

abbrev pub FieldsSay : Outline → FormDef → Type 0
FieldsSay outline form = (path : List ℕ) (number : ℕ) → slot_of (slots_of outline.primary) path ≡ Some number
    → FieldSays outline form number

-- the tables of each id
abbrev pub FormTablesSay : Outline → FormDef → Type 0
FormTablesSay outline form = (id : List ℕ)
    → TablesSay outline.model id (find (is_inner_of id) form.inner) (find (is_outer_of id) form.outer)

-- the fields that a part gives of `meta`
abbrev pub in_meta : PrimaryPart → List PrimaryField
in_meta (Field field) = []
in_meta (Meta field) = field ∷ []
in_meta (Entity entity) = entity.fields

pub record FormSays (outline : Outline) (form : FormDef) : Type 0 where
  -- the elements that are fields, in their order
  pub elements : slots_of outline.primary ≡ flat_map outside_meta outline.primary ++ flat_map in_meta outline.primary
  pub count : length form.fields ≡ length (slots_of outline.primary)
  pub fields : FieldsSay outline form
  pub tables : FormTablesSay outline form
