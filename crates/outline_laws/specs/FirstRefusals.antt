-- What a form is refused for: the first in document order of the causes that its parts have.
use Rattle.std.specs.Prelude.{ℕ, Bool, true, false, nat_lt, if◌then◌else◌, List, [], ◌∷◌, ◌++◌, codes, length}
use Rattle.std.specs.Prelude.{map, Option, Some, None}
use Rattle.std.specs.List.{flat_map, list_any}
use Rattle.form_outline.specs.declared.outline.EntityPart.{EntityPart}
use Rattle.form_outline.specs.declared.outline.ModelPart.{ModelPart}
use Rattle.form_outline.specs.declared.outline.ModelPart.TheVariants as part
use Rattle.form_outline.specs.declared.outline.Outline.{Outline}
use Rattle.form_outline.specs.declared.outline.PrimaryField.{PrimaryField}
use Rattle.form_outline.specs.declared.outline.PrimaryPart.{PrimaryPart}
use Rattle.form_outline.specs.declared.outline.PrimaryPart.TheVariants.{Field, Meta, Entity}
use Rattle.form_outline.specs.declared.outline.SetValue.{SetValue}
use Rattle.form_read.specs.Drafts.{most_fields, scope_of}
use Rattle.form_read.specs.Lists.{is_empty}
use Rattle.form_read.specs.Primary.{entity_path, has_path, is_no_entity}
use Rattle.form_read.specs.Slots.{is_entity}
use Rattle.form_read.specs.Tables.{draws_id}
use Rattle.form_read.specs.declared.refusal.FormRefused.{FormRefused}
use Rattle.form_read.specs.declared.refusal.FormRefused.TheVariants.{BadEntity, NoId, TooManyFields, UnknownControl}
use Rattle.form_read.specs.declared.refusal.FormRefused.TheVariants.{UnknownPath}
use Rattle.form_read.specs.declared.scope.Scope.{Scope}
use Rattle.outline_laws.specs.Causes.{causes, first_cause}
use Rattle.outline_laws.specs.FirstBinds.{bind_cause}
use Rattle.outline_laws.specs.FirstControls.{control_cause}
use Rattle.outline_laws.specs.FirstTables.{table_cause}

-- ---- the primary instance

abbrev pub path_of : PrimaryField → List ℕ
path_of field = field.path

abbrev pub paths_in : PrimaryPart → List (List ℕ)
paths_in (Field field) = field.path ∷ []
paths_in (Meta field) = field.path ∷ []
paths_in (Entity entity) = map path_of entity.fields

-- a second field of a path is refused
abbrev pub path_cause : List (List ℕ) → PrimaryField → Option FormRefused
path_cause paths field = if has_path paths field.path then Some (UnknownPath field.path) else None

abbrev pub path_cause_behind : List (List ℕ) → List PrimaryField → PrimaryField → Option FormRefused
path_cause_behind paths before field = path_cause (paths ++ map path_of before) field

-- a second entity is refused, and one without a dataset
abbrev pub entity_cause : List ℕ → List PrimaryPart → EntityPart → Option FormRefused
entity_cause root before entity =
    if is_no_entity (list_any is_entity before) entity.dataset then Some (BadEntity (entity_path root))
    else first_cause (causes (path_cause_behind (flat_map paths_in before)) [] entity.fields)

abbrev pub primary_cause : List ℕ → List PrimaryPart → PrimaryPart → Option FormRefused
primary_cause root before (Field field) = path_cause (flat_map paths_in before) field
primary_cause root before (Meta field) = path_cause (flat_map paths_in before) field
primary_cause root before (Entity entity) = entity_cause root before entity

-- ---- the model

-- the one value that may be set is a fresh id of the entity
abbrev pub setvalue_cause : Scope → SetValue → Option FormRefused
setvalue_cause scope setvalue =
    if draws_id scope setvalue then None else Some (UnknownControl (codes "setvalue"))

abbrev pub model_cause : Scope → List PrimaryPart → List ModelPart → ModelPart → Option FormRefused
model_cause scope primary before part.Primary = first_cause (causes (primary_cause scope.root) [] primary)
model_cause scope primary before (part.Bind bind) = bind_cause scope before bind
model_cause scope primary before (part.Table table) = table_cause before table
model_cause scope primary before (part.Submission auto_send) = None
model_cause scope primary before (part.SetValue setvalue) = setvalue_cause scope setvalue
model_cause scope primary before (part.Other name) = Some (UnknownControl name)

-- ---- the form

abbrev pub model_causes : Outline → List (Option FormRefused)
model_causes outline = causes (model_cause (scope_of outline) outline.primary) [] outline.model

abbrev pub control_causes : Outline → List (Option FormRefused)
control_causes outline = causes (control_cause (scope_of outline)) [] outline.controls

-- the head and the body, whichever stands first
abbrev pub document_causes : Outline → List (Option FormRefused)
document_causes outline = if outline.body_first then control_causes outline ++ model_causes outline
    else model_causes outline ++ control_causes outline

abbrev pub cause_of_parts : Outline → Option FormRefused
cause_of_parts outline =
    if nat_lt most_fields (length (scope_of outline).slots) then Some (TooManyFields (length (scope_of outline).slots))
    else first_cause (document_causes outline)

-- the refusal of an outline: it has no id, it has too many fields, or one of its parts has a cause
abbrev pub first_refusal : Outline → Option FormRefused
first_refusal outline = if is_empty outline.id then Some NoId else cause_of_parts outline
