-- What is printed of an outline.
use Rattle.std.specs.Prelude.{ℕ, List, [], ◌∷◌, ◌++◌, codes, Bool, true, false, Option, Some, None, if◌then◌else◌}
use Rattle.std.specs.List.{flat_map}
use Rattle.case_lines.specs.Cells.{row_printed}
use Rattle.form_outline.specs.declared.outline.PrimaryField.{PrimaryField}
use Rattle.form_outline.specs.declared.outline.EntityPart.{EntityPart}
use Rattle.form_outline.specs.declared.outline.PrimaryPart.{PrimaryPart}
use Rattle.form_outline.specs.declared.outline.PrimaryPart.TheVariants as primary
use Rattle.form_outline.specs.declared.outline.Bind.{Bind}
use Rattle.form_outline.specs.declared.outline.TableContent.{TableContent}
use Rattle.form_outline.specs.declared.outline.TableContent.TheVariants as content
use Rattle.form_outline.specs.declared.outline.Table.{Table}
use Rattle.form_outline.specs.declared.outline.SetValue.{SetValue}
use Rattle.form_outline.specs.declared.outline.ModelPart.{ModelPart}
use Rattle.form_outline.specs.declared.outline.ModelPart.TheVariants as model
use Rattle.form_outline.specs.declared.outline.ItemsetPart.{ItemsetPart}
use Rattle.form_outline.specs.declared.outline.ControlPart.{ControlPart}
use Rattle.form_outline.specs.declared.outline.ControlPart.TheVariants as control
use Rattle.form_outline.specs.declared.outline.Control.{Control}
use Rattle.form_outline.specs.declared.outline.Outline.{Outline}

-- a text between square brackets behind a name; nothing where there is none
abbrev pub named_printed : List ℕ → Option (List ℕ) → List ℕ
named_printed name (Some text) = codes " " ++ name ++ codes "=[" ++ text ++ codes "]"
named_printed name None = []

-- a text between square brackets; a dash where there is none
abbrev pub text_printed : Option (List ℕ) → List ℕ
text_printed (Some text) = codes " [" ++ text ++ codes "]"
text_printed None = codes " -"

abbrev pub field_printed : PrimaryField → List ℕ
field_printed field =
    (if field.is_group then codes "group " else codes "field ")
    ++ field.path ++ codes " [" ++ field.initial ++ codes "]"

abbrev pub inner_field_printed : PrimaryField → List ℕ
inner_field_printed field = codes " " ++ field_printed field

abbrev pub entity_printed : EntityPart → List ℕ
entity_printed entity = codes "entity" ++ text_printed entity.dataset ++ flat_map inner_field_printed entity.fields

abbrev pub primary_part_printed : PrimaryPart → List ℕ
primary_part_printed (primary.Field field) = field_printed field ++ codes ";"
primary_part_printed (primary.Meta field) = codes "meta " ++ field_printed field ++ codes ";"
primary_part_printed (primary.Entity entity) = entity_printed entity ++ codes ";"

-- what a bind says of answers
unfoldable pub answers_printed : Bind → List ℕ
answers_printed bind = named_printed (codes "relevant") bind.relevant
    ++ named_printed (codes "constraint") bind.constraint
    ++ named_printed (codes "required") bind.required

-- what else it says
unfoldable pub others_printed : Bind → List ℕ
others_printed bind = named_printed (codes "readonly") bind.readonly
    ++ named_printed (codes "calculate") bind.calculate
    ++ named_printed (codes "saveto") bind.saveto

abbrev pub bind_printed : Bind → List ℕ
bind_printed bind = codes "bind [" ++ bind.nodeset ++ codes "]" ++ named_printed (codes "type") bind.data_type
    ++ answers_printed bind ++ others_printed bind

abbrev pub content_printed : TableContent → List ℕ
content_printed (content.Rows rows) = codes " rows" ++ flat_map row_printed rows
content_printed (content.Source source) = codes " src=[" ++ source ++ codes "]"
content_printed content.Nothing = codes " nothing"

abbrev pub table_printed : Table → List ℕ
table_printed table = codes "table [" ++ table.id ++ codes "]" ++ content_printed table.content

abbrev pub setvalue_printed : SetValue → List ℕ
setvalue_printed setvalue = codes "setvalue"
    ++ named_printed (codes "ref") setvalue.target
    ++ named_printed (codes "event") setvalue.event
    ++ named_printed (codes "value") setvalue.value

abbrev pub model_part_printed : ModelPart → List ℕ
model_part_printed model.Primary = codes "primary;"
model_part_printed (model.Bind bind) = bind_printed bind ++ codes ";"
model_part_printed (model.Table table) = table_printed table ++ codes ";"
model_part_printed (model.Submission auto_send) = codes "submission" ++ text_printed auto_send ++ codes ";"
model_part_printed (model.SetValue setvalue) = setvalue_printed setvalue ++ codes ";"
model_part_printed (model.Other name) = codes "other [" ++ name ++ codes "];"

abbrev pub control_part_printed : ControlPart → List ℕ
control_part_printed (control.Item value) = codes " item" ++ text_printed value
control_part_printed (control.Itemset itemset) =
    codes " itemset [" ++ itemset.nodeset ++ codes "]" ++ named_printed (codes "value") itemset.value
control_part_printed (control.Other name) = codes " other [" ++ name ++ codes "]"

abbrev pub control_printed : Control → List ℕ
control_printed control =
    control.name ++ codes " [" ++ control.target ++ codes "]"
    ++ flat_map control_part_printed control.parts ++ codes ";"

unfoldable pub root_printed : Outline → List ℕ
root_printed outline =
    codes "root [" ++ outline.root ++ codes "] id [" ++ outline.id
    ++ codes "] version [" ++ outline.version ++ codes "];"

-- whether the body stands before the head
abbrev pub body_first_printed : Bool → List ℕ
body_first_printed true = codes "body first;"
body_first_printed false = []

-- an outline as a whole
abbrev pub outline_printed : Outline → List ℕ
outline_printed outline = root_printed outline
    ++ flat_map primary_part_printed outline.primary
    ++ flat_map model_part_printed outline.model
    ++ flat_map control_printed outline.controls
    ++ body_first_printed outline.body_first
