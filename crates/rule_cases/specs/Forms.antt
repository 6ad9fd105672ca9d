-- What is printed of a form.
use Rattle.std.specs.Prelude.{ℕ, List, [], ◌∷◌, ◌++◌, codes, Bool, true, false, Option, Some, None, if◌then◌else◌}
use Rattle.std.specs.List.{flat_map}
use Rattle.std.specs.Fmt.{decimal}
use Rattle.form_def.specs.declared.expr.Expr.{Expr}
use Rattle.form_def.specs.declared.field.Choices.{Choices}
use Rattle.form_def.specs.declared.field.Choices.TheVariants.{Nothing, Fixed, Rows}
use Rattle.form_def.specs.declared.field.Field.{Field}
use Rattle.case_lines.specs.Cells.{row_printed}
use Rattle.form_def.specs.declared.field.InnerTable.{InnerTable}
use Rattle.form_def.specs.declared.field.OuterTable.{OuterTable}
use Rattle.form_def.specs.declared.field.EntityDef.{EntityDef}
use Rattle.form_def.specs.declared.form.FormDef.{FormDef}
use Rattle.rule_cases.specs.Words.{kind_name}
use Rattle.rule_cases.specs.Expressions.{expr_printed}

-- a text between square brackets, behind a space
abbrev pub value_printed : List ℕ → List ℕ
value_printed text = codes " [" ++ text ++ codes "]"

-- an expression behind a name; nothing where there is none
abbrev pub named_printed : List ℕ → Option Expr → List ℕ
named_printed name (Some expr) = codes " " ++ name ++ codes "=" ++ expr_printed expr
named_printed name None = []

abbrev pub filter_printed : Option Expr → List ℕ
filter_printed (Some filter) = codes "[" ++ expr_printed filter ++ codes "]"
filter_printed None = []

abbrev pub choices_printed : Choices → List ℕ
choices_printed Nothing = []
choices_printed (Fixed values) = codes " fixed" ++ flat_map value_printed values
choices_printed (Rows table filter value) = codes " rows " ++ table ++ filter_printed filter ++ codes "/" ++ value

-- the first text of a field, where it isn't empty
abbrev pub initial_printed : List ℕ → List ℕ
initial_printed [] = []
initial_printed (byte ∷ bytes) = value_printed (byte ∷ bytes)

abbrev pub saveto_printed : Option (List ℕ) → List ℕ
saveto_printed (Some name) = codes " saveto=[" ++ name ++ codes "]"
saveto_printed None = []

-- what the bind of a field says
unfoldable pub binds_printed : Field → List ℕ
binds_printed field = named_printed (codes "relevant") field.relevant
    ++ named_printed (codes "constraint") field.constraint
    ++ named_printed (codes "required") field.required
    ++ named_printed (codes "readonly") field.readonly
    ++ named_printed (codes "calculate") field.calculate
    ++ saveto_printed field.saveto

-- which field it is, and its first text
unfoldable pub opening_printed : Field → List ℕ
opening_printed field = field.path ++ kind_name field.kind ++ initial_printed field.initial

abbrev pub field_printed : Field → List ℕ
field_printed field = opening_printed field ++ binds_printed field ++ choices_printed field.choices ++ codes ";"

abbrev pub inner_printed : InnerTable → List ℕ
inner_printed table = codes "inner " ++ table.name ++ flat_map row_printed table.rows ++ codes ";"

abbrev pub outer_printed : OuterTable → List ℕ
outer_printed table = codes "outer " ++ table.name ++ codes "=[" ++ table.list ++ codes "];"

abbrev pub entity_printed : Option EntityDef → List ℕ
entity_printed (Some entity) =
    codes "entity [" ++ entity.dataset ++ codes "]" ++ (if entity.draws_id then codes " draws;" else codes ";")
entity_printed None = []

abbrev pub sending_printed : Option Bool → List ℕ
sending_printed (Some true) = codes "send true;"
sending_printed (Some false) = codes "send false;"
sending_printed None = []

-- all but the form's head
abbrev pub form_printed : FormDef → List ℕ
form_printed form = flat_map field_printed form.fields
    ++ flat_map inner_printed form.inner
    ++ flat_map outer_printed form.outer
    ++ entity_printed form.entity
    ++ sending_printed form.auto_send

unfoldable pub head_printed : FormDef → List ℕ
head_printed form =
    codes "root " ++ form.root ++ codes " id [" ++ form.id ++ codes "] version [" ++ form.version ++ codes "];"

abbrev pub number_printed : ℕ → List ℕ
number_printed number = codes " " ++ decimal number

-- the numbers of fields in an order
abbrev pub order_printed : List ℕ → List ℕ
order_printed order = codes "order" ++ flat_map number_printed order
