-- The children of a model (ODK XForms, "Model") by the texts of their attributes.
use Rattle.std.specs.Prelude.{Bool, false, not, ◌&&◌, ◌||◌, if◌then◌else◌, List, [], ◌∷◌, ◌++◌, codes, Option, Some}
use Rattle.std.specs.Prelude.{None}
use Rattle.std.specs.List.{flat_map}
use Rattle.std.specs.Option.{option_map_or}
use Rattle.std.specs.Str.{bytes_eq}
use Rattle.form_def.specs.declared.field.Cell.{Cell}
use Rattle.rosa_doc.specs.declared.tree.Attribute.{Attribute}
use Rattle.rosa_doc.specs.declared.tree.Element.{Element}
use Rattle.rosa_doc.specs.declared.tree.Node.{Node}
use Rattle.form_outline.specs.declared.outline.Bind.{Bind}
use Rattle.form_outline.specs.declared.outline.TableContent.{TableContent}
use Rattle.form_outline.specs.declared.outline.TableContent.TheVariants.{Rows, Source, Nothing}
use Rattle.form_outline.specs.declared.outline.SetValue.{SetValue}
use Rattle.form_outline.specs.declared.outline.ModelPart.{ModelPart}
use Rattle.form_outline.specs.declared.outline.ModelPart.TheVariants as part
use Rattle.rosa_nodes.specs.Nodes.{words_of, has_elements, element_in, attribute_of, text_of_attribute}

abbrev pub bind_of : List Attribute → Bind
bind_of a = record {
  nodeset = text_of_attribute (codes "nodeset") a;
  data_type = attribute_of (codes "type") a;
  relevant = attribute_of (codes "relevant") a;
  constraint = attribute_of (codes "constraint") a;
  required = attribute_of (codes "required") a;
  readonly = attribute_of (codes "readonly") a;
  calculate = attribute_of (codes "calculate") a;
  saveto = attribute_of (codes "saveto") a;
}

-- an element without child elements is a cell
abbrev pub cell_of : Element → List Cell
cell_of e = if has_elements e.children then [] else record { column = e.name; value = words_of e.children } ∷ []

abbrev pub cells_in : Node → List Cell
cells_in n = option_map_or cell_of (element_in n) []

abbrev pub row_in : Node → List (List Cell)
row_in n = option_map_or (λ e. if bytes_eq e.name (codes "item") then flat_map cells_in e.children ∷ [] else [])
    (element_in n) []

abbrev pub rows_in : Node → List (List Cell)
rows_in n =
    option_map_or (λ e. if bytes_eq e.name (codes "root") then flat_map row_in e.children else []) (element_in n) []

-- the attribute is asked for only where the instance has no child elements
abbrev pub source_of : List Attribute → TableContent
source_of attributes = option_map_or Source (attribute_of (codes "src") attributes) Nothing

abbrev pub content_of : Element → TableContent
content_of e = if has_elements e.children then Rows (flat_map rows_in e.children) else source_of e.attributes

-- an instance without an `id` can't be named, and is left out
abbrev pub table_part : Element → List ModelPart
table_part e = option_map_or (λ id. part.Table (record { id = id; content = content_of e }) ∷ [])
    (attribute_of (codes "id") e.attributes) []

abbrev pub setvalue_of : List Attribute → SetValue
setvalue_of a = record {
  target = attribute_of (codes "ref") a;
  event = attribute_of (codes "event") a;
  value = attribute_of (codes "value") a;
}

abbrev pub is_instance : Element → Bool
is_instance e = bytes_eq e.name (codes "instance")

abbrev pub model_part : Element → List ModelPart
model_part e =
    if is_instance e then table_part e else
    if bytes_eq e.name (codes "bind") then part.Bind (bind_of e.attributes) ∷ [] else
    if bytes_eq e.name (codes "submission") then part.Submission (attribute_of (codes "auto-send") e.attributes) ∷ []
    else
    if bytes_eq e.name (codes "setvalue") then part.SetValue (setvalue_of e.attributes) ∷ [] else
    if bytes_eq e.name (codes "itext") then [] else part.Other e.name ∷ []

abbrev pub first_or_part : Bool → Element → List ModelPart
first_or_part has_primary e = if is_instance e && not has_primary then part.Primary ∷ [] else model_part e

abbrev pub has_instance : Bool → Option Element → Bool
has_instance has_primary None = has_primary
has_instance has_primary (Some e) = has_primary || is_instance e

-- the parts behind those among which the primary instance was, or was not
abbrev pub parts_behind : Bool → List Node → List ModelPart
parts_behind has_primary [] = []
parts_behind has_primary (n ∷ ns) = option_map_or (first_or_part has_primary) (element_in n) []
    ++ parts_behind (has_instance has_primary (element_in n)) ns

abbrev pub model_of : List Node → List ModelPart
model_of nodes = parts_behind false nodes
