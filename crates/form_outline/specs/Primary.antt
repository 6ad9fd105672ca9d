-- The fields of the primary instance (ODK XForms, "Primary Instance"): every element below its root, in document
-- order. In `meta` only the name of the instance and the entity are fields.
use Rattle.std.specs.Prelude.{ℕ, Bool, false, if◌then◌else◌, List, [], ◌∷◌, ◌++◌, codes, option_map}
use Rattle.std.specs.List.{flat_map}
use Rattle.std.specs.Option.{option_to_list, option_map_or}
use Rattle.std.specs.Str.{bytes_eq}
use Rattle.rosa_doc.specs.declared.tree.Attribute.{Attribute}
use Rattle.rosa_doc.specs.declared.tree.Element.{Element}
use Rattle.rosa_doc.specs.declared.tree.Node.{Node}
use Rattle.form_outline.specs.declared.outline.PrimaryField.{PrimaryField}
use Rattle.form_outline.specs.declared.outline.EntityPart.{EntityPart}
use Rattle.form_outline.specs.declared.outline.PrimaryPart.{PrimaryPart}
use Rattle.form_outline.specs.declared.outline.PrimaryPart.TheVariants.{Field, Meta, Entity}
use Rattle.rosa_nodes.specs.Nodes.{words_of, has_elements, element_in, attribute_of}
use Rattle.form_outline.specs.Trees.{gathered}

-- the path of a child
abbrev pub path_below : List ℕ → List ℕ → List ℕ
path_below parent name = parent ++ 47 ∷ name

-- the path of an attribute
abbrev pub path_of_attribute : List ℕ → List ℕ → List ℕ
path_of_attribute parent name = parent ++ codes "/@" ++ name

abbrev pub initial_of : Element → List ℕ
initial_of e = if has_elements e.children then [] else words_of e.children

abbrev pub field_at : List ℕ → Element → PrimaryField
field_at path e = record { path = path; initial = initial_of e; is_group = has_elements e.children }

-- an element is a field, and so are the elements below it
abbrev pub parts_below : Element → List (List ℕ → List PrimaryPart) → List ℕ → List PrimaryPart
parts_below e children parent =
    Field (field_at (path_below parent e.name) e) ∷ flat_map (λ parts. parts (path_below parent e.name)) children

abbrev pub no_parts : List ℕ → List PrimaryPart
no_parts parent = []

abbrev pub parts_of : List ℕ → Node → List PrimaryPart
parts_of parent n = gathered (List ℕ → List PrimaryPart) no_parts parts_below n parent

-- the field that an attribute of the entity is
abbrev pub attribute_field : List ℕ → List ℕ → List ℕ → PrimaryField
attribute_field path name value = record { path = path_of_attribute path name; initial = value; is_group = false }

abbrev pub attribute_fields : List ℕ → List Attribute → List ℕ → List PrimaryField
attribute_fields path attributes name =
    option_to_list (option_map (attribute_field path name) (attribute_of name attributes))

abbrev pub label_in : List ℕ → Node → List PrimaryField
label_in path n = option_map_or (λ e. if bytes_eq e.name (codes "label") then field_at (path_below path e.name) e ∷ []
    else []) (element_in n) []

-- its attributes in this order, as far as it has them, and then its label
abbrev pub entity_fields : List ℕ → List Attribute → List Node → List PrimaryField
entity_fields path attributes nodes =
    attribute_fields path attributes (codes "id") ++ attribute_fields path attributes (codes "create")
    ++ attribute_fields path attributes (codes "update")
    ++ attribute_fields path attributes (codes "baseVersion")
    ++ attribute_fields path attributes (codes "trunkVersion") ++ attribute_fields path attributes (codes "branchId")
    ++ flat_map (label_in path) nodes

abbrev pub entity_part : List ℕ → Element → EntityPart
entity_part path e = record {
  dataset = attribute_of (codes "dataset") e.attributes;
  fields = entity_fields path e.attributes e.children;
}

abbrev pub meta_part : List ℕ → Element → List PrimaryPart
meta_part path e =
    if bytes_eq e.name (codes "instanceName") then Meta (field_at (path_below path e.name) e) ∷ [] else
    if bytes_eq e.name (codes "entity") then Entity (entity_part (path_below path e.name) e) ∷ [] else []

abbrev pub meta_parts : List ℕ → Node → List PrimaryPart
meta_parts path n = option_map_or (meta_part path) (element_in n) []

abbrev pub is_meta : Element → Bool
is_meta e = bytes_eq e.name (codes "meta")

-- what a child of the primary instance's root holds
abbrev pub primary_part : List ℕ → Node → List PrimaryPart
primary_part root n = option_map_or (λ e. if is_meta e then flat_map (meta_parts (path_below root e.name)) e.children
    else parts_of root n) (element_in n) []

-- the root's path is its name behind a slash
abbrev pub primary_of : Element → List PrimaryPart
primary_of root = flat_map (primary_part (path_below [] root.name)) root.children
