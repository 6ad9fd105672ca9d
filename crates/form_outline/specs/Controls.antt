-- The controls of a body (ODK XForms, "Body") in document order, also those inside groups.
use Rattle.std.specs.Prelude.{ℕ, Bool, ◌||◌, if◌then◌else◌, List, [], ◌∷◌, codes, Option, option_map, option_and_then}
use Rattle.std.specs.List.{flat_map}
use Rattle.std.specs.Option.{option_map_or}
use Rattle.std.specs.Str.{bytes_eq}
use Rattle.rosa_doc.specs.declared.tree.Element.{Element}
use Rattle.rosa_doc.specs.declared.tree.Node.{Node}
use Rattle.form_outline.specs.declared.outline.ItemsetPart.{ItemsetPart}
use Rattle.form_outline.specs.declared.outline.ControlPart.{ControlPart}
use Rattle.form_outline.specs.declared.outline.ControlPart.TheVariants.{Item, Itemset, Other}
use Rattle.form_outline.specs.declared.outline.Control.{Control}
use Rattle.rosa_nodes.specs.Nodes.{words_of, element_in, child_named, attribute_of, text_of_attribute}
use Rattle.form_outline.specs.Trees.{gathered}

abbrev pub is_label : Element → Bool
is_label e = bytes_eq e.name (codes "label") || bytes_eq e.name (codes "hint")

-- the text of an item's first `value`
abbrev pub item_value : Element → Option (List ℕ)
item_value e = option_map (λ v. words_of v.children) (child_named (codes "value") e.children)

-- the column that the first `value` of an itemset names
abbrev pub itemset_value : Element → Option (List ℕ)
itemset_value e =
    option_and_then (λ v. attribute_of (codes "ref") v.attributes) (child_named (codes "value") e.children)

abbrev pub itemset_of : Element → ItemsetPart
itemset_of e = record { nodeset = text_of_attribute (codes "nodeset") e.attributes; value = itemset_value e }

abbrev pub part_of : Element → ControlPart
part_of e =
    if bytes_eq e.name (codes "item") then Item (item_value e) else
    if bytes_eq e.name (codes "itemset") then Itemset (itemset_of e) else Other e.name

abbrev pub part_in : Node → List ControlPart
part_in n = option_map_or (λ e. if is_label e then [] else part_of e ∷ []) (element_in n) []

abbrev pub control_of : Element → Control
control_of e = record {
  name = e.name;
  target = text_of_attribute (codes "ref") e.attributes;
  parts = flat_map part_in e.children;
}

-- a group's controls are those inside it
abbrev pub controls_below : Element → List (List Control) → List Control
controls_below e inside = if bytes_eq e.name (codes "group") then flat_map (λ controls. controls) inside
    else if is_label e then [] else control_of e ∷ []

abbrev pub controls_in : Node → List Control
controls_in n = gathered (List Control) [] controls_below n

abbrev pub controls_of : List Node → List Control
controls_of nodes = flat_map controls_in nodes
