-- Trees of which each element's name is a local name (Namespaces in XML 1.0, section 3), its characters in UTF-8.
use Rattle.std.specs.Prelude.{ℕ, List, Bool, true, ◌&&◌}
use Rattle.std.specs.List.{list_all}
use Rattle.std.specs.Str.{is_utf8, chars}
use Rattle.field_text.specs.Xml.{is_local_name}
use Rattle.rosa_doc.specs.declared.tree.Element.{Element}
use Rattle.rosa_doc.specs.declared.tree.Node.{Node}
use Rattle.rosa_doc.specs.declared.tree.Node.TheFolds.{fold-Element, fold-Node}
use Rattle.rosa_doc.specs.declared.tree.Node.TheOpen.{Element-F, Node-F}

abbrev pub spells_local_name : List ℕ → Bool
spells_local_name name = is_utf8 name && is_local_name (chars name)

-- an element with this answer for each of its children
abbrev pub element_with_children : Element-F Bool Bool → Bool
element_with_children e = spells_local_name e.name && list_all (λ b. b) e.children

-- a child is answered as the element is; words have no name
abbrev pub node_with_element : Node-F Bool Bool → Bool
node_with_element (Node-F.Child answer) = answer
node_with_element (Node-F.Words text) = true

abbrev pub has_local_names : Element → Bool
has_local_names = fold-Element Bool Bool node_with_element element_with_children

abbrev pub node_has_local_names : Node → Bool
node_has_local_names = fold-Node Bool Bool node_with_element element_with_children
