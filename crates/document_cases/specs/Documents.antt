-- What is printed of a document.
use Rattle.std.specs.Prelude.{ℕ, List, ◌++◌, codes}
use Rattle.std.specs.List.{flat_map}
use Rattle.rosa_doc.specs.declared.tree.Attribute.{Attribute}
use Rattle.rosa_doc.specs.declared.tree.Element.{Element}
use Rattle.rosa_doc.specs.declared.tree.Node.{Node, out-Node}
use Rattle.rosa_doc.specs.declared.tree.Node.TheOpen.{Node-F}

abbrev pub attribute_printed : Attribute → List ℕ
attribute_printed attribute = codes " " ++ attribute.name ++ codes "=" ++ attribute.value

abbrev pub layer_printed : Node-F Node Element → List ℕ
layer_printed (Node-F.Child element) = codes "<" ++ element.name ++ codes ">"
layer_printed (Node-F.Words text) = codes "[" ++ text ++ codes "]"

-- a text between square brackets, an element by its name
abbrev pub node_printed : Node → List ℕ
node_printed node = layer_printed (out-Node node)

-- the root's name, its attributes, and its children
abbrev pub root_printed : Element → List ℕ
root_printed root = root.name ++ flat_map attribute_printed root.attributes ++ flat_map node_printed root.children
