-- What is gathered from a tree: for a node, from the element that it is and from what was gathered from that one's
-- children.
use Rattle.std.specs.Prelude.{List, map}
use Rattle.rosa_doc.specs.declared.tree.Element.{Element}
use Rattle.rosa_doc.specs.declared.tree.Element.{Element-F}
use Rattle.rosa_doc.specs.declared.tree.Node.{Node, fold-Node}
use Rattle.rosa_doc.specs.declared.tree.Node.TheOpen.{Node-F}
use Rattle.rosa_doc.specs.declared.tree.Node.TheVariants.{Child, Words}

-- the element, and what is gathered from it
abbrev pub of_layer : {V : Type 0} → (Element → List V → V) → Element-F (Node × V) (Element × V) → Element × V
of_layer of_element x =
    let whole : Element = record {
      name = x.name;
      attributes = x.attributes;
      children = map (λ n. n.0) x.children;
    } in (whole, of_element whole (map (λ n. n.1) x.children))

abbrev pub of_node_layer : {V : Type 0} → V → Node-F (Node × V) (Element × V) → Node × V
of_node_layer of_words (Node-F.Child e) = (Child e.0, e.1)
of_node_layer of_words (Node-F.Words text) = (Words text, of_words)

abbrev pub gathered_with : (V : Type 0) → V → (Element → List V → V) → Node → Node × V
gathered_with V of_words of_element = fold-Node (Node × V) (Element × V) (of_node_layer of_words) (of_layer of_element)

unfoldable pub gathered : (V : Type 0) → V → (Element → List V → V) → Node → V
gathered V of_words of_element n = (gathered_with V of_words of_element n).1
