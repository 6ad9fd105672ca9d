-- What a child element, and what words, are as nodes.
use Rattle.std.proofs.Common.{◌≡◌, ℕ, List, Some, rules}
use Rattle.rosa_doc.specs.declared.tree.Element.{Element}
use Rattle.rosa_doc.specs.declared.tree.Node.{out-Node}
use Rattle.rosa_doc.specs.declared.tree.Node.TheViews.{the_lemmas}
use Rattle.rosa_doc.specs.declared.tree.Node.TheVariants.{Child, Words}
use Rattle.rosa_nodes.specs.Nodes.{element_in, words_of_layer}

pub element_in-Child : (e : Element) → element_in (Child e) ≡ Some e
element_in-Child e = search (rules, the_lemmas)

pub words_in-Words : (text : List ℕ) → words_of_layer (out-Node (Words text)) ≡ text
words_in-Words text = search (rules, the_lemmas)
