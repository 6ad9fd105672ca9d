-- Texts without the white space at their ends.
use Rattle.std.specs.Prelude.{ℕ, if◌then◌else◌, List, [], ◌∷◌, reverse}
use Rattle.std.specs.Option.{option_map_or}
use Rattle.field_text.specs.Xml.{is_xml_space}
use Rattle.rosa_doc.specs.declared.tree.Node.{Node}
use Rattle.rosa_nodes.specs.Nodes.{child_named, words_of}

abbrev pub trimmed_front : List ℕ → List ℕ
trimmed_front [] = []
trimmed_front (c ∷ cs) = if is_xml_space c then trimmed_front cs else c ∷ cs

abbrev pub trimmed_back : List ℕ → List ℕ
trimmed_back text = reverse (trimmed_front (reverse text))

abbrev pub trimmed : List ℕ → List ℕ
trimmed text = trimmed_back (trimmed_front text)

-- the trimmed text of the first child element of a name, empty where there is none
abbrev pub text_of_child : List ℕ → List Node → List ℕ
text_of_child name nodes = option_map_or (λ e. trimmed (words_of e.children)) (child_named name nodes) []
