-- Child elements that hold a text alone, as they are written.
use Rattle.std.specs.Prelude.{ℕ, ◌&&◌, Bool, List, ◌++◌, codes}
use Rattle.std.specs.List.{flat_map, list_all}
use Rattle.std.specs.Str.{bytes_eq, chars, is_utf8}
use Rattle.field_text.specs.Xml.{is_xml_char}
use Rattle.rosa_doc.specs.Escapes.{in_text}
use Rattle.rosa_nodes.specs.Trimming.{trimmed}

-- a child element: its name and its text
pub record Leaf : Type 0 where
  pub name : List ℕ
  pub text : List ℕ

abbrev pub leaf : List ℕ → List ℕ → Leaf
leaf name text = record { name = name; text = text }

abbrev pub start_text : List ℕ → List ℕ
start_text name = codes "<" ++ (name ++ codes ">")

abbrev pub end_text : List ℕ → List ℕ
end_text name = codes "</" ++ (name ++ codes ">")

unfoldable pub leaf_text : Leaf → List ℕ
leaf_text l = start_text l.name ++ (flat_map in_text (chars l.text) ++ end_text l.name)

-- a text that is written and read back as itself: of characters that a document may hold, and no white space at its
-- ends
abbrev pub is_plain : List ℕ → Bool
is_plain text = is_utf8 text && list_all is_xml_char (chars text) && bytes_eq (trimmed text) text
