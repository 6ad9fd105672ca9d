-- Tags and attributes as they are written.
use Rattle.std.specs.Prelude.{ℕ, List, [], ◌∷◌, ◌++◌, codes, encode_utf8_all}
use Rattle.std.specs.List.{flat_map}
use Rattle.std.specs.Str.{chars}
use Rattle.rosa_doc.specs.Escapes.{in_text, in_value}
use Rattle.rosa_nodes.specs.Writing.{end_text, start_text}

-- the characters of a name in UTF-8
abbrev pub in_utf8 : List ℕ → List ℕ
in_utf8 name = encode_utf8_all (chars name)

-- a text between tags
abbrev pub escaped : List ℕ → List ℕ
escaped text = flat_map in_text (chars text)

abbrev pub start_tag : List ℕ → List ℕ
start_tag name = start_text (in_utf8 name)

abbrev pub end_tag : List ℕ → List ℕ
end_tag name = end_text (in_utf8 name)

-- an element of this name round what stands inside, which is one tag where that is nothing
abbrev pub element : List ℕ → List ℕ → List ℕ
element name [] = codes "<" ++ (in_utf8 name ++ codes "/>")
element name (b ∷ bs) = start_tag name ++ ((b ∷ bs) ++ end_tag name)

-- a value between its quotes
abbrev pub quoted : List ℕ → List ℕ
quoted value = codes "=\"" ++ (flat_map in_value (chars value) ++ codes "\"")

abbrev pub attribute : List ℕ → List ℕ → List ℕ
attribute name value = codes " " ++ (in_utf8 name ++ quoted value)
