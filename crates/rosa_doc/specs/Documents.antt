-- Which pieces are a document, and which tree they are: XML 1.0 (sections 2.1, 2.4 and 2.11) in a profile without
-- declarations. Comments and instructions vanish, adjacent text is joined, and the tree keeps local names.
use Rattle.std.specs.Prelude.{◌≡◌, ℕ, ◌==◌, Bool, true, false, if◌then◌else◌, List, [], ◌∷◌, ◌++◌, Option, Some, None}
use Rattle.std.specs.Prelude.{codes, encode_utf8_all}
use Rattle.std.specs.List.{list_all}
use Rattle.std.specs.Str.{bytes_eq, chars}
use Rattle.field_text.specs.Xml.{is_xml_space}
use Rattle.rosa_pieces.specs.declared.piece.Attribute.{Attribute as Written}
use Rattle.rosa_pieces.specs.declared.piece.Tag.{Tag}
use Rattle.rosa_pieces.specs.declared.piece.CharData.{CharData}
use Rattle.rosa_pieces.specs.declared.piece.CharData.TheVariants.{Literal, Reference}
use Rattle.rosa_pieces.specs.declared.piece.Piece.{Piece}
use Rattle.rosa_pieces.specs.declared.piece.Piece.TheVariants.{Start, Empty, End, Comment, Instruction, Data}
use Rattle.rosa_pieces.specs.Pieces.{is_return, read_char}
use Rattle.rosa_doc.specs.declared.tree.Attribute.{Attribute}
use Rattle.rosa_doc.specs.declared.tree.Element.{Element}
use Rattle.rosa_doc.specs.declared.tree.Node.{Node}
use Rattle.rosa_doc.specs.declared.tree.Node.TheVariants.{Child, Words}

-- `xmlns` and `xmlns:x` declare namespaces (Namespaces in XML 1.0, section 3)
abbrev pub declares_namespace : Option (List ℕ) → List ℕ → Bool
declares_namespace None local = bytes_eq local (codes "xmlns")
declares_namespace (Some prefix) local = bytes_eq prefix (codes "xmlns")

-- the attributes of the tree
abbrev pub kept : List Written → List Attribute
kept [] = []
kept (a ∷ others) = if declares_namespace a.name.prefix a.name.local then kept others
    else record { name = a.name.local; value = a.value } ∷ kept others

abbrev pub element_of : Tag → List Node → Element
element_of t children = record { name = t.name.local; attributes = kept t.attributes; children = children }

-- children, and the text behind them
abbrev pub with_words : List Node → List ℕ → List Node
with_words children [] = children
with_words children (b ∷ bs) = children ++ (Words (b ∷ bs) ∷ [])

-- a carriage return that stands for itself
abbrev pub is_return_piece : Piece → Bool
is_return_piece (Data d) = is_return d
is_return_piece (Start t) = false
is_return_piece (Empty t) = false
is_return_piece (End n) = false
is_return_piece Comment = false
is_return_piece Instruction = false

abbrev pub ends_in_return : List Piece → Bool
ends_in_return [] = false
ends_in_return (p ∷ []) = is_return_piece p
ends_in_return (p ∷ q ∷ ps) = ends_in_return (q ∷ ps)

-- Pieces inside an element are these children, and then this text: nothing, or content and behind it a comment, an
-- instruction, a character or an element.
pub data IsContent : List Piece → List Node → List ℕ → Type 0 where
  nothing : IsContent [] [] []
  comment : (ps : List Piece) (children : List Node) (words : List ℕ) → IsContent ps children words
      → IsContent (ps ++ (Comment ∷ [])) children words
  instruction : (ps : List Piece) (children : List Node) (words : List ℕ) → IsContent ps children words
      → IsContent (ps ++ (Instruction ∷ [])) children words
  character : (ps : List Piece) (children : List Node) (words : List ℕ) (d : CharData) → IsContent ps children words
      → IsContent (ps ++ (Data d ∷ [])) children (words ++ encode_utf8_all (read_char (ends_in_return ps) d))
  empty : (ps : List Piece) (children : List Node) (words : List ℕ) (t : Tag) → IsContent ps children words
      → IsContent (ps ++ (Empty t ∷ [])) (with_words children words ++ (Child (element_of t []) ∷ [])) []
  element : (ps : List Piece) (children : List Node) (words : List ℕ) (t : Tag) (inside : List Piece)
      (inner : List Node) (text : List ℕ) → IsContent ps children words → IsContent inside inner text
      → IsContent (ps ++ (Start t ∷ (inside ++ (End t.name ∷ []))))
      (with_words children words ++ (Child (element_of t (with_words inner text)) ∷ [])) []

-- an element: an empty-element tag, or content between a start tag and an end tag with the same name
pub data IsElement : List Piece → Element → Type 0 where
  empty_tag : (t : Tag) → IsElement (Empty t ∷ []) (element_of t [])
  tags : (t : Tag) (inside : List Piece) (inner : List Node) (text : List ℕ) → IsContent inside inner text
      → IsElement (Start t ∷ (inside ++ (End t.name ∷ []))) (element_of t (with_words inner text))

-- what may stand round the root
abbrev pub is_around : Piece → Bool
is_around Comment = true
is_around Instruction = true
is_around (Data (Literal c)) = is_xml_space c
is_around (Data (Reference c)) = false
is_around (Start t) = false
is_around (Empty t) = false
is_around (End n) = false

-- one element, and round it comments, instructions and white space
pub record IsDocument (ps : List Piece) (root : Element) : Type 0 where
  pub before : List Piece
  pub inside : List Piece
  pub after : List Piece
  pub before_is : list_all is_around before ≡ true
  pub inside_is : IsElement inside root
  pub after_is : list_all is_around after ≡ true
  pub parts : ps ≡ before ++ (inside ++ after)

-- the characters behind a byte order mark, where there is one at the start
abbrev pub past_mark : List ℕ → List ℕ
past_mark [] = []
past_mark (c ∷ cs) = if c == 0xFEFF then cs else c ∷ cs

abbrev pub body_of : List ℕ → List ℕ
body_of bytes = past_mark (chars bytes)
