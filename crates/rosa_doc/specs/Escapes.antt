-- How a character is written between tags and in a value (XML 1.0, sections 2.4 and 3.3.3), so that it reads back.
use Rattle.std.specs.Prelude.{◌≡◌, ℕ, ◌==◌, if◌then◌else◌, List, [], ◌∷◌, ◌++◌, codes, encode_utf8, encode_utf8_all}
use Rattle.field_text.specs.Xml.{xml_char_of}
use Rattle.rosa_pieces.specs.declared.piece.Piece.{Piece}
use Rattle.rosa_pieces.specs.Pieces.{Spelled, IsPiece, IsValue}
use Rattle.rosa_doc.specs.Documents.{IsContent}

abbrev pub in_text : ℕ → List ℕ
in_text c = if c == 38 then codes "&amp;" else if c == 60 then codes "&lt;" else if c == 62 then codes "&gt;"
    else if c == 13 then codes "&#13;" else encode_utf8 (xml_char_of c)

abbrev pub in_value : ℕ → List ℕ
in_value c =
    if c == 34 then codes "&quot;" else if c == 9 then codes "&#9;" else if c == 10 then codes "&#10;" else in_text c

-- the bytes spell pieces that are, inside an element, this text and no child
pub record TextReadsAs (text bytes : List ℕ) : Type 0 where
  pub pieces : List Piece
  pub spelled : List ℕ
  pub spells : Spelled IsPiece pieces spelled
  pub content : IsContent pieces [] (encode_utf8_all text)
  pub utf8 : encode_utf8_all spelled ≡ bytes

-- the bytes spell, between double quotes, a value that is this text
pub record ValueReadsAs (text bytes : List ℕ) : Type 0 where
  pub inside : List ℕ
  pub value : IsValue (encode_utf8_all text) (34 ∷ (inside ++ (34 ∷ [])))
  pub utf8 : encode_utf8_all inside ≡ bytes
