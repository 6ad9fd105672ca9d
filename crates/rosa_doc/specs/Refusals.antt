-- Documents within the limits, and which refusal comes in place of one. A list of first pieces is refused as soon as no
-- document, however deep, begins with it.
use Rattle.std.specs.Prelude.{◌≡◌, ◌≢◌, ℕ, ◌+◌, ◌-◌, ◌<◌, ◌≤◌, Bool, true, false, List, [], ◌∷◌, ◌++◌, Result, Ok}
use Rattle.std.specs.Prelude.{Err, codes, length, count_by, nat_eq, encode_utf8_all}
use Rattle.std.specs.List.{starts_with}
use Rattle.std.specs.Str.{IsUtf8, IsValidUpTo}
use Rattle.rosa_pieces.specs.declared.piece.Piece.{Piece}
use Rattle.rosa_pieces.specs.declared.piece.Piece.TheVariants.{Start, Empty, End, Comment, Instruction, Data}
use Rattle.rosa_pieces.specs.Pieces.{Spelled, IsPiece}
use Rattle.rosa_doc.specs.declared.tree.Element.{Element}
use Rattle.rosa_doc.specs.declared.tree.Doc.{Doc}
use Rattle.rosa_doc.specs.declared.refusal.DocRefused.{DocRefused}
use Rattle.rosa_doc.specs.declared.refusal.DocRefused.TheVariants as refusals
use Rattle.rosa_doc.specs.Documents.{IsDocument, body_of}

-- these are the first pieces of the characters, and rest follows them
pub record AreFirst (ps : List Piece) (cs rest : List ℕ) : Type 0 where
  pub spelled : List ℕ
  pub spells : Spelled IsPiece ps spelled
  pub parts : cs ≡ spelled ++ rest

-- some document begins with these pieces
pub record BeginDocument (ps : List Piece) : Type 0 where
  pub more : List Piece
  pub root : Element
  pub whole : IsDocument (ps ++ more) root

-- the longest list of first pieces with which some document begins
pub record AreLongest (ps : List Piece) (cs rest : List ℕ) : Type 0 where
  pub first : AreFirst ps cs rest
  pub begin : BeginDocument ps
  pub longest : (others : List Piece) (r : List ℕ) → AreFirst others cs r → BeginDocument others
      → length others ≤ length ps

abbrev pub is_start : Piece → Bool
is_start (Start t) = true
is_start (Empty t) = false
is_start (End n) = false
is_start Comment = false
is_start Instruction = false
is_start (Data d) = false

abbrev pub is_end : Piece → Bool
is_end (Start t) = false
is_end (Empty t) = false
is_end (End n) = true
is_end Comment = false
is_end Instruction = false
is_end (Data d) = false

-- an element begins
abbrev pub opens : Piece → Bool
opens (Start t) = true
opens (Empty t) = true
opens (End n) = false
opens Comment = false
opens Instruction = false
opens (Data d) = false

-- how many elements are open behind these pieces
abbrev pub depth : List Piece → ℕ
depth ps = count_by is_start ps - count_by is_end ps

-- no element among them begins at a level above 16
abbrev pub AreShallow : List Piece → Type 0
AreShallow ps = (earlier : List Piece) (p : Piece) (later : List Piece) → ps ≡ earlier ++ (p ∷ later) → opens p ≡ true
    → depth earlier < 16

-- behind these first pieces, with which some document begins, an element begins at level 17, the first one so deep
pub record IsDeep (cs rest : List ℕ) : Type 0 where
  pub before : List Piece
  pub tag : Piece
  pub after : List ℕ
  pub first : AreFirst before cs rest
  pub with_tag : AreFirst (before ++ (tag ∷ [])) cs after
  pub begin : BeginDocument (before ++ (tag ∷ []))
  pub opening : opens tag ≡ true
  pub level : depth before ≡ 16
  pub shallow : AreShallow before

abbrev pub is_doctype : List ℕ → Bool
is_doctype rest = starts_with nat_eq rest (codes "<!DOCTYPE")

abbrev pub longest_document : ℕ
longest_document = 262144

-- rest stands at this place of the bytes
abbrev pub IsPlace : List ℕ → List ℕ → ℕ → Type 0
IsPlace bytes rest at = at + length (encode_utf8_all rest) ≡ length bytes

-- bytes that may be read as pieces
abbrev pub IsText : List ℕ → Type 0
IsText bytes = (length bytes ≤ longest_document) × IsUtf8 bytes

-- the bytes spell the document, within the limits
pub record IsDoc (bytes : List ℕ) (doc : Doc) : Type 0 where
  pub pieces : List Piece
  pub text : IsText bytes
  pub spells : Spelled IsPiece pieces (body_of bytes)
  pub shallow : AreShallow pieces
  pub document : IsDocument pieces doc.root

-- the pieces can't go on at rest, and no element among them is too deep
pub record Stops (bytes : List ℕ) (at : ℕ) (ps : List Piece) (rest : List ℕ) : Type 0 where
  pub text : IsText bytes
  pub longest : AreLongest ps (body_of bytes) rest
  pub shallow : AreShallow ps
  pub place : IsPlace bytes rest at

-- the refusal of the bytes, of which want of memory says nothing
abbrev pub Refuses : List ℕ → DocRefused → Type 0
Refuses bytes (refusals.TooLong n) = (longest_document < length bytes) × (n ≡ length bytes)
Refuses bytes (refusals.NotUtf8 at) = (length bytes ≤ longest_document) × IsValidUpTo bytes at
Refuses bytes (refusals.TooDeep at) =
    (rest : List ℕ) × IsText bytes × IsDeep (body_of bytes) rest × IsPlace bytes rest at
Refuses bytes (refusals.Unclosed at) =
    (ps : List Piece) × Stops bytes at ps [] × ((root : Element) → IsDocument ps root → ⊥)
Refuses bytes (refusals.HasDoctype at) =
    (ps : List Piece) × (rest : List ℕ) × Stops bytes at ps rest × (is_doctype rest ≡ true)
Refuses bytes (refusals.BadMarkup at) =
    (ps : List Piece) × (rest : List ℕ) × Stops bytes at ps rest × (rest ≢ []) × (is_doctype rest ≡ false)
Refuses bytes refusals.NoMemory = Unit {0}

-- what the bytes are read as: the document that they spell, or their refusal; want of memory is neither
abbrev pub ReadsAs : List ℕ → Result Doc DocRefused → Type 0
ReadsAs bytes (Ok doc) = IsDoc bytes doc
ReadsAs bytes (Err refusal) = Refuses bytes refusal × (refusal ≢ refusals.NoMemory)
