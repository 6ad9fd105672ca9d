-- The reader's stack, piece by piece. Laws join it to the documents.
use Rattle.std.specs.Prelude.{ℕ, ◌+◌, length, Bool, if◌then◌else◌, List, [], ◌∷◌, ◌++◌, Option, Some, None}
use Rattle.std.specs.Prelude.{encode_utf8_all}
use Rattle.rosa_pieces.specs.declared.piece.Tag.{Tag}
use Rattle.rosa_pieces.specs.declared.piece.CharData.{CharData}
use Rattle.rosa_pieces.specs.declared.piece.Piece.{Piece}
use Rattle.rosa_pieces.specs.declared.piece.Piece.TheVariants.{Start, Empty, End, Comment, Instruction, Data}
use Rattle.rosa_pieces.specs.Pieces.{same_name, read_char}
use Rattle.rosa_doc.specs.declared.tree.Element.{Element}
use Rattle.rosa_doc.specs.declared.tree.Node.{Node}
use Rattle.rosa_doc.specs.declared.tree.Node.TheVariants.{Child}
use Rattle.rosa_doc.specs.Documents.{element_of, with_words, is_return_piece, is_around}

-- an element whose end tag is still to come
pub record Level : Type 0 where
  pub tag : Tag
  pub children : List Node
  pub words : List ℕ

pub data State : Type 0 where
  Before : State
  Within : Level → List Level → State
  After : Element → State

abbrev pub opened : Tag → Level
opened t = record { tag = t; children = []; words = [] }

abbrev pub closed : Level → Element
closed l = element_of l.tag (with_words l.children l.words)

abbrev pub with_child : Level → Element → Level
with_child l e = record { tag = l.tag; children = with_words l.children l.words ++ (Child e ∷ []); words = [] }

abbrev pub with_char : Level → Bool → CharData → Level
with_char l after_return d =
    record { tag = l.tag; children = l.children; words = l.words ++ encode_utf8_all (read_char after_return d) }

-- the element that ends is the root, or a child of the level round it
abbrev pub leave : Element → List Level → State
leave e [] = After e
leave e (outer ∷ others) = Within (with_child outer e) others

abbrev pub step_around : State → Piece → Option State
step_around s p = if is_around p then Some s else None

abbrev pub step : State → Bool → Piece → Option State
step Before after_return (Start t) = Some (Within (opened t) [])
step Before after_return (Empty t) = Some (After (element_of t []))
step Before after_return (End n) = None
step Before after_return Comment = Some Before
step Before after_return Instruction = Some Before
step Before after_return (Data d) = step_around Before (Data d)
step (Within top outer) after_return (Start t) = Some (Within (opened t) (top ∷ outer))
step (Within top outer) after_return (Empty t) = Some (Within (with_child top (element_of t [])) outer)
step (Within top outer) after_return (End n) =
    if same_name n top.tag.name then Some (leave (closed top) outer) else None
step (Within top outer) after_return Comment = Some (Within top outer)
step (Within top outer) after_return Instruction = Some (Within top outer)
step (Within top outer) after_return (Data d) = Some (Within (with_char top after_return d) outer)
step (After root) after_return p = step_around (After root) p

abbrev pub next : (State → Bool → Option State) → Piece → Option State → Option State
next others p None = None
next others p (Some s) = others s (is_return_piece p)

abbrev pub run : List Piece → State → Bool → Option State
run [] s after_return = Some s
run (p ∷ ps) s after_return = next (λ t r. run ps t r) p (step s after_return p)

-- how many elements are open
abbrev pub depth_of : State → ℕ
depth_of Before = 0
depth_of (Within top outer) = length outer + 1
depth_of (After root) = 0
