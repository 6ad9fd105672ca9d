-- Where the reader stands and where it stops.
use Rattle.std.specs.Prelude.{◌≡◌, ◌≤◌, ℕ, Bool, true, false, List, ◌++◌, Some, None, Result, Ok, Err, if◌then◌else◌}
use Rattle.rosa_pieces.specs.declared.piece.Piece.{Piece}
use Rattle.rosa_pieces.specs.Pieces.{IsPiece}
use Rattle.rosa_doc.specs.declared.progress.Progress.{Progress}
use Rattle.rosa_doc.specs.declared.progress.Progress.TheVariants as at
use Rattle.rosa_doc.specs.declared.reader.Ending.{Ending}
use Rattle.rosa_doc.specs.declared.reader.Ending.TheVariants.{Deep, Stuck, End}
use Rattle.rosa_doc.specs.Documents.{ends_in_return}
use Rattle.rosa_doc.specs.Frames.{level_of, levels_of}
use Rattle.rosa_doc.specs.declared.tree.Doc.{Doc}
use Rattle.rosa_doc.specs.declared.refusal.DocRefused.{DocRefused}
use Rattle.rosa_doc.specs.declared.refusal.DocRefused.TheVariants.{Unclosed, HasDoctype, BadMarkup}
use Rattle.rosa_doc.specs.Refusals.{AreFirst, AreShallow, opens, is_doctype}
use Rattle.rosa_doc.specs.Machine.{State, Before, Within, After, step, run, depth_of}

abbrev pub state_of : Progress → State
state_of at.Before = Before
state_of (at.Within top outer) = Within (level_of top) (levels_of outer.items)
state_of (at.After root) = After root

-- the reader has read some first pieces, and stands before rest
pub record HasReached (cs : List ℕ) (s : State) (after_return : Bool) (rest : List ℕ) : Type 0 where
  pub pieces : List Piece
  pub first : AreFirst pieces cs rest
  pub runs : run pieces Before false ≡ Some s
  pub flag : after_return ≡ ends_in_return pieces
  pub shallow : AreShallow pieces
  pub low : depth_of s ≤ 16

-- the reader stops before a start tag at level 17, or before a piece that can't stand there, or where no piece begins
abbrev pub Stopped : List ℕ → Ending → List ℕ → Type 0
Stopped cs Deep rest = (s : State) × (r : Bool) × HasReached cs s r rest × (depth_of s ≡ 16) × (p : Piece)
    × (x : List ℕ) × (w : List ℕ) × IsPiece p x × (rest ≡ x ++ w) × (opens p ≡ true)
Stopped cs Stuck rest = (s : State) × (r : Bool) × HasReached cs s r rest × (p : Piece) × (x : List ℕ) × (w : List ℕ)
    × IsPiece p x × (rest ≡ x ++ w) × (step s r p ≡ None)
Stopped cs (End progress) rest = (r : Bool) × HasReached cs (state_of progress) r rest
    × ((p : Piece) (x w : List ℕ) → IsPiece p x → rest ≡ x ++ w → ⊥)

-- what is answered where the reader stops at the end, and where it stops before rest
abbrev pub ended_at : State → ℕ → Result Doc DocRefused
ended_at Before place = Err (Unclosed place)
ended_at (Within top outer) place = Err (Unclosed place)
ended_at (After root) place = Ok (record { root = root })

abbrev pub refused_before : ℕ → List ℕ → DocRefused
refused_before place rest = if is_doctype rest then HasDoctype place else BadMarkup place
