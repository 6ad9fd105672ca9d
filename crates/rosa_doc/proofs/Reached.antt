-- What the reader's loop keeps.
use Rattle.std.proofs.Common.{◌≡◌, ℕ, ◌<◌, Bool, true, false, List, [], ◌∷◌, ◌++◌, length, Option, Some, refl, sym, ap, ◌∙◌, arith}
use Rattle.std.specs.Prelude.{option_map}
use Rattle.std.proofs.lemmas.List.{length-append}
use Rattle.rosa_pieces.specs.declared.piece.Piece.{Piece}
use Rattle.rosa_pieces.specs.Pieces.{IsPiece}
use Rattle.rosa_doc.specs.Documents.{is_return_piece}
use Rattle.rosa_doc.specs.Refusals.{opens}
use Rattle.rosa_doc.specs.Machine.{State, Before, step, depth_of}
use Rattle.rosa_doc.specs.Reading.{HasReached}
use Rattle.rosa_doc.proofs.Runs.{run_snoc, runs_depth, ends_last, step_low}
use Rattle.rosa_doc.proofs.Firsts.{first_snoc, shallow_nil, shallow_snoc, piece_is_long}

pub reached_start : (cs : List ℕ) → HasReached cs Before false cs
reached_start cs = record { pieces = []; first = record { spelled = []; spells = refl; parts = refl }; runs = refl; flag = refl; shallow = shallow_nil; low = omega arith }

pub reached_more : (cs rest after : List ℕ) (s t : State) (r : Bool) (p : Piece) (x : List ℕ) → HasReached cs s r rest → IsPiece p x → rest ≡ x ++ after → step s r p ≡ Some t → (opens p ≡ true → depth_of s < 16) → HasReached cs t (is_return_piece p) after
reached_more cs rest after s t r p x h k e stepped low = record {
  pieces = h.pieces ++ (p ∷ []);
  first = first_snoc h.pieces p cs rest x after h.first k e;
  runs = run_snoc h.pieces p s (Some t) h.runs (sym (ap (λ (b : Bool). step s b p) h.flag) ∙ stepped);
  flag = sym (ends_last h.pieces p);
  shallow = shallow_snoc h.pieces p h.shallow (λ o. let d = runs_depth h.pieces s h.runs in let l = low o in omega (arith, d, l));
  low = step_low s r p t stepped low h.low;
}

pub rest_is_shorter : (rest after : List ℕ) (p : Piece) (x : List ℕ) → IsPiece p x → rest ≡ x ++ after → length after < length rest
rest_is_shorter rest after p [] k e = absurd (piece_is_long p [] k refl)
rest_is_shorter rest after p (c ∷ x) k e = omega (arith, ap length e, length-append (c ∷ x) after)

-- what a step's option says
pub stepped_to : {X : Type 0} (view : X → State) (o : Option X) (x : X) (e : Option State) → o ≡ Some x → option_map view o ≡ e → e ≡ Some (view x)
stepped_to view o x e is h = sym h ∙ ap (option_map view) is

pub opens_low : (s : State) (p : Piece) (o : Bool) → o ≡ opens p → o ≡ false → opens p ≡ true → depth_of s < 16
opens_low s p o is no_open opening = absurd (let both : true ≡ false = sym opening ∙ sym is ∙ no_open in cc)
