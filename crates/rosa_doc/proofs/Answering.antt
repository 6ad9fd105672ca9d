-- What the reader answers where it stops.
use Rattle.std.proofs.Common.{◌≡◌, ◌≢◌, ℕ, ◌≤◌, Bool, true, false, cond, List, [], ◌∷◌, ◌++◌, length, Some, None, Result, Ok, Err, refl, sym, ap, subst, ◌∙◌, arith, encode_utf8_all, ◌==◌, encode_utf8}
use Rattle.std.specs.Prelude.{IfOk, IfErr}
use Rattle.std.specs.Str.{chars, IsUtf8}
use Rattle.std.proofs.lemmas.List.{append-nil, length-append}
use Rattle.std.proofs.lemmas.Str.{encodes-append, encodes-chars}
use Rattle.std.proofs.lemmas.Bool.{eqb-true, eq-eqb}
use Rattle.rosa_pieces.specs.declared.piece.Piece.{Piece}
use Rattle.rosa_pieces.specs.Pieces.{Spelled, IsPiece}
use Rattle.rosa_doc.specs.declared.tree.Element.{Element}
use Rattle.rosa_doc.specs.declared.tree.Doc.{Doc}
use Rattle.rosa_doc.specs.declared.refusal.DocRefused.{DocRefused}
use Rattle.rosa_doc.specs.declared.refusal.DocRefused.TheVariants as refusals
use Rattle.rosa_doc.specs.declared.progress.Progress.{Progress}
use Rattle.rosa_doc.specs.declared.reader.Ending.{Ending}
use Rattle.rosa_doc.specs.declared.reader.Ending.TheVariants.{Deep, Stuck, End}
use Rattle.rosa_doc.specs.Documents.{IsDocument, ends_in_return, past_mark, body_of}
use Rattle.rosa_doc.specs.Refusals.{AreFirst, IsDeep, IsText, IsDoc, IsPlace, Stops, Refuses, ReadsAs, opens, is_doctype}
use Rattle.rosa_doc.specs.Machine.{Level, State, Before, Within, After, opened, with_child, step, run, depth_of}
use Rattle.rosa_doc.specs.Documents.{element_of}
use Rattle.rosa_doc.specs.Reading.{HasReached, Stopped, state_of, ended_at, refused_before}
use Rattle.rosa_pieces.specs.declared.piece.Piece.TheVariants as pieces
use Rattle.rosa_doc.proofs.Runs.{run_snoc, runs_begin, runs_depth, after_is_document, document_runs}
use Rattle.rosa_pieces.proofs.PieceLaws.{one_piece}
use Rattle.rosa_doc.proofs.Firsts.{IsStuck, are_longest, first_snoc, piece_is_long}

-- what is left is no longer than the bytes
encoded_body : (cs : List ℕ) → length (encode_utf8_all (past_mark cs)) ≤ length (encode_utf8_all cs)
encoded_body [] = omega arith
encoded_body (c ∷ cs) =
    let n = length-append (encode_utf8 c) (encode_utf8_all cs) in
    elim (c == 0xFEFF) as (λ b. length (encode_utf8_all (cond b cs (c ∷ cs))) ≤ length (encode_utf8_all (c ∷ cs))) [ true ↦ omega (arith, n) | false ↦ omega arith ]

pub first_fits : (bytes : List ℕ) (ps : List Piece) (rest : List ℕ) → IsUtf8 bytes → AreFirst ps (body_of bytes) rest → length (encode_utf8_all rest) ≤ length bytes
first_fits bytes ps rest utf8 h =
    let whole = ap encode_utf8_all h.parts ∙ encodes-append h.spelled rest in
    omega (arith, ap length whole, length-append (encode_utf8_all h.spelled) (encode_utf8_all rest), encoded_body (chars bytes), ap length (encodes-chars bytes utf8))

pub stopped_fits : (bytes : List ℕ) (e : Ending) (rest : List ℕ) → IsUtf8 bytes → Stopped (body_of bytes) e rest → length (encode_utf8_all rest) ≤ length bytes
stopped_fits bytes Deep rest utf8 h = first_fits bytes h.2.pieces rest utf8 h.2.first
stopped_fits bytes Stuck rest utf8 h = first_fits bytes h.2.pieces rest utf8 h.2.first
stopped_fits bytes (End progress) rest utf8 h = first_fits bytes h.1.pieces rest utf8 h.1.first

-- ---- too deep

deep_step : (s : State) (r : Bool) (p : Piece) → depth_of s ≡ 16 → opens p ≡ true → (t : State) × (step s r p ≡ Some t)
deep_step Before r p d o = absurd (omega arith)
deep_step (After root) r p d o = absurd (omega arith)
deep_step (Within top outer) r (pieces.Start k) d o = (Within (opened k) (top ∷ outer), refl)
deep_step (Within top outer) r (pieces.Empty k) d o = (Within (with_child top (element_of k [])) outer, refl)
deep_step (Within top outer) r (pieces.End n) d o = absurd cc
deep_step (Within top outer) r pieces.Comment d o = absurd cc
deep_step (Within top outer) r pieces.Instruction d o = absurd cc
deep_step (Within top outer) r (pieces.Data k) d o = absurd cc

pub deep_is_refused : (bytes rest : List ℕ) (at : ℕ) → IsText bytes → Stopped (body_of bytes) Deep rest → IsPlace bytes rest at → Refuses bytes (refusals.TooDeep at)
deep_is_refused bytes rest at text (s, r, h, d, p, x, w, hp, parts, o) place =
    let t = deep_step s r p d o in
    let stepped : step s (ends_in_return h.pieces) p ≡ Some t.0 = sym (ap (λ (b : Bool). step s b p) h.flag) ∙ t.1 in
    let deep : IsDeep (body_of bytes) rest = record {
      before = h.pieces;
      tag = p;
      after = w;
      first = h.first;
      with_tag = first_snoc h.pieces p (body_of bytes) rest x w h.first hp parts;
      begin = runs_begin (h.pieces ++ (p ∷ [])) t.0 (run_snoc h.pieces p s (Some t.0) h.runs stepped);
      opening = o;
      level = runs_depth h.pieces s h.runs ∙ d;
      shallow = h.shallow;
    } in
    (rest, text, deep, place)

-- ---- nothing can follow

pub stop_of : (bytes rest : List ℕ) (at : ℕ) (s : State) (r : Bool) (text : IsText bytes) (h : HasReached (body_of bytes) s r rest) → IsStuck s h.pieces rest → IsPlace bytes rest at → Stops bytes at h.pieces rest
stop_of bytes rest at s r text h stuck place = record { text = text; longest = are_longest h.pieces s (body_of bytes) rest h.first h.runs stuck; shallow = h.shallow; place = place }

pub before_is_refused : (bytes rest : List ℕ) (at : ℕ) (ps : List Piece) → Stops bytes at ps rest → rest ≢ [] → Refuses bytes (refused_before at rest)
before_is_refused bytes rest at ps stops long =
    elim (is_doctype rest) as (λ b. is_doctype rest ≡ b → Refuses bytes (cond b (refusals.HasDoctype at) (refusals.BadMarkup at))) [
      | true ↦ λ e. (ps, rest, stops, e)
      | false ↦ λ e. (ps, rest, stops, long, e)
    ] refl

one_step_only : (s : State) (r : Bool) (p q : Piece) → p ≡ q → step s r q ≡ None → step s r p ≡ None
one_step_only s r p q e h = ap (λ (k : Piece). step s r k) e ∙ h

pub stuck_is_refused : (bytes rest : List ℕ) (at : ℕ) → IsText bytes → Stopped (body_of bytes) Stuck rest → IsPlace bytes rest at → Refuses bytes (refused_before at rest)
stuck_is_refused bytes rest at text (s, r, h, p, x, w, hp, parts, none) place =
    let stuck : IsStuck s h.pieces rest = λ q y v hq whole.
    let one = one_piece q p y x v w hq hp (sym whole ∙ parts) in
    one_step_only s (ends_in_return h.pieces) q p one.0 (sym (ap (λ (b : Bool). step s b p) h.flag) ∙ none) in
    before_is_refused bytes rest at h.pieces (stop_of bytes rest at s r text h stuck place) (λ e. piece_is_long p x hp (front_nil x w (sym parts ∙ e)))
  where
    front_nil : (x w : List ℕ) → x ++ w ≡ [] → x ≡ []
    front_nil [] w e = refl
    front_nil (c ∷ x) w e = absurd cc

pub end_is_refused : (bytes rest : List ℕ) (at : ℕ) (progress : Progress) → IsText bytes → Stopped (body_of bytes) (End progress) rest → IsPlace bytes rest at → rest ≢ [] → Refuses bytes (refused_before at rest)
end_is_refused bytes rest at progress text (r, h, none) place long =
    before_is_refused bytes rest at h.pieces (stop_of bytes rest at (state_of progress) r text h (λ p x w hp whole. absurd (none p x w hp whole)) place) long

-- ---- the end

spelled_whole : (ps : List Piece) (cs : List ℕ) → AreFirst ps cs [] → Spelled IsPiece ps cs
spelled_whole ps cs h = let e : cs ≡ h.spelled = h.parts ∙ append-nil h.spelled in subst (λ (t : List ℕ). Spelled IsPiece ps t) (sym e) h.spells

not_after : (ps : List Piece) (s : State) → run ps Before false ≡ Some s → ((root : Element) → s ≡ After root → ⊥) → (root : Element) → IsDocument ps root → ⊥
not_after ps s e other root h = other root (let both : Some s ≡ Some (After root) = sym e ∙ document_runs ps root h in cc)

unclosed_is_told : (at : ℕ) → refusals.Unclosed at ≢ refusals.NoMemory
unclosed_is_told at e = absurd cc

-- where no piece can follow at the end
pub ended_reading : (bytes : List ℕ) (at : ℕ) (s : State) (r : Bool) → IsText bytes → (h : HasReached (body_of bytes) s r []) → Stops bytes at h.pieces [] → ReadsAs bytes (ended_at s at)
ended_reading bytes at Before r text h stops = ((h.pieces, stops, not_after h.pieces Before h.runs (λ root e. absurd (before_is_not root e))), unclosed_is_told at)
  where
    before_is_not : (root : Element) → Before ≡ After root → ⊥
    before_is_not root e = absurd cc
ended_reading bytes at (Within top outer) r text h stops = ((h.pieces, stops, not_after h.pieces (Within top outer) h.runs (λ root e. absurd (within_is_not top outer root e))), unclosed_is_told at)
  where
    within_is_not : (top : Level) (outer : List Level) (root : Element) → Within top outer ≡ After root → ⊥
    within_is_not top outer root e = absurd cc
ended_reading bytes at (After root) r text h stops = record { pieces = h.pieces; text = text; spells = spelled_whole h.pieces (body_of bytes) h.first; shallow = h.shallow; document = after_is_document h.pieces root h.runs }

abbrev Answers : List ℕ → Result Doc DocRefused → Type 0
Answers bytes r = IfOk r (λ doc. IsDoc bytes doc) × IfErr r (λ refusal. Refuses bytes refusal)

answers_of : (bytes : List ℕ) (r : Result Doc DocRefused) → ReadsAs bytes r → Answers bytes r
answers_of bytes (Ok doc) h = (h, tt)
answers_of bytes (Err refusal) h = (tt, h.0)

pub ended_answers : (bytes : List ℕ) (at : ℕ) (progress : Progress) (rest : List ℕ) → IsText bytes → Stopped (body_of bytes) (End progress) rest → IsPlace bytes rest at → rest ≡ [] → Answers bytes (ended_at (state_of progress) at)
ended_answers bytes at progress rest text h place e =
    let h' = subst (λ (t : List ℕ). Stopped (body_of bytes) (End progress) t) e h in
    let place' = subst (λ (t : List ℕ). IsPlace bytes t at) e place in
    let stops = stop_of bytes [] at (state_of progress) h'.0 text h'.1 (λ p x w hp whole. absurd (h'.2 p x w hp whole)) place' in
    answers_of bytes (ended_at (state_of progress) at) (ended_reading bytes at (state_of progress) h'.0 text h'.1 stops)

pub empty_is_nil : (rest : List ℕ) (b : Bool) → b ≡ (length rest == 0) → b ≡ true → rest ≡ []
empty_is_nil [] b is e = refl
empty_is_nil (c ∷ rest) b is e = absurd (let n = eqb-true (length (c ∷ rest)) 0 (sym is ∙ e) in omega (arith, n))

pub not_empty : (rest : List ℕ) (b : Bool) → b ≡ (length rest == 0) → b ≡ false → rest ≢ []
not_empty rest b is e nil = let n : length rest ≡ 0 = ap length nil in let t = eq-eqb (length rest) 0 n in absurd (let both : true ≡ false = sym t ∙ sym is ∙ e in cc)
