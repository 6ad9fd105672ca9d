-- First pieces of characters: of two lists of them one begins with the other.
use Rattle.std.proofs.Common.{◌≡◌, ℕ, ◌<◌, ◌≤◌, true, false, List, [], ◌∷◌, ◌++◌, length, Some, None, refl, sym, ap, ◌∙◌, arith, append_assoc, ◌⊎◌, inl, inr}
use Rattle.std.proofs.lemmas.List.{append-nil, length-append}
use Rattle.std.proofs.lemmas.Bool.{cases_lt}
use Rattle.rosa_pieces.specs.declared.piece.Piece.{Piece}
use Rattle.rosa_pieces.specs.Pieces.{Spelled, IsPiece}
use Rattle.rosa_pieces.specs.Reading.{piece_at}
use Rattle.rosa_pieces.proofs.PieceLaws.{one_piece, piece_again}
use Rattle.rosa_doc.specs.Documents.{ends_in_return}
use Rattle.rosa_doc.specs.Refusals.{AreFirst, BeginDocument, AreLongest, AreShallow, opens, depth}
use Rattle.rosa_doc.specs.Machine.{State, Before, step, run}
use Rattle.rosa_doc.proofs.Runs.{run_front, run_snoc, runs_begin, begin_runs}

-- a piece has characters
pub piece_is_long : (p : Piece) (x : List ℕ) → IsPiece p x → x ≡ [] → ⊥
unfolding piece_at
piece_is_long p x h e =
    let read : piece_at (x ++ []) ≡ Some (p, []) = piece_again p x [] h in
    let nothing : piece_at (x ++ []) ≡ None = rw e refl in
    no_some (p, []) (sym nothing ∙ read)
  where
    no_some : (y : Piece × List ℕ) → None ≡ Some y → ⊥
    no_some y e = absurd cc

-- the rest of a longer list
abbrev pub GoesOn : List Piece → List Piece → List ℕ → List ℕ → Type 0
GoesOn ps qs rest r = (more : List Piece) × (z : List ℕ) × (qs ≡ ps ++ more) × Spelled IsPiece more z × (rest ≡ z ++ r)

pub goes_on : (ps qs : List Piece) (x y rest r : List ℕ) → Spelled IsPiece ps x → Spelled IsPiece qs y → x ++ rest ≡ y ++ r → length ps ≤ length qs → GoesOn ps qs rest r
goes_on [] qs x y rest r h k e le = (qs, y, refl, k, sym (ap (λ (t : List ℕ). t ++ rest) h) ∙ e)
goes_on (p ∷ ps) [] x y rest r h k e le = absurd (omega arith)
goes_on (p ∷ ps) (q ∷ qs) x y rest r (x1, x2, hp, hs, ex) (y1, y2, kq, ks, ey) e le =
    let both : x1 ++ (x2 ++ rest) ≡ y1 ++ (y2 ++ r) = sym (append_assoc x1 x2 rest) ∙ sym (ap (λ (t : List ℕ). t ++ rest) ex) ∙ e ∙ ap (λ (t : List ℕ). t ++ r) ey ∙ append_assoc y1 y2 r in
    let o = one_piece p q x1 y1 (x2 ++ rest) (y2 ++ r) hp kq both in
    let (more, z, more-is, spelled, rest-is) = goes_on ps qs x2 y2 rest r hs ks o.2 (omega arith) in
    (more, z, ap (λ (k : Piece). k ∷ qs) (sym o.0) ∙ ap (λ (t : List Piece). p ∷ t) more-is, spelled, rest-is)

pub first_goes_on : (ps qs : List Piece) (cs rest r : List ℕ) → AreFirst ps cs rest → AreFirst qs cs r → length ps ≤ length qs → GoesOn ps qs rest r
first_goes_on ps qs cs rest r h k le = goes_on ps qs h.spelled k.spelled rest r h.spells k.spells (sym h.parts ∙ k.parts) le

-- one more piece of the first ones
pub spelled_snoc : (ps : List Piece) (p : Piece) (x y : List ℕ) → Spelled IsPiece ps x → IsPiece p y → Spelled IsPiece (ps ++ (p ∷ [])) (x ++ y)
spelled_snoc [] p x y h k = (y, [], k, refl, ap (λ (t : List ℕ). t ++ y) h ∙ sym (append-nil y))
spelled_snoc (q ∷ ps) p x y (x1, x2, hq, hs, e) k = (x1, x2 ++ y, hq, spelled_snoc ps p x2 y hs k, ap (λ (t : List ℕ). t ++ y) e ∙ append_assoc x1 x2 y)

pub first_snoc : (ps : List Piece) (p : Piece) (cs rest y after : List ℕ) → AreFirst ps cs rest → IsPiece p y → rest ≡ y ++ after → AreFirst (ps ++ (p ∷ [])) cs after
first_snoc ps p cs rest y after h k e = record { spelled = h.spelled ++ y; spells = spelled_snoc ps p h.spelled y h.spells k; parts = h.parts ∙ ap (λ (t : List ℕ). h.spelled ++ t) e ∙ sym (append_assoc h.spelled y after) }

-- nothing can follow these pieces
abbrev pub IsStuck : State → List Piece → List ℕ → Type 0
IsStuck s ps rest = (p : Piece) (x w : List ℕ) → IsPiece p x → rest ≡ x ++ w → step s (ends_in_return ps) p ≡ None

no_more : (ps : List Piece) (s : State) (rest r : List ℕ) (others : List Piece) → run ps Before false ≡ Some s → IsStuck s ps rest → BeginDocument others → GoesOn ps others rest r → length ps < length others → ⊥
no_more ps s rest r others e stuck begin ([], z, is, spelled, rest-is) lt = absurd (omega (arith, ap length is, length-append ps []))
no_more ps s rest r others e stuck begin (p ∷ more, z, is, (x, y, hp, hs, z-is), rest-is) lt =
    let piece : rest ≡ x ++ (y ++ r) = rest-is ∙ ap (λ (t : List ℕ). t ++ r) z-is ∙ append_assoc x y r in
    let none = stuck p x (y ++ r) hp piece in
    let after : run (ps ++ (p ∷ [])) Before false ≡ None = run_snoc ps p s None e none in
    let b = begin_runs others begin in
    let split : others ≡ (ps ++ (p ∷ [])) ++ more = is ∙ sym (append_assoc ps (p ∷ []) more) in
    let whole : run ((ps ++ (p ∷ [])) ++ more) Before false ≡ Some b.0 = sym (ap (λ (t : List Piece). run t Before false) split) ∙ b.1 in
    let f = run_front (ps ++ (p ∷ [])) more Before false b.0 whole in
    no_some f.0 (sym after ∙ f.1)
  where
    no_some : (y : State) → None ≡ Some y → ⊥
    no_some y e = absurd cc

pub are_longest : (ps : List Piece) (s : State) (cs rest : List ℕ) → AreFirst ps cs rest → run ps Before false ≡ Some s → IsStuck s ps rest → AreLongest ps cs rest
are_longest ps s cs rest first e stuck = record {
  first = first;
  begin = runs_begin ps s e;
  longest = λ others r h begin.
      elim (cases_lt (length ps) (length others)) [
        | inl lt ↦ absurd (no_more ps s rest r others e stuck begin (first_goes_on ps others cs rest r first h (omega arith)) lt)
        | inr le ↦ le
      ];
}

-- ---- levels

snoc_parts : (ps : List Piece) (p : Piece) (earlier : List Piece) (q : Piece) (later : List Piece) → ps ++ (p ∷ []) ≡ earlier ++ (q ∷ later) → ((p ≡ q) × (ps ≡ earlier)) ⊎ ((l : List Piece) × (ps ≡ earlier ++ (q ∷ l)))
snoc_parts [] p [] q later e = inl (cc, refl)
snoc_parts [] p (k ∷ earlier) q later e = absurd (let n = ap length e in omega (arith, n, length-append earlier (q ∷ later)))
snoc_parts (k ∷ ps) p [] q later e = let same : k ≡ q = cc in inr (ps, ap (λ (x : Piece). x ∷ ps) same)
snoc_parts (k ∷ ps) p (j ∷ earlier) q later e =
    let head : k ≡ j = cc in
    let tail : ps ++ (p ∷ []) ≡ earlier ++ (q ∷ later) = cc in
    elim (snoc_parts ps p earlier q later tail) [
      | inl (a, b) ↦ inl (a, ap (λ (x : Piece). x ∷ ps) head ∙ ap (λ (t : List Piece). j ∷ t) b)
      | inr (l, b) ↦ inr (l, ap (λ (x : Piece). x ∷ ps) head ∙ ap (λ (t : List Piece). j ∷ t) b)
    ]

pub shallow_nil : AreShallow []
shallow_nil earlier p later e h = absurd (let n = ap length e in omega (arith, n, length-append earlier (p ∷ later)))

pub shallow_snoc : (ps : List Piece) (p : Piece) → AreShallow ps → (opens p ≡ true → depth ps < 16) → AreShallow (ps ++ (p ∷ []))
shallow_snoc ps p h k earlier q later e o =
    elim (snoc_parts ps p earlier q later e) [
      | inl (same, parts) ↦ let low = k (rw same o) in rw (← parts) low
      | inr (l, parts) ↦ h earlier q l parts o
    ]
