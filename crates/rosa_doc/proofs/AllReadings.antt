-- Any bytes have a reading: the reader's way through them, over lists.
use Rattle.std.proofs.Common.{◌≡◌, ◌≢◌, ℕ, zero, suc, ◌-◌, ◌<◌, ◌≤◌, ◌==◌, Bool, true, false, cond, ◌&&◌, List, [], ◌∷◌, ◌++◌, length, take, Option, Some, None, Result, Err, refl, sym, subst, ◌∙◌, arith, inl, inr, encode_utf8_all}
use Rattle.std.specs.Str.{IsUtf8, IsValidUpTo, is_utf8}
use Rattle.std.proofs.lemmas.List.{take_all}
use Rattle.std.proofs.lemmas.Bool.{cases_lt, cases_Bool, and_parts, and_cases, eqb-true, eqb-false, true≢false}
use Rattle.std.proofs.lemmas.Str.{IsUtf8-from_is_utf8, is_utf8-from_IsUtf8}
use Rattle.rosa_pieces.specs.declared.piece.Piece.{Piece}
use Rattle.rosa_pieces.specs.Pieces.{IsPiece}
use Rattle.rosa_pieces.specs.Reading.{piece_at}
use Rattle.rosa_pieces.proofs.PieceLaws.{piece_takes, no_piece}
use Rattle.rosa_doc.specs.declared.tree.Doc.{Doc}
use Rattle.rosa_doc.specs.declared.refusal.DocRefused.{DocRefused}
use Rattle.rosa_doc.specs.declared.refusal.DocRefused.TheVariants as refusals
use Rattle.rosa_doc.specs.Documents.{is_return_piece, body_of}
use Rattle.rosa_doc.specs.Refusals.{IsText, IsPlace, Refuses, ReadsAs, opens, is_doctype, longest_document}
use Rattle.rosa_doc.specs.Machine.{State, Before, step, depth_of}
use Rattle.rosa_doc.specs.Reading.{HasReached, ended_at, refused_before}
use Rattle.rosa_doc.proofs.Reached.{reached_start, reached_more, rest_is_shorter}
use Rattle.rosa_doc.proofs.Answering.{first_fits, deep_is_refused, stuck_is_refused, before_is_refused, stop_of, ended_reading}

abbrev Reading : List ℕ → Type 0
Reading bytes = (reading : Result Doc DocRefused) × ReadsAs bytes reading

-- ---- bytes that are no text

-- the longest front up to a length that is UTF-8
longest_front : (bytes : List ℕ) (m : ℕ) → (n : ℕ) × (n ≤ m) × IsUtf8 (take n bytes) × ((k : ℕ) → n < k → k ≤ m → IsUtf8 (take k bytes) → ⊥)
longest_front bytes zero = (zero, omega arith, ([], (refl, refl)), λ k above within u. absurd (omega arith))
longest_front bytes (suc m) =
    elim (cases_Bool (is_utf8 (take (suc m) bytes))) [
      | inl holds ↦ (suc m, omega arith, IsUtf8-from_is_utf8 (take (suc m) bytes) holds, λ k above within u. absurd (omega arith))
      | inr fails ↦
          let (n, le, utf8, longest) = longest_front bytes m in (
            n,
            omega arith,
            utf8,
            λ k above within u. elim (cases_lt m k) [
              | inl lt ↦
                  let same : k ≡ suc m = omega arith in
                  true≢false (sym (is_utf8-from_IsUtf8 (take (suc m) bytes) (subst (λ (i : ℕ). IsUtf8 (take i bytes)) same u)) ∙ fails)
              | inr ge ↦ longest k above ge u
            ],
          )
    ]

valid_up_to : (bytes : List ℕ) → (IsUtf8 bytes → ⊥) → (at : ℕ) × IsValidUpTo bytes at
valid_up_to bytes not =
    let (n, le, utf8, longest) = longest_front bytes (length bytes) in
    let whole : (k : ℕ) → length bytes ≤ k → IsUtf8 (take k bytes) → ⊥ = λ k ge u. not (subst (λ (t : List ℕ). IsUtf8 t) (take_all k bytes ge) u) in
    elim (cases_lt n (length bytes)) [
      | inl lt ↦ (
        n,
        record {
          short = lt;
          front = utf8;
          longest = λ k above u. elim (cases_lt (length bytes) k) [
            | inl past ↦ whole k (omega arith) u
            | inr within ↦ longest k above within u
          ];
        },
      )
      | inr ge ↦ absurd (whole n ge utf8)
    ]

-- ---- texts

place_of : (bytes rest : List ℕ) (s : State) (r : Bool) (text : IsText bytes) → HasReached (body_of bytes) s r rest → IsPlace bytes rest (length bytes - length (encode_utf8_all rest))
place_of bytes rest s r text h = let fits = first_fits bytes h.pieces rest text.1 h.first in omega (arith, fits)

before_is_told : (at : ℕ) (b : Bool) → cond b (refusals.HasDoctype at) (refusals.BadMarkup at) ≢ refusals.NoMemory
before_is_told at true e = absurd cc
before_is_told at false e = absurd cc

deep_is_told : (at : ℕ) → refusals.TooDeep at ≢ refusals.NoMemory
deep_is_told at e = absurd cc

no_text_is_told : (at : ℕ) → refusals.NotUtf8 at ≢ refusals.NoMemory
no_text_is_told at e = absurd cc

long_is_told : (n : ℕ) → refusals.TooLong n ≢ refusals.NoMemory
long_is_told n e = absurd cc

before_reading : (bytes rest : List ℕ) (at : ℕ) → Refuses bytes (refused_before at rest) → Reading bytes
before_reading bytes rest at h = (Err (refused_before at rest), (h, before_is_told at (is_doctype rest)))

-- where no piece begins
halts : (bytes rest : List ℕ) (s : State) (r : Bool) → IsText bytes → HasReached (body_of bytes) s r rest → ((p : Piece) (x w : List ℕ) → IsPiece p x → rest ≡ x ++ w → ⊥) → Reading bytes
halts bytes [] s r text h none =
    let at = length bytes - length (encode_utf8_all []) in
    let stops = stop_of bytes [] at s r text h (λ p x w hp whole. absurd (none p x w hp whole)) (place_of bytes [] s r text h) in
    (ended_at s at, ended_reading bytes at s r text h stops)
halts bytes (c ∷ rest) s r text h none =
    let at = length bytes - length (encode_utf8_all (c ∷ rest)) in
    let stops = stop_of bytes (c ∷ rest) at s r text h (λ p x w hp whole. absurd (none p x w hp whole)) (place_of bytes (c ∷ rest) s r text h) in
    before_reading bytes (c ∷ rest) at (before_is_refused bytes (c ∷ rest) at h.pieces stops (λ e. absurd (no_nil e)))
  where
    no_nil : c ∷ rest ≡ [] → ⊥
    no_nil e = absurd cc

low_below : (s : State) (p : Piece) → opens p && (depth_of s == 16) ≡ false → depth_of s ≤ 16 → opens p ≡ true → depth_of s < 16
low_below s p e le o = elim (and_cases (opens p) (depth_of s == 16) e) [
  | inl f ↦ absurd (let both : true ≡ false = sym o ∙ f in cc)
  | inr f ↦ let other = eqb-false (depth_of s) 16 f in below_16 (depth_of s) le other
]
  where
    below_16 : (n : ℕ) → n ≤ 16 → (n ≡ 16 → ⊥) → n < 16
    below_16 n le other = elim (cases_lt n 16) [ inl lt ↦ lt | inr ge ↦ absurd (other (omega arith)) ]

-- where a piece begins
takes : (bytes rest after : List ℕ) (s : State) (r : Bool) (p : Piece) (x : List ℕ) → IsText bytes → HasReached (body_of bytes) s r rest → IsPiece p x → rest ≡ x ++ after
    → ((t : State) (b : Bool) → HasReached (body_of bytes) t b after → Reading bytes) → Reading bytes
takes bytes rest after s r p x text h hp parts more =
    let at = length bytes - length (encode_utf8_all rest) in
    let place = place_of bytes rest s r text h in
    elim (cases_Bool (opens p && (depth_of s == 16))) [
      | inl holds ↦
          let a = and_parts (opens p) (depth_of s == 16) holds in
          (Err (refusals.TooDeep at), (deep_is_refused bytes rest at text (s, r, h, eqb-true (depth_of s) 16 a.1, p, x, after, hp, parts, a.0) place, deep_is_told at))
      | inr fails ↦ elim (step s r p) as (λ (o : Option State). step s r p ≡ o → Reading bytes) [
        | None ↦ λ e. before_reading bytes rest at (stuck_is_refused bytes rest at text (s, r, h, p, x, after, hp, parts, e) place)
        | Some t ↦ λ e. more t (is_return_piece p) (reached_more (body_of bytes) rest after s t r p x h hp parts e (λ o. low_below s p fails h.low o))
      ] refl
    ]

read_on : (n : ℕ) (bytes rest : List ℕ) (s : State) (r : Bool) → IsText bytes → HasReached (body_of bytes) s r rest → length rest ≤ n → Reading bytes
read_on zero bytes rest s r text h le = halts bytes rest s r text h (λ p x w hp whole. let lt = rest_is_shorter rest w p x hp whole in absurd (omega (arith, lt, le)))
read_on (suc n) bytes rest s r text h le = elim (piece_at rest) as (λ (o : Option (Piece × List ℕ)). piece_at rest ≡ o → Reading bytes) [
  | None ↦ λ e. halts bytes rest s r text h (no_piece rest e)
  | Some y ↦ λ e.
      let (x, hp, parts) = piece_takes rest y.0 y.1 e in
      let lt = rest_is_shorter rest y.1 y.0 x hp parts in
      let fits : length y.1 ≤ n = omega (arith, lt, le) in
      takes bytes rest y.1 s r y.0 x text h hp parts (λ t b k. read_on n bytes y.1 t b text k fits)
] refl

pub all_read : (bytes : List ℕ) → Reading bytes
all_read bytes = elim (cases_lt longest_document (length bytes)) [
  | inl lt ↦ (Err (refusals.TooLong (length bytes)), ((lt, refl), long_is_told (length bytes)))
  | inr le ↦ elim (cases_Bool (is_utf8 bytes)) [
    | inl holds ↦ read_on (length (body_of bytes)) bytes (body_of bytes) Before false (le, IsUtf8-from_is_utf8 bytes holds) (reached_start (body_of bytes)) (omega arith)
    | inr fails ↦
        let (at, valid) = valid_up_to bytes (λ u. true≢false (sym (is_utf8-from_IsUtf8 bytes u) ∙ fails)) in
        (Err (refusals.NotUtf8 at), ((le, valid), no_text_is_told at))
  ]
]
