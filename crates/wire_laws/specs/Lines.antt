-- Proofs that bytes have a head with at most 64 fields at their front or don't, and no definitions.
use Rattle.std.specs.Prelude.{◌⊎◌, ℕ, zero, suc, ◌<◌, List, [], ◌∷◌, ◌++◌, length}
use Rattle.std.proofs.Common.{inl, inr, ap, sym, ◌∙◌, arith, append_assoc, append-nil, length-append}
use Rattle.std.proofs.lemmas.Bool.{cases_lt}
use Rattle.std.proofs.lemmas.List.Elements.{All-cons, All-nil}
use Rattle.std.specs.List.{flat_map}
use Rattle.httparse.specs.Grammar.{LineEnd, print_end, Field, IsField, print_field, print_section, ResponseHead}
use Rattle.httparse.specs.Grammar.{ReadsResponse}
use Rattle.httparse.specs.Pieces.{Begins, Then, Newline, FieldLine, FieldLines, Section, ResponseStart, Bytes, Blank}
use Rattle.httparse.specs.Pieces.{Version, Code, Reason}
use Rattle.httparse.proofs.PieceLemmas.{Section_skip, Section_line, print_field-append}
use Rattle.httparse.proofs.PieceLemmas.{ResponseStart_deterministic, Blank_deterministic, Version_deterministic}
use Rattle.httparse.proofs.PieceLemmas.{Bytes_deterministic, Code_deterministic}
use Rattle.httparse.proofs.GrammarLemmas.{response_head, response_pieces, response_from_pieces, response_unique}
use Rattle.http_reply.specs.Heads.{HasHead, most_fields}
use Rattle.wire_laws.specs.Pieces.{Decided, then_decided, bytes_decided, newline_decided, blank_decided}
use Rattle.wire_laws.specs.Pieces.{version_decided, code_decided, reason_decided, field_decided}

one_line : (f : Field) (text middle : List ℕ) → FieldLine f text middle → FieldLines (f ∷ []) text middle
one_line f text middle x = (
  All-cons IsField f [] x.0 (All-nil IsField),
  x.1 ∙ ap (λ (t : List ℕ). t ++ middle) (sym (append-nil (print_field f))),
)

with_line : (f : Field) (fields : List Field) (last : LineEnd) (text middle rest : List ℕ) → FieldLine f text middle
    → Section (fields, last) middle rest → Section (f ∷ fields, last) text rest
with_line f fields last text middle rest line more = (
  All-cons IsField f fields line.0 more.0,
  line.1 ∙ ap (λ (t : List ℕ). print_field f ++ t) more.1
      ∙ sym (append_assoc (print_field f) (print_section fields last) rest)
      ∙ ap (λ (t : List ℕ). t ++ rest) (sym (append_assoc (print_field f) (flat_map print_field fields) (print_end last))),
)

-- a field's line has a byte
line_shorter : (f : Field) (text middle : List ℕ) → FieldLine f text middle → length middle < length text
line_shorter f text middle x =
    let long = ap length (x.1 ∙ print_field-append f middle) ∙ length-append f.name (58 ∷ (f.raw ++ (print_end f.end ++ middle))) in
    let behind = length-append f.raw (print_end f.end ++ middle) in
    let ends = length-append (print_end f.end) middle in
    omega (arith, long, behind, ends)

behind_line : (f : Field) (text middle : List ℕ) → FieldLine f text middle → ¬ (Begins Newline text)
    → ¬ (Begins Section middle) → (fields : List Field) (last : LineEnd) (rest : List ℕ)
    → Section (fields, last) text rest → ⊥
behind_line f text middle line no_end none fields last rest is =
    let skipped = Section_skip (f ∷ []) fields last text middle rest (one_line f text middle line) is in
    none ((skipped.0, last), rest, skipped.2)

-- a field's line, and what is behind it
line_then : (f : Field) (text middle : List ℕ) → FieldLine f text middle → ¬ (Begins Newline text)
    → Decided Section middle → Decided Section text
line_then f text middle line no_end (inl found) =
    inl ((f ∷ found.0.0, found.0.1), found.1, with_line f found.0.0 found.0.1 text middle found.1 line found.2)
line_then f text middle line no_end (inr none) =
    inr (λ x. behind_line f text middle line no_end none x.0.0 x.0.1 x.1 x.2)

section_by : (n : ℕ) (text : List ℕ) → length text < n → Decided Section text
section_by zero text below = absurd (omega (arith, below))
section_by (suc n) text below = elim (newline_decided text) [
  | inl end ↦ inl (([], end.0), end.1, (All-nil IsField, end.2))
  | inr no_end ↦ elim (field_decided text) [
    | inl line ↦
        let shorter = line_shorter line.0 text line.1 line.2 in
        line_then line.0 text line.1 line.2 no_end (section_by n line.1 (omega (arith, below, shorter)))
    | inr no_line ↦ inr (λ x. elim (Section_line x.0 text x.1 x.2) [
      | inl end ↦ no_end end
      | inr line ↦ no_line line
    ])
  ]
]

section_decided : (text : List ℕ) → Decided Section text
section_decided text = section_by (suc (length text)) text (omega arith)

start_decided : (text : List ℕ) → Decided ResponseStart text
start_decided =
    then_decided Blank (Then Version (Then (Bytes (32 ∷ [])) (Then Code Reason))) Blank_deterministic blank_decided
    (then_decided Version (Then (Bytes (32 ∷ [])) (Then Code Reason)) Version_deterministic version_decided
    (then_decided (Bytes (32 ∷ [])) (Then Code Reason) (Bytes_deterministic (32 ∷ [])) (bytes_decided (32 ∷ []))
    (then_decided Code Reason Code_deterministic code_decided reason_decided)))

-- the bytes have a head at their front, and this is behind it
abbrev pub FindsOne : List ℕ → Type 0
FindsOne bytes = (head : ResponseHead) × (rest : List ℕ) × HasHead bytes head rest

pub head_decided : (bytes : List ℕ) → FindsOne bytes ⊎ ¬ (FindsOne bytes)
head_decided bytes =
    elim (then_decided ResponseStart Section ResponseStart_deterministic start_decided section_decided bytes) [
      | inl found ↦ few (response_head found.0) found.1 (response_from_pieces bytes found.0 found.1 found.2)
      | inr none ↦ inr (λ x.
          let pieces = response_pieces bytes x.0 x.1 x.2.reads in none (pieces.0, x.1, pieces.2))
    ]
  where
    few : (head : ResponseHead) (rest : List ℕ) → ReadsResponse bytes head rest → FindsOne bytes ⊎ ¬ (FindsOne bytes)
    few head rest reads = elim (cases_lt most_fields (length head.fields)) [
      | inl many ↦ inr (λ x.
          let same = (response_unique bytes x.0 head x.1 rest x.2.reads reads).0 in
          let less = x.2.few in
          omega (arith, many, less, ap (λ (h : ResponseHead). length h.fields) same))
      | inr less ↦ inl (head, rest, record { reads = reads; few = less })
    ]
