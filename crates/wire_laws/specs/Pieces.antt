-- Proofs that a text begins with a piece of the grammar of heads or doesn't, and no definitions.
use Rattle.std.specs.Prelude.{◌≡◌, ◌⊎◌, ℕ, zero, suc, ◌<◌, ◌≤◌, true, false, List, [], ◌∷◌, ◌++◌, length}
use Rattle.std.specs.Prelude.{Option, Some, None, refl}
use Rattle.std.proofs.Common.{inl, inr, ap, sym, ◌∙◌, subst, arith, append_assoc, length-append}
use Rattle.std.proofs.lemmas.Bool.{cases_Bool, cases_eq, false≢true}
use Rattle.std.proofs.lemmas.List.Elements.{All-cons, All-nil, All-head, All-tail}
use Rattle.std.specs.Char.{is_ascii_digit}
use Rattle.httparse.specs.Grammar.{AllPass, is_token_byte, is_value_byte, LineEnd, crlf, lf, print_end, print_blank}
use Rattle.httparse.specs.Grammar.{print_version, Field}
use Rattle.httparse.specs.Pieces.{Piece, Begins, Then, Stops, is_newline, Bytes, Newline, Blank, Word, Version, Digit}
use Rattle.httparse.specs.Pieces.{Code, Text, Reason, FieldLine}
use Rattle.httparse.proofs.PieceLemmas.{IsDeterministic, Digit_deterministic, Name_deterministic, FieldLine_parts}
use Rattle.httparse.proofs.PieceLemmas.{print_field-append, newline_not_stopped, print_end_unique, colon_ends_token}

-- the text begins with the piece, or it doesn't
abbrev pub Decided : {A : Type 0} → Piece A → List ℕ → Type 0
Decided G text = Begins G text ⊎ ¬ (Begins G text)

-- one piece, and behind it another
pub then_decided : {A B : Type 0} (G : Piece A) (H : Piece B) → IsDeterministic G
    → ((text : List ℕ) → Decided G text) → ((text : List ℕ) → Decided H text) → (text : List ℕ)
    → Decided (Then G H) text
then_decided {A} {B} G H det first second text = elim (first text) [
  | inl found ↦ elim (second found.1) [
    | inl next ↦ inl ((found.0, next.0), next.1, (found.1, found.2, next.2))
    | inr none ↦ inr (λ both.
        let same = (det.unique both.0.0 found.0 text both.2.0 found.1 both.2.1 found.2).1 in
        none (both.0.1, both.1, subst (λ (m : List ℕ). H both.0.1 m both.1) same both.2.2))
  ]
  | inr none ↦ inr (λ both. none (both.0.0, both.2.0, both.2.1))
]

same_head : {a b : ℕ} {xs ys : List ℕ} → a ∷ xs ≡ b ∷ ys → a ≡ b
same_head e = cc

same_tail : {a b : ℕ} {xs ys : List ℕ} → a ∷ xs ≡ b ∷ ys → xs ≡ ys
same_tail e = cc

no_first : {b : ℕ} {xs : List ℕ} → ◌≡◌ {A = List ℕ} [] (b ∷ xs) → ⊥
no_first e = absurd cc

-- ---- bytes

pub bytes_decided : (bytes text : List ℕ) → Decided (Bytes bytes) text
bytes_decided [] text = inl (tt, text, refl)
bytes_decided (b ∷ bytes) [] = inr (λ x. no_first x.2)
bytes_decided (b ∷ bytes) (c ∷ text) = elim (cases_eq c b) [
  | inl same ↦ elim (bytes_decided bytes text) [
    | inl found ↦ inl (tt, found.1, cc)
    | inr none ↦ inr (λ x. none (tt, x.1, same_tail x.2))
  ]
  | inr other ↦ inr (λ x. other (same_head x.2))
]

pub newline_decided : (text : List ℕ) → Decided Newline text
newline_decided text = elim (bytes_decided (print_end crlf) text) [
  | inl found ↦ inl (crlf, found.1, found.2)
  | inr other ↦ elim (bytes_decided (print_end lf) text) [
    | inl found ↦ inl (lf, found.1, found.2)
    | inr none ↦ inr (λ x. by x.0 x.1 other none x.2)
  ]
]
  where
    by : (end : LineEnd) (rest : List ℕ) → ¬ (Begins (Bytes (print_end crlf)) text)
        → ¬ (Begins (Bytes (print_end lf)) text) → text ≡ print_end end ++ rest → ⊥
    by crlf rest other none e = other (tt, rest, e)
    by lf rest other none e = none (tt, rest, e)

-- ---- the start of a status line

end_is_some : (end : LineEnd) → 0 < length (print_end end)
end_is_some crlf = omega arith
end_is_some lf = omega arith

blank_line : (end : LineEnd) (text rest : List ℕ) → text ≡ print_end end ++ rest → Decided Blank rest
    → Decided Blank text
blank_line end text rest e (inl found) = inl (
  end ∷ found.0,
  found.1,
  (e ∙ ap (λ (t : List ℕ). print_end end ++ t) found.2.0 ∙ sym (append_assoc (print_end end) (print_blank found.0) found.1), found.2.1),
)
blank_line end text rest e (inr none) = inr (λ x. by x.0 x.1 x.2.0 x.2.1)
  where
    by : (ends : List LineEnd) (left : List ℕ) → text ≡ print_blank ends ++ left → Stops is_newline left → ⊥
    by [] left is stops = newline_not_stopped end rest left (sym e ∙ is) stops
    by (other ∷ ends) left is stops =
        let joined : print_end end ++ rest ≡ print_end other ++ (print_blank ends ++ left) = sym e ∙ is ∙ append_assoc (print_end other) (print_blank ends) left in
        none (ends, left, ((print_end_unique end other rest (print_blank ends ++ left) joined).1, stops))

blank_by : (n : ℕ) (text : List ℕ) → length text ≤ n → Decided Blank text
blank_by n [] short = inr (λ x. nothing x.0 x.1 x.2.0 x.2.1)
  where
    nothing : (ends : List LineEnd) (left : List ℕ) → [] ≡ print_blank ends ++ left → Stops is_newline left → ⊥
    nothing [] [] is stops = stops
    nothing [] (b ∷ left) is stops = no_first is
    nothing (crlf ∷ ends) left is stops = no_first is
    nothing (lf ∷ ends) left is stops = no_first is
blank_by zero (b ∷ text) short = absurd (omega (arith, short))
blank_by (suc n) (b ∷ text) short = elim (newline_decided (b ∷ text)) [
  | inl found ↦
      let left = ap length found.2 ∙ length-append (print_end found.0) found.1 in
      blank_line found.0 (b ∷ text) found.1 found.2
      (blank_by n found.1 (omega (arith, short, left, end_is_some found.0)))
  | inr none ↦ elim (cases_Bool (is_newline b)) [
    | inl newline ↦ inr (λ x. by x.0 x.1 x.2.0 x.2.1 newline none)
    | inr other ↦ inl ([], b ∷ text, (refl, other))
  ]
]
  where
    by : (ends : List LineEnd) (left : List ℕ) → b ∷ text ≡ print_blank ends ++ left → Stops is_newline left
        → is_newline b ≡ true → ¬ (Begins Newline (b ∷ text)) → ⊥
    by [] left is stops newline none = false≢true (sym (subst (Stops is_newline) (sym is) stops) ∙ newline)
    by (end ∷ ends) left is stops newline none =
        none (end, print_blank ends ++ left, is ∙ append_assoc (print_end end) (print_blank ends) left)

pub blank_decided : (text : List ℕ) → Decided Blank text
blank_decided text = blank_by (length text) text (omega arith)

pub version_decided : (text : List ℕ) → Decided Version text
version_decided text = elim (bytes_decided (print_version 0) text) [
  | inl found ↦ inl (0, found.1, (omega arith, found.2))
  | inr other ↦ elim (bytes_decided (print_version 1) text) [
    | inl found ↦ inl (1, found.1, (omega arith, found.2))
    | inr none ↦ inr (λ x. by x.0 x.1 x.2.0 x.2.1 other none)
  ]
]
  where
    by : (minor : ℕ) (rest : List ℕ) → minor ≤ 1 → text ≡ print_version minor ++ rest
        → ¬ (Begins (Bytes (print_version 0)) text) → ¬ (Begins (Bytes (print_version 1)) text) → ⊥
    by zero rest within is other none = other (tt, rest, is)
    by (suc zero) rest within is other none = none (tt, rest, is)
    by (suc (suc minor)) rest within is other none = absurd (omega (arith, within))

pub digit_decided : (text : List ℕ) → Decided Digit text
digit_decided [] = inr (λ x. no_first x.2.1)
digit_decided (b ∷ text) = elim (cases_Bool (is_ascii_digit b)) [
  | inl digit ↦ inl (b, text, (digit, refl))
  | inr other ↦ inr (λ x. false≢true (sym other ∙ ap is_ascii_digit (same_head x.2.1) ∙ x.2.0))
]

pub code_decided : (text : List ℕ) → Decided Code text
code_decided =
    then_decided Digit (Then Digit Digit) Digit_deterministic digit_decided
    (then_decided Digit Digit Digit_deterministic digit_decided digit_decided)

-- ---- the text of a line, up to its end

pub text_decided : (text : List ℕ) → Decided Text text
text_decided [] = inr (λ x. by x.0.0 x.0.1 x.1 x.2.1)
  where
    by : (a : List ℕ) (end : LineEnd) (rest : List ℕ) → [] ≡ a ++ (print_end end ++ rest) → ⊥
    by [] crlf rest is = no_first is
    by [] lf rest is = no_first is
    by (b ∷ a) end rest is = no_first is
text_decided (b ∷ text) = elim (newline_decided (b ∷ text)) [
  | inl found ↦ inl (([], found.0), found.1, (All-nil (λ (v : ℕ). is_value_byte v ≡ true), found.2))
  | inr none ↦ elim (cases_Bool (is_value_byte b)) [
    | inl passes ↦ elim (text_decided text) [
      | inl found ↦ inl (
        (b ∷ found.0.0, found.0.1),
        found.1,
        (
          All-cons (λ (v : ℕ). is_value_byte v ≡ true) b found.0.0 passes found.2.0,
          ap (λ (t : List ℕ). b ∷ t) found.2.1,
        ),
      )
      | inr other ↦ inr (λ x. more x.0.0 x.0.1 x.1 x.2.0 x.2.1 none other)
    ]
    | inr fails ↦ inr (λ x. first x.0.0 x.0.1 x.1 x.2.0 x.2.1 none fails)
  ]
]
  where
    more : (a : List ℕ) (end : LineEnd) (rest : List ℕ) → AllPass is_value_byte a
        → b ∷ text ≡ a ++ (print_end end ++ rest) → ¬ (Begins Newline (b ∷ text)) → ¬ (Begins Text text) → ⊥
    more [] end rest all is none other = none (end, rest, is)
    more (c ∷ a) end rest all is none other =
        other ((a, end), rest, (All-tail (λ (v : ℕ). is_value_byte v ≡ true) c a all, same_tail is))

    first : (a : List ℕ) (end : LineEnd) (rest : List ℕ) → AllPass is_value_byte a
        → b ∷ text ≡ a ++ (print_end end ++ rest) → ¬ (Begins Newline (b ∷ text)) → is_value_byte b ≡ false → ⊥
    first [] end rest all is none fails = none (end, rest, is)
    first (c ∷ a) end rest all is none fails =
        false≢true (sym fails ∙ ap is_value_byte (same_head is) ∙ All-head (λ (v : ℕ). is_value_byte v ≡ true) c a all)

pub reason_decided : (text : List ℕ) → Decided Reason text
reason_decided text = elim (newline_decided text) [
  | inl found ↦ inl ((None, found.0), found.1, (All-nil (λ (v : ℕ). is_value_byte v ≡ true), found.2))
  | inr none ↦ elim (bytes_decided (32 ∷ []) text) [
    | inl space ↦ elim (text_decided space.1) [
      | inl found ↦ inl (
        (Some found.0.0, found.0.1),
        found.1,
        (found.2.0, space.2 ∙ ap (λ (t : List ℕ). 32 ∷ t) found.2.1),
      )
      | inr other ↦ inr (λ x. phrase x.0.0 x.0.1 x.1 space.1 x.2 none space.2 other)
    ]
    | inr other ↦ inr (λ x. first x.0.0 x.0.1 x.1 x.2 none other)
  ]
]
  where
    phrase : (o : Option (List ℕ)) (end : LineEnd) (rest behind : List ℕ) → Reason (o, end) text rest
        → ¬ (Begins Newline text) → text ≡ 32 ∷ behind → ¬ (Begins Text behind) → ⊥
    phrase None end rest behind is none space other = none (end, rest, is.1)
    phrase (Some a) end rest behind is none space other =
        other ((a, end), rest, (is.0, same_tail (sym space ∙ is.1)))

    first : (o : Option (List ℕ)) (end : LineEnd) (rest : List ℕ) → Reason (o, end) text rest
        → ¬ (Begins Newline text) → ¬ (Begins (Bytes (32 ∷ [])) text) → ⊥
    first None end rest is none other = none (end, rest, is.1)
    first (Some a) end rest is none other = other (tt, a ++ (print_end end ++ rest), is.1)

-- ---- a field's line

-- the name of a field, and the colon behind it
behind_name : (text : List ℕ) → Decided (λ (a text rest : List ℕ). AllPass is_token_byte a × (text ≡ a ++ 58 ∷ rest)) text
behind_name [] = inr (λ x. by x.0 x.1 x.2.1)
  where
    by : (a rest : List ℕ) → [] ≡ a ++ 58 ∷ rest → ⊥
    by [] rest is = no_first is
    by (b ∷ a) rest is = no_first is
behind_name (b ∷ text) = elim (cases_eq b 58) [
  | inl colon ↦ inl ([], text, (All-nil (λ (v : ℕ). is_token_byte v ≡ true), ap (λ (c : ℕ). c ∷ text) colon))
  | inr none ↦ elim (cases_Bool (is_token_byte b)) [
    | inl passes ↦ elim (behind_name text) [
      | inl found ↦ inl (
        b ∷ found.0,
        found.1,
        (
          All-cons (λ (v : ℕ). is_token_byte v ≡ true) b found.0 passes found.2.0,
          ap (λ (t : List ℕ). b ∷ t) found.2.1,
        ),
      )
      | inr other ↦ inr (λ x. more x.0 x.1 x.2.0 x.2.1 none other)
    ]
    | inr fails ↦ inr (λ x. first x.0 x.1 x.2.0 x.2.1 none fails)
  ]
]
  where
    more : (a rest : List ℕ) → AllPass is_token_byte a → b ∷ text ≡ a ++ 58 ∷ rest → ¬ (b ≡ 58)
        → ¬ (Begins (λ (a text rest : List ℕ). AllPass is_token_byte a × (text ≡ a ++ 58 ∷ rest)) text) → ⊥
    more [] rest all is none other = none (same_head is)
    more (c ∷ a) rest all is none other =
        other (a, rest, (All-tail (λ (v : ℕ). is_token_byte v ≡ true) c a all, same_tail is))

    first : (a rest : List ℕ) → AllPass is_token_byte a → b ∷ text ≡ a ++ 58 ∷ rest → ¬ (b ≡ 58)
        → is_token_byte b ≡ false → ⊥
    first [] rest all is none fails = none (same_head is)
    first (c ∷ a) rest all is none fails =
        false≢true (sym fails ∙ ap is_token_byte (same_head is) ∙ All-head (λ (v : ℕ). is_token_byte v ≡ true) c a all)

name_decided : (text : List ℕ) → Decided (Word is_token_byte 58) text
name_decided text = elim (behind_name text) [
  | inl found ↦ by found.0 found.1 found.2.0 found.2.1
  | inr none ↦ inr (λ x. none (x.0, x.1, (x.2.1, x.2.2)))
]
  where
    by : (a rest : List ℕ) → AllPass is_token_byte a → text ≡ a ++ 58 ∷ rest → Decided (Word is_token_byte 58) text
    by [] rest all is = inr (λ x. empty x.0 x.1 x.2.0 x.2.1 x.2.2)
      where
        empty : (word left : List ℕ) → 0 < length word → AllPass is_token_byte word → text ≡ word ++ 58 ∷ left → ⊥
        empty [] left some all same = absurd (omega (arith, some))
        empty (c ∷ word) left some all same =
            let colon : 58 ≡ c = same_head (sym is ∙ same) in
            false≢true (sym colon_ends_token ∙ ap is_token_byte colon
            ∙ All-head (λ (v : ℕ). is_token_byte v ≡ true) c word all)
    by (b ∷ a) rest all is = inl (b ∷ a, rest, (omega arith, all, is))

pub field_decided : (text : List ℕ) → Decided FieldLine text
field_decided text =
    elim (then_decided (Word is_token_byte 58) Text Name_deterministic name_decided text_decided text) [
      | inl found ↦
          let name = found.2.1 in
          let field : Field = record { name = found.0.0; raw = found.0.1.0; end = found.0.1.1 } in
          inl (
            field,
            found.1,
            (
              record { name = (name.0, name.1); raw = found.2.2.0 },
              name.2 ∙ ap (λ (t : List ℕ). found.0.0 ++ 58 ∷ t) found.2.2.1 ∙ sym (print_field-append field found.1),
            ),
          )
      | inr none ↦ inr (λ x. none ((x.0.name, (x.0.raw, x.0.end)), x.1, FieldLine_parts x.0 text x.1 x.2))
    ]
