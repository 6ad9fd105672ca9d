-- Proofs that bytes have one final head at most, and that they have one or have none; and no definitions.
use Rattle.std.specs.Prelude.{◌≡◌, ◌⊎◌, ℕ, zero, suc, ◌<◌, true, false, List, [], ◌∷◌, ◌++◌, length, refl}
use Rattle.std.proofs.Common.{inl, inr, ap, sym, ◌∙◌, subst, arith, append-nil, length-append}
use Rattle.std.proofs.lemmas.Bool.{cases_Bool, false≢true}
use Rattle.httparse.specs.Grammar.{ResponseHead, print_blank, print_version, print_reason, print_end, print_section}
use Rattle.httparse.specs.Grammar.{ReadsResponse}
use Rattle.httparse.proofs.GrammarLemmas.{response_unique, print_response-append}
use Rattle.http_reply.specs.Reads.{Read, whole, short, bad}
use Rattle.http_reply.specs.Heads.{HasHead, ReadsHead, FindsHead, is_interim}
use Rattle.http_reply.specs.Heads.ReadsHead.{is_whole, is_short, never, too_many}
use Rattle.http_reply.specs.Heads.FindsHead.{final, stays_short, stays_bad, interim}
use Rattle.wire_laws.specs.Lines.{FindsOne, head_decided}

abbrev Found : Type 0
Found = Read (ResponseHead × List ℕ)

whole_short : {x : ResponseHead × List ℕ} → ◌≡◌ {A = Found} short (whole x) → ⊥
whole_short e = absurd cc

whole_bad : {x : ResponseHead × List ℕ} → ◌≡◌ {A = Found} bad (whole x) → ⊥
whole_bad e = absurd cc

-- ---- the head at the front

same_whole : (bytes : List ℕ) (a b : ResponseHead) (r q : List ℕ) → HasHead bytes a r → HasHead bytes b q
    → (a ≡ b) × (r ≡ q)
same_whole bytes a b r q x y = response_unique bytes a b r q x.reads y.reads

-- a head at the front is all that the bytes read as
whole_alone : (bytes : List ℕ) (head : ResponseHead) (rest : List ℕ) (other : Found) → HasHead bytes head rest
    → ReadsHead bytes other → other ≡ whole (head, rest)
whole_alone bytes head rest other has (is_whole h r too) =
    let same = same_whole bytes h head r rest too has in
    λ i. whole (same.0 i, same.1 i)
whole_alone bytes head rest other has (is_short none may few) = absurd (none head rest has.reads)
whole_alone bytes head rest other has (never none) =
    absurd (none [] head rest (subst (λ (t : List ℕ). ReadsResponse t head rest) (sym (append-nil bytes)) has.reads))
whole_alone bytes head rest other has (too_many none many) = absurd (none head rest has)

short_or_bad : (bytes : List ℕ) → ReadsHead bytes short → ReadsHead bytes bad → ⊥
short_or_bad bytes (is_short none may few) (never none_ever) = none_ever may.0 may.1 [] may.2
short_or_bad bytes (is_short none may few) (too_many other many) = omega (arith, few, many)

-- ---- the final head

-- a head is never empty
head_shorter : (bytes : List ℕ) (head : ResponseHead) (rest : List ℕ) → HasHead bytes head rest
    → length rest < length bytes
head_shorter bytes head rest has =
    let fields = print_section head.fields head.last ++ rest in
    let line_end = print_end head.line_end ++ fields in
    let reason = print_reason head.reason ++ line_end in
    let digits = head.digits ++ reason in
    let version = print_version head.minor ++ 32 ∷ digits in
    let long = ap length (has.reads.1 ∙ print_response-append head rest) in
    omega (
      arith,
      long,
      length-append (print_blank head.blank) version,
      length-append (print_version head.minor) (32 ∷ digits),
      length-append head.digits reason,
      length-append (print_reason head.reason) line_end,
      length-append (print_end head.line_end) fields,
      length-append (print_section head.fields head.last) rest,
    )

module _ (bytes : List ℕ) (head : ResponseHead) (rest : List ℕ) (has : HasHead bytes head rest) where
  -- behind an interim head
  pub behind_interim : (found : Found) → is_interim head ≡ true → FindsHead bytes found → FindsHead rest found
  behind_interim found on (final h r too off) =
      let same = same_whole bytes h head r rest too has in
      absurd (false≢true (sym off ∙ ap is_interim same.0 ∙ on))
  behind_interim found on (stays_short reads) = absurd (whole_short (whole_alone bytes head rest short has reads))
  behind_interim found on (stays_bad reads) = absurd (whole_bad (whole_alone bytes head rest bad has reads))
  behind_interim found on (interim h r too also finds) =
      subst (λ (t : List ℕ). FindsHead t found) (same_whole bytes h head r rest too has).1 finds

  -- a final head
  pub final_alone : (found : Found) → is_interim head ≡ false → FindsHead bytes found → found ≡ whole (head, rest)
  final_alone found off (final h r too also) =
      let same = same_whole bytes h head r rest too has in
      λ i. whole (same.0 i, same.1 i)
  final_alone found off (stays_short reads) = whole_alone bytes head rest short has reads
  final_alone found off (stays_bad reads) = whole_alone bytes head rest bad has reads
  final_alone found off (interim h r too on finds) =
      let same = same_whole bytes h head r rest too has in
      absurd (false≢true (sym off ∙ ap is_interim (sym same.0) ∙ on))

-- bytes have one final head at most, or lack one in one way
pub one_final : (bytes : List ℕ) (a b : Found) → FindsHead bytes a → FindsHead bytes b → a ≡ b
one_final bytes a b (final head rest has off) y = sym (final_alone bytes head rest has b off y)
one_final bytes a b (interim head rest has on finds) y =
    one_final rest a b finds (behind_interim bytes head rest has b on y)
one_final bytes a b (stays_short reads) (final head rest has off) =
    whole_alone bytes head rest short has reads
one_final bytes a b (stays_short reads) (stays_short too) = refl
one_final bytes a b (stays_short reads) (stays_bad too) = absurd (short_or_bad bytes reads too)
one_final bytes a b (stays_short reads) (interim head rest has on finds) =
    absurd (whole_short (whole_alone bytes head rest short has reads))
one_final bytes a b (stays_bad reads) (final head rest has off) =
    whole_alone bytes head rest bad has reads
one_final bytes a b (stays_bad reads) (stays_short too) = absurd (short_or_bad bytes too reads)
one_final bytes a b (stays_bad reads) (stays_bad too) = refl
one_final bytes a b (stays_bad reads) (interim head rest has on finds) =
    absurd (whole_bad (whole_alone bytes head rest bad has reads))

-- ---- a final head or none

abbrev pub FindsFinal : List ℕ → Type 0
FindsFinal bytes = (head : ResponseHead) × (rest : List ℕ) × FindsHead bytes (whole (head, rest))

has_one : (bytes : List ℕ) (found : Found) (x : ResponseHead × List ℕ) → found ≡ whole x → FindsHead bytes found
    → FindsOne bytes
has_one bytes found x is (final head rest has off) = (head, rest, has)
has_one bytes found x is (interim head rest has on finds) = (head, rest, has)
has_one bytes found x is (stays_short reads) = absurd (whole_short is)
has_one bytes found x is (stays_bad reads) = absurd (whole_bad is)

-- an interim head, and what is behind it
interim_then : (bytes : List ℕ) (head : ResponseHead) (rest : List ℕ) → HasHead bytes head rest
    → is_interim head ≡ true → FindsFinal rest ⊎ ¬ (FindsFinal rest) → FindsFinal bytes ⊎ ¬ (FindsFinal bytes)
interim_then bytes head rest has on (inl found) = inl (found.0, found.1, interim head rest has on found.2)
interim_then bytes head rest has on (inr none) =
    inr (λ x. none (x.0, x.1, behind_interim bytes head rest has (whole (x.0, x.1)) on x.2))

final_by : (n : ℕ) (bytes : List ℕ) → length bytes < n → FindsFinal bytes ⊎ ¬ (FindsFinal bytes)
final_by zero bytes below = absurd (omega (arith, below))
final_by (suc n) bytes below = elim (head_decided bytes) [
  | inl found ↦ elim (cases_Bool (is_interim found.0)) [
    | inl on ↦
        let shorter = head_shorter bytes found.0 found.1 found.2 in
        interim_then bytes found.0 found.1 found.2 on (final_by n found.1 (omega (arith, below, shorter)))
    | inr off ↦ inl (found.0, found.1, final found.0 found.1 found.2 off)
  ]
  | inr none ↦ inr (λ x. none (has_one bytes (whole (x.0, x.1)) (x.0, x.1) refl x.2))
]

pub final_decided : (bytes : List ℕ) → FindsFinal bytes ⊎ ¬ (FindsFinal bytes)
final_decided bytes = final_by (suc (length bytes)) bytes (omega arith)
