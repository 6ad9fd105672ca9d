-- What spells a character of a text is characters.
use Rattle.std.proofs.Common.{◌≡◌, ℕ, ◌<◌, ◌≤◌, ◌==◌, Bool, true, false, cond, List, [], ◌∷◌, ◌++◌, Option, Some, None, codes, refl, ap, ◌∙◌, inl, inr, arith, nat_lt}
use Rattle.std.specs.List.{list_all}
use Rattle.std.specs.Str.{bytes_eq}
use Rattle.std.specs.Char.{digit_value}
use Rattle.std.proofs.Math.Utf8.{scalar, scalars, low_scalar}
use Rattle.std.proofs.lemmas.Bool.{and_parts, and_from, ltb-true, eqb-true, le-ltb, cases_lt}
use Rattle.std.proofs.lemmas.Slice.Eq.{bytes_eq-Decides}
use Rattle.field_text.specs.Xml.{is_xml_char}
use Rattle.rosa_pieces.specs.declared.piece.CharData.{CharData}
use Rattle.rosa_pieces.specs.declared.piece.CharData.TheVariants.{Literal, Reference}
use Rattle.rosa_pieces.specs.Pieces.{IsCharData, referenced, numeric, numbered, named}
use Rattle.rosa_doc.proofs.LocalNames.{xml_char_is_scalar}

pub scalars-append : (xs ys : List ℕ) → scalars xs ≡ true → scalars ys ≡ true → scalars (xs ++ ys) ≡ true
scalars-append [] ys h k = k
scalars-append (x ∷ xs) ys h k =
    let both = and_parts (scalar x) (scalars xs) h in
    and_from (scalar x) (scalars (xs ++ ys)) both.0 (scalars-append xs ys both.1 k)

none_some : {A : Type 0} {x : A} → None ≡ Some x → ⊥
none_some is = cc

chosen : {A : Type 0} (b : Bool) (x y : A) → cond b (Some x) None ≡ Some y → b ≡ true
chosen true x y h = refl
chosen false x y h = absurd (none_some h)

one_or : {A : Type 0} {P : Type 0} (b : Bool) (x y : A) (other : Option A) → (b ≡ true → P) → (other ≡ Some y → P) → cond b (Some x) other ≡ Some y → P
one_or true x y other f g h = f refl
one_or false x y other f g h = g h

-- ---- references

digit_is_low : (c : ℕ) → 123 ≤ c → digit_value c ≡ 36
digit_is_low c high =
    rw (le-ltb c 48 (omega (arith, high)), le-ltb c 58 (omega (arith, high)), le-ltb c 65 (omega (arith, high)), le-ltb c 91 (omega (arith, high)), le-ltb c 97 (omega (arith, high)), le-ltb c 123 (omega (arith, high))) refl

digit_is_scalar : (base c : ℕ) → base ≤ 16 → nat_lt (digit_value c) base ≡ true → scalar c ≡ true
digit_is_scalar base c low h = elim (cases_lt c 123) [
  | inl lt ↦ low_scalar c (omega (arith, lt))
  | inr le ↦ absurd (let d = digit_is_low c le in let l = ltb-true (digit_value c) base h in omega (arith, d, l, low))
]

digits_are_scalars : (base : ℕ) (cs : List ℕ) → base ≤ 16 → list_all (λ c. nat_lt (digit_value c) base) cs ≡ true → scalars cs ≡ true
digits_are_scalars base [] low h = refl
digits_are_scalars base (c ∷ cs) low h =
    let both = and_parts (nat_lt (digit_value c) base) (list_all (λ c. nat_lt (digit_value c) base) cs) h in
    and_from (scalar c) (scalars cs) (digit_is_scalar base c low both.0) (digits_are_scalars base cs low both.1)

numbered_is_scalars : (base : ℕ) (cs : List ℕ) (c : ℕ) → base ≤ 16 → numbered base cs ≡ Some c → scalars cs ≡ true
numbered_is_scalars base [] c low h = refl
numbered_is_scalars base (d ∷ ds) c low h =
    digits_are_scalars base (d ∷ ds) low (and_parts (list_all (λ c. nat_lt (digit_value c) base) (d ∷ ds)) _ (chosen _ _ c h)).0

numeric_is_scalars : (cs : List ℕ) (c : ℕ) → numeric cs ≡ Some c → scalars cs ≡ true
numeric_is_scalars [] c h = refl
numeric_is_scalars (x ∷ xs) c h = elim (x == 120) as (λ b. (x == 120) ≡ b → cond b (numbered 16 xs) (numbered 10 (x ∷ xs)) ≡ Some c → scalars (x ∷ xs) ≡ true) [
  | true ↦ λ e k. rw (eqb-true x 120 e) (numbered_is_scalars 16 xs c (omega arith) k)
  | false ↦ λ e k. numbered_is_scalars 10 (x ∷ xs) c (omega arith) k
] refl h

is_code : (name code : List ℕ) → scalars code ≡ true → bytes_eq name code ≡ true → scalars name ≡ true
is_code name code h e = ap scalars ((bytes_eq-Decides name code).0 e) ∙ h

named_is_scalars : (name : List ℕ) (c : ℕ) → named name ≡ Some c → scalars name ≡ true
named_is_scalars name c =
    one_or (bytes_eq name (codes "amp")) 38 c _ (is_code name (codes "amp") refl)
    (one_or (bytes_eq name (codes "lt")) 60 c _ (is_code name (codes "lt") refl)
    (one_or (bytes_eq name (codes "gt")) 62 c _ (is_code name (codes "gt") refl)
    (one_or (bytes_eq name (codes "quot")) 34 c _ (is_code name (codes "quot") refl)
    (one_or (bytes_eq name (codes "apos")) 39 c None (is_code name (codes "apos") refl) (λ h. absurd (none_some h))))))

reference_is_scalars : (inside : List ℕ) (c : ℕ) → referenced inside ≡ Some c → scalars inside ≡ true
reference_is_scalars [] c h = refl
reference_is_scalars (x ∷ xs) c h = elim (x == 35) as (λ b. (x == 35) ≡ b → cond b (numeric xs) (named (x ∷ xs)) ≡ Some c → scalars (x ∷ xs) ≡ true) [
  | true ↦ λ e k. rw (eqb-true x 35 e) (numeric_is_scalars xs c k)
  | false ↦ λ e k. named_is_scalars (x ∷ xs) c k
] refl h

-- ---- characters of a text

pub data_is_scalars : (d : CharData) (cs : List ℕ) → IsCharData d cs → scalars cs ≡ true
data_is_scalars (Literal c) cs h =
    ap scalars h.1 ∙ and_from (scalar c) true (xml_char_is_scalar c (and_parts (is_xml_char c) _ h.0).0) refl
data_is_scalars (Reference c) cs (inside, others, is, parts) =
    ap scalars parts ∙ scalars-append inside (59 ∷ []) (reference_is_scalars inside c is) refl
