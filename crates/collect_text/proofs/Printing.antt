-- What is printed is read again.
use Rattle.std.proofs.Common.{◌≡◌, ℕ, Bool, true, false, not, cond, ◌&&◌, eqb, ltb, List, [], ◌∷◌, ◌++◌, length, refl, sym, ap, ◌∙◌, arith, append_assoc, append-nil, inl, inr, Option, Some, None}
use Rattle.std.specs.Prelude.{◌⊎◌, All, option_and_then}
use Rattle.std.specs.List.{flat_map, list_all, AllByRecursion}
use Rattle.std.proofs.lemmas.Bool.Decides.{nat_tests, eqb_tells}
use Rattle.std.proofs.lemmas.Str.{is_utf8-from_IsUtf8}
use Rattle.std.proofs.lemmas.List.Concat.{flat_map-cons}
use Rattle.std.proofs.lemmas.List.Elements.{recursion_from_All}
use Rattle.collect_text.specs.Words.{is_bare, spelled, between, bare, quoted, byte_then, all_utf8, texts_only, words_of}
use Rattle.collect_text.specs.Parts.{word_then, ends_word}
use Rattle.collect_text.specs.Printed.{is_bare_word, escape, printed_text, printed_words, is_legible, IsLegible}
use Rattle.collect_text.proofs.Reading.{bytes_then, bytes_then-none, bytes_then-end, closed-end}

pub bool_tells : (b : Bool) → (b ≡ true) ⊎ (b ≡ false)
bool_tells true = inl refl
bool_tells false = inr refl

both : (x y : Bool) → (x && y) ≡ true → (x ≡ true) × (y ≡ true)
both true y h = (refl, h)
both false y h = cc

-- a byte of which no escape speaks
plain : (b : ℕ) → is_legible b ≡ true → (b ≡ 10 → ⊥) → (b ≡ 13 → ⊥) → (b ≡ 9 → ⊥) → ltb b 32 ≡ false
plain b good feed return tab = grind (arith, nat_tests)

-- a byte between quotes is read as itself, whatever follows
quoted-escape : (b : ℕ) (rest : List ℕ) → is_legible b ≡ true → spelled quoted (escape b ++ rest) ≡ byte_then b (spelled quoted rest)
quoted-escape b rest good =
    elim (eqb_tells b 92) [
      | inl backslash ↦ rw backslash.1 refl
      | inr backslash ↦ elim (eqb_tells b 34) [
        | inl quote ↦ rw quote.1 refl
        | inr quote ↦ elim (eqb_tells b 10) [
          | inl feed ↦ rw feed.1 refl
          | inr feed ↦ elim (eqb_tells b 13) [
            | inl return ↦ rw return.1 refl
            | inr return ↦ elim (eqb_tells b 9) [
              | inl tab ↦ rw tab.1 refl
              | inr tab ↦
                  let visible = plain b good feed.1 return.1 tab.1 in
                  simp (backslash.0, quote.0, feed.0, return.0, tab.0, visible)
            ]
          ]
        ]
      ]
    ]

byte_then-bytes : (b : ℕ) (bs : List ℕ) (rest : Option (List (List ℕ))) → byte_then b (bytes_then bs rest) ≡ bytes_then (b ∷ bs) rest
byte_then-bytes b bs None = refl
byte_then-bytes b bs (Some ws) = refl

byte_then-word : (b : ℕ) (bs : List ℕ) (rest : Option (List (List ℕ))) → byte_then b (word_then bs rest) ≡ word_then (b ∷ bs) rest
byte_then-word b bs None = refl
byte_then-word b bs (Some ws) = refl

quoted-text : (text rest : List ℕ) → list_all is_legible text ≡ true → spelled quoted (flat_map escape text ++ rest) ≡ bytes_then text (spelled quoted rest)
quoted-text [] rest good = bytes_then-none (spelled quoted rest)
quoted-text (b ∷ bs) rest good =
    let parts = both (is_legible b) (list_all is_legible bs) good in
    ap (λ l. spelled quoted (l ++ rest)) (flat_map-cons escape b bs)
    ∙ ap (spelled quoted) (append_assoc (escape b) (flat_map escape bs) rest)
    ∙ quoted-escape b (flat_map escape bs ++ rest) parts.0
    ∙ ap (byte_then b) (quoted-text bs rest parts.1)
    ∙ byte_then-bytes b bs (spelled quoted rest)

not_space : (b : ℕ) → is_bare b ≡ true → eqb b 32 ≡ false
not_space b good = grind (arith, nat_tests)

not_quote : (b : ℕ) → is_bare b ≡ true → eqb b 34 ≡ false
not_quote b good = grind (arith, nat_tests)

bare-end : (rest : List ℕ) → ends_word rest ≡ true → spelled bare rest ≡ word_then [] (spelled between rest)
bare-end [] ends = refl
bare-end (b ∷ bs) ends = rw ends refl

bare-text : (text rest : List ℕ) → list_all is_bare text ≡ true → ends_word rest ≡ true → spelled bare (text ++ rest) ≡ word_then text (spelled between rest)
bare-text [] rest good ends = bare-end rest ends
bare-text (b ∷ bs) rest good ends =
    let parts = both (is_bare b) (list_all is_bare bs) good in
    let space = not_space b parts.0 in
    rw (space, parts.0)
    (ap (byte_then b) (bare-text bs rest parts.1 ends) ∙ byte_then-word b bs (spelled between rest))

bare-printed : (text rest : List ℕ) → is_bare_word text ≡ true → ends_word rest ≡ true → spelled between (text ++ rest) ≡ word_then text (spelled between rest)
bare-printed [] rest good ends = cc
bare-printed (b ∷ bs) rest good ends =
    let all = (both (not (eqb (length (b ∷ bs)) 0)) (list_all is_bare (b ∷ bs)) good).1 in
    let parts = both (is_bare b) (list_all is_bare bs) all in
    let space = not_space b parts.0 in
    let quote = not_quote b parts.0 in
    rw (space, parts.0, quote)
    (ap (byte_then b) (bare-text bs rest parts.1 ends) ∙ byte_then-word b bs (spelled between rest))

quoted-printed : (text rest : List ℕ) → list_all is_legible text ≡ true → ends_word rest ≡ true → spelled quoted ((flat_map escape text ++ 34 ∷ []) ++ rest) ≡ word_then text (spelled between rest)
quoted-printed text rest good ends =
    ap (spelled quoted) (append_assoc (flat_map escape text) (34 ∷ []) rest)
    ∙ quoted-text text (34 ∷ rest) good
    ∙ ap (bytes_then text) (closed-end rest ends)
    ∙ bytes_then-end text (spelled between rest)

-- a printed word is read again, whatever follows
pub between-printed : (text rest : List ℕ) → list_all is_legible text ≡ true → ends_word rest ≡ true → spelled between (printed_text text ++ rest) ≡ word_then text (spelled between rest)
between-printed text rest good ends =
    elim (bool_tells (is_bare_word text)) [
      | inl is ↦ rw is (bare-printed text rest is ends)
      | inr is ↦ rw is (quoted-printed text rest good ends)
    ]

spelled-printed : (texts : List (List ℕ)) → AllByRecursion IsLegible texts → spelled between (printed_words texts) ≡ Some texts
spelled-printed [] good = refl
spelled-printed (t ∷ []) good = ap (spelled between) (sym (append-nil (printed_text t))) ∙ between-printed t [] good.0.1 refl
spelled-printed (t ∷ u ∷ ts) good =
    between-printed t (32 ∷ printed_words (u ∷ ts)) good.0.1 refl
    ∙ ap (word_then t) (spelled-printed (u ∷ ts) good.1)

texts_only-legible : (texts : List (List ℕ)) → AllByRecursion IsLegible texts → all_utf8 texts ≡ true
texts_only-legible [] good = refl
texts_only-legible (t ∷ ts) good = rw (is_utf8-from_IsUtf8 t good.0.0) (texts_only-legible ts good.1)

pub printed_words-read : (texts : List (List ℕ)) → All IsLegible texts → words_of (printed_words texts) ≡ Some texts
printed_words-read texts good =
    let each = recursion_from_All IsLegible texts good in
    ap (option_and_then texts_only) (spelled-printed texts each)
    ∙ ap (λ t. cond t (Some texts) None) (texts_only-legible texts each)
