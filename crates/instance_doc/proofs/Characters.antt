-- What holds of each way in which a character is written.
use Rattle.std.proofs.Common.{◌≡◌, ℕ, ◌≤◌, ◌+◌, ◌/◌, ◌==◌, Bool, true, false, cond, List, [], ◌∷◌, refl, arith}
use Rattle.std.proofs.Common.{ltb}
use Rattle.std.proofs.Common.{nat_le}
use Rattle.std.specs.List.{list_all}
use Rattle.std.proofs.Math.Utf8.{encode, next}
use Rattle.std.proofs.lemmas.Bool.{and_from, le-leb}
use Rattle.field_text.specs.Xml.{xml_char_of}
use Rattle.rosa_doc.specs.Escapes.{in_text, in_value}

abbrev pub are_high : List ℕ → Bool
are_high bytes = list_all (λ b. nat_le 128 b) bytes

high_then : (b : ℕ) (bs : List ℕ) → 128 ≤ b → are_high bs ≡ true → are_high (b ∷ bs) ≡ true
high_then b bs high h = and_from (nat_le 128 b) (are_high bs) (le-leb 128 b high) h

abbrev two : ℕ → List ℕ
two c = (192 + c / 64) ∷ next c ∷ []

abbrev three : ℕ → List ℕ
three c = (224 + c / 4096) ∷ next (c / 64) ∷ next c ∷ []

abbrev four : ℕ → List ℕ
four c = (240 + c / 262144) ∷ next (c / 4096) ∷ next (c / 64) ∷ next c ∷ []

last_high : (c : ℕ) → are_high (next c ∷ []) ≡ true
last_high c = high_then (next c) [] (omega arith) refl

last_two_high : (c : ℕ) → are_high (next (c / 64) ∷ next c ∷ []) ≡ true
last_two_high c = high_then (next (c / 64)) (next c ∷ []) (omega arith) (last_high c)

last_three_high : (c : ℕ) → are_high (next (c / 4096) ∷ next (c / 64) ∷ next c ∷ []) ≡ true
last_three_high c = high_then (next (c / 4096)) (next (c / 64) ∷ next c ∷ []) (omega arith) (last_two_high c)

-- in UTF-8: the one byte that it is, or bytes above ASCII
pub of_utf8 : (P : List ℕ → Type 0) (c : ℕ) → P (c ∷ [])
    → ((b : ℕ) (bs : List ℕ) → are_high (b ∷ bs) ≡ true → P (b ∷ bs)) → P (encode c)
unfolding encode
of_utf8 P c one more =
    elim (ltb c 128) as (λ b. P (cond b (c ∷ []) (cond (ltb c 2048) (two c) (cond (ltb c 65536) (three c) (four c))))) [
      | true ↦ one
      | false ↦ elim (ltb c 2048) as (λ b. P (cond b (two c) (cond (ltb c 65536) (three c) (four c)))) [
        | true ↦ more (192 + c / 64) (next c ∷ []) (high_then (192 + c / 64) (next c ∷ []) (omega arith) (last_high c))
        | false ↦ elim (ltb c 65536) as (λ b. P (cond b (three c) (four c))) [
          | true ↦ more (224 + c / 4096) (next (c / 64) ∷ next c ∷ [])
              (high_then (224 + c / 4096) (next (c / 64) ∷ next c ∷ []) (omega arith) (last_two_high c))
          | false ↦ more (240 + c / 262144) (next (c / 4096) ∷ next (c / 64) ∷ next c ∷ [])
              (high_then (240 + c / 262144) (next (c / 4096) ∷ next (c / 64) ∷ next c ∷ []) (omega arith)
              (last_three_high c))
        ]
      ]
    ]

abbrev and_sign : List ℕ
and_sign = 38 ∷ 97 ∷ 109 ∷ 112 ∷ 59 ∷ []

abbrev less_sign : List ℕ
less_sign = 38 ∷ 108 ∷ 116 ∷ 59 ∷ []

abbrev greater_sign : List ℕ
greater_sign = 38 ∷ 103 ∷ 116 ∷ 59 ∷ []

abbrev return_sign : List ℕ
return_sign = 38 ∷ 35 ∷ 49 ∷ 51 ∷ 59 ∷ []

-- in a text: a reference, or a character that is no carriage return
pub of_text : (P : List ℕ → Type 0) (c : ℕ) → P and_sign → P less_sign → P greater_sign → P return_sign
    → ((c == 13) ≡ false → P (encode (xml_char_of c))) → P (in_text c)
unfolding encode
of_text P c and less greater return other =
    let rest = encode (xml_char_of c) in
    elim (c == 38) as (λ b. P
    (cond b and_sign (cond (c == 60) less_sign (cond (c == 62) greater_sign (cond (c == 13) return_sign rest))))) [
      | true ↦ and
      | false ↦ elim
          (c == 60) as (λ b. P (cond b less_sign (cond (c == 62) greater_sign (cond (c == 13) return_sign rest)))) [
            | true ↦ less
            | false ↦ elim (c == 62) as (λ b. P (cond b greater_sign (cond (c == 13) return_sign rest))) [
              | true ↦ greater
              | false ↦ elim (c == 13) as (λ b. (c == 13) ≡ b → P (cond b return_sign rest)) [
                | true ↦ λ e. return
                | false ↦ other
              ] refl
            ]
          ]
    ]

abbrev quote_sign : List ℕ
quote_sign = 38 ∷ 113 ∷ 117 ∷ 111 ∷ 116 ∷ 59 ∷ []

abbrev tab_sign : List ℕ
tab_sign = 38 ∷ 35 ∷ 57 ∷ 59 ∷ []

abbrev feed_sign : List ℕ
feed_sign = 38 ∷ 35 ∷ 49 ∷ 48 ∷ 59 ∷ []

-- in a value: a reference, or as in a text
pub of_value : (P : List ℕ → Type 0) (c : ℕ) → P quote_sign → P tab_sign → P feed_sign → P (in_text c) → P (in_value c)
unfolding encode
of_value P c quote tab feed other =
    elim (c == 34) as (λ b. P (cond b quote_sign (cond (c == 9) tab_sign (cond (c == 10) feed_sign (in_text c))))) [
      | true ↦ quote
      | false ↦ elim (c == 9) as (λ b. P (cond b tab_sign (cond (c == 10) feed_sign (in_text c)))) [
        | true ↦ tab
        | false ↦ elim (c == 10) as (λ b. P (cond b feed_sign (in_text c))) [
          | true ↦ feed
          | false ↦ other
        ]
      ]
    ]
