-- What is left of a text behind white space, or in front of it, is a text.
use Rattle.std.specs.Prelude.{◌≡◌, ℕ, ◌<◌, true, List, [], ◌∷◌, ◌++◌, length, reverse}
use Rattle.std.proofs.Common.{arith, get_or, subst}
use Rattle.std.specs.Str.{IsUtf8}
use Rattle.std.proofs.Math.Seq.{get_or-append_seam, take-append_seam}
use Rattle.std.proofs.lemmas.List.{length-append, reverse-append, reverse-reverse}
use Rattle.std.proofs.lemmas.Bool.{cond_both, eqb-true}
use Rattle.std.proofs.lemmas.Str.{IsUtf8-drop, IsUtf8-take, IsCharBoundary-after_ascii, IsCharBoundary-before_ascii}
use Rattle.field_text.specs.Xml.{is_xml_space}
use Rattle.rosa_nodes.specs.Trimming.{trimmed_front, trimmed}

space_is_low : (c : ℕ) → is_xml_space c ≡ true → c < 128
space_is_low c h = grind (arith, eqb-true)

front_is_text : (c : ℕ) (cs : List ℕ) → IsUtf8 (c ∷ cs) → c < 128 → IsUtf8 cs
front_is_text c cs text low = IsUtf8-drop (c ∷ cs) 1 text (IsCharBoundary-after_ascii (c ∷ cs) 0 text (omega arith) low)

back_is_text : (cs : List ℕ) (c : ℕ) → IsUtf8 (cs ++ c ∷ []) → c < 128 → IsUtf8 cs
back_is_text cs c text low =
    let place : length cs < length (cs ++ c ∷ []) = omega (arith, length-append cs (c ∷ [])) in
    let last : get_or (cs ++ c ∷ []) (length cs) 0 < 128 = rw get_or-append_seam low in
    subst IsUtf8 (take-append_seam cs (c ∷ [])) (IsUtf8-take (cs ++ c ∷ []) (length cs) text (IsCharBoundary-before_ascii (cs ++ c ∷ []) (length cs) place last))

pub trimmed_front-IsUtf8 : (cs : List ℕ) → IsUtf8 cs → IsUtf8 (trimmed_front cs)
trimmed_front-IsUtf8 [] text = text
trimmed_front-IsUtf8 (c ∷ cs) text =
    cond_both (is_xml_space c) (trimmed_front cs) (c ∷ cs) IsUtf8
    (λ space. trimmed_front-IsUtf8 cs (front_is_text c cs text (space_is_low c space))) (λ _. text)

-- the same of a list read from its end
reversed : (cs : List ℕ) → IsUtf8 (reverse cs) → IsUtf8 (reverse (trimmed_front cs))
reversed [] text = text
reversed (c ∷ cs) text =
    let parts : reverse (c ∷ cs) ≡ reverse cs ++ c ∷ [] = reverse-append (c ∷ []) cs in
    cond_both (is_xml_space c) (trimmed_front cs) (c ∷ cs) (λ left. IsUtf8 (reverse left))
    (λ space. reversed cs (back_is_text (reverse cs) c (subst IsUtf8 parts text) (space_is_low c space))) (λ _. text)

pub trimmed-IsUtf8 : (cs : List ℕ) → IsUtf8 cs → IsUtf8 (trimmed cs)
trimmed-IsUtf8 cs text =
    reversed (reverse (trimmed_front cs)) (rw reverse-reverse (trimmed_front-IsUtf8 cs text))
