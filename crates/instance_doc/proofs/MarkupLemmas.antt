-- An element without anything inside becomes one tag.
use Rattle.std.proofs.Common.{◌≡◌, ℕ, ◌≤◌, ◌-◌, ◌+◌, List, [], ◌∷◌, ◌++◌, codes, length, take, refl, sym, ap, ◌∙◌}
use Rattle.std.proofs.Common.{append_assoc, arith}
use Rattle.std.proofs.Math.Utf8.{encode}
use Rattle.std.proofs.lemmas.List.{append-nil, length-append, take-append-le, take_all}
use Rattle.instance_doc.specs.Markup.{element, in_utf8, start_tag}

grown : (out new a rest : List ℕ) → new ≡ out ++ a → new ++ rest ≡ out ++ (a ++ rest)
grown out new a rest h = ap (λ (x : List ℕ). x ++ rest) h ∙ append_assoc out a rest

-- a start tag without its `>`
abbrev front : List ℕ → List ℕ
front name = 60 ∷ in_utf8 name

start_is : (name : List ℕ) → start_tag name ≡ front name ++ (62 ∷ [])
unfolding encode
start_is name = refl

all_but_last : (xs : List ℕ) (x : ℕ) → take (length (xs ++ (x ∷ [])) - 1) (xs ++ (x ∷ [])) ≡ xs
all_but_last xs x =
    let n : length (xs ++ (x ∷ [])) - 1 ≡ length xs = omega (arith, length-append xs (x ∷ [])) in
    ap (λ (k : ℕ). take k (xs ++ (x ∷ []))) n
    ∙ (take-append-le (length xs) xs (x ∷ []) (omega arith) ∙ take_all (length xs) xs (omega arith))

-- where no more stands, it becomes the one tag
pub emptied : (name before content out popped new : List ℕ) → out ≡ before ++ (start_tag name ++ content)
    → length out ≤ length (before ++ start_tag name)
    → popped ≡ take (length out - 1) out → new ≡ popped ++ codes "/>" → new ≡ before ++ element name content
unfolding encode
emptied name before [] out popped new h low k l =
    let e : out ≡ (before ++ front name) ++ (62 ∷ []) =
    h ∙ (ap (λ (x : List ℕ). before ++ x) (append-nil (start_tag name) ∙ start_is name)
    ∙ sym (append_assoc before (front name) (62 ∷ []))) in
    let left : popped ≡ before ++ front name = k
    ∙ (ap (λ (x : List ℕ). take (length x - 1) x) e ∙ all_but_last (before ++ front name) 62) in
    l ∙ grown before popped (front name) (codes "/>") left
emptied name before (b ∷ bs) out popped new h low k l =
    absurd (let e : length out ≡ length (before ++ start_tag name) + length (b ∷ bs) =
    ap length h
    ∙ (ap length (sym (append_assoc before (start_tag name) (b ∷ bs)))
    ∙ length-append (before ++ start_tag name) (b ∷ bs)) in
    let some : length (b ∷ bs) ≡ length bs + 1 = omega arith in omega (arith, low, e, some))
