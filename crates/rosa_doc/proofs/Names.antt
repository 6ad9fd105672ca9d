-- Names that are written alike are equal.
use Rattle.std.proofs.Common.{◌≡◌, Bool, true, List, ℕ, Option, Some, None, refl, ap, ◌∙◌}
use Rattle.std.specs.Str.{bytes_eq}
use Rattle.std.specs.Bool.{Decides}
use Rattle.std.proofs.lemmas.Bool.{and_parts}
use Rattle.std.proofs.lemmas.Slice.Eq.{bytes_eq-Decides}
use Rattle.rosa_pieces.specs.declared.piece.Name.{Name}
use Rattle.rosa_pieces.specs.Pieces.{same_name, same_prefix}

decided : {P : Type 0} (b : Bool) → Decides b P → b ≡ true → P
decided b d e = d.0 e

holding : {P : Type 0} (b : Bool) → Decides b P → P → b ≡ true
holding b d p = d.1 p

same_bytes : (xs ys : List ℕ) → bytes_eq xs ys ≡ true → xs ≡ ys
same_bytes xs ys e = decided (bytes_eq xs ys) (bytes_eq-Decides xs ys) e

pub bytes_alike : (xs : List ℕ) → bytes_eq xs xs ≡ true
bytes_alike xs = holding (bytes_eq xs xs) (bytes_eq-Decides xs xs) refl

same_prefixes : (p q : Option (List ℕ)) → same_prefix p q ≡ true → p ≡ q
same_prefixes None None e = refl
same_prefixes None (Some q) e = absurd cc
same_prefixes (Some p) None e = absurd cc
same_prefixes (Some p) (Some q) e = ap (λ (x : List ℕ). Some x) (same_bytes p q e)

prefix_alike : (p : Option (List ℕ)) → same_prefix p p ≡ true
prefix_alike None = refl
prefix_alike (Some p) = bytes_alike p

pub same_names : (m n : Name) → same_name m n ≡ true → m ≡ n
same_names m n e =
    let a = and_parts (same_prefix m.prefix n.prefix) (bytes_eq m.local n.local) e in
    let p = same_prefixes m.prefix n.prefix a.0 in
    let l = same_bytes m.local n.local a.1 in
    ap (λ (x : Option (List ℕ)). record { prefix = x; local = m.local }) p ∙ ap (λ (x : List ℕ). record { prefix = n.prefix; local = x }) l

pub name_alike : (n : Name) → same_name n n ≡ true
name_alike n = rw (prefix_alike n.prefix, bytes_alike n.local) refl
