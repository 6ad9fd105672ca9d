-- What a sink gains in one call and then in another.
use Rattle.std.proofs.Common.{◌≡◌, ℕ, ◌-◌, List, [], ◌++◌, length, take, drop, Option, Some, None, Result, Ok, Err, ap, sym, ◌∙◌, append_assoc, arith, length-append}
use Rattle.std.proofs.lemmas.List.{take-append-drop, take_all, append-nil}
use Rattle.std.proofs.Math.ListN.{length-drop}
use Rattle.line_io.specs.Output.{Gained, IsCut, PutsText}
use Rattle.line_io.specs.Script.{Taken}

pub gained_then : (a b c : Option (List ℕ)) (x y : List ℕ) → Gained a b x → Gained b c y → Gained a c (x ++ y)
gained_then a b None x y first second = tt
gained_then a None (Some held) x y first second = absurd (cc)
gained_then None (Some between) (Some held) x y first second = absurd (cc)
gained_then (Some before) (Some between) (Some held) x y first second =
    let f : before ++ x ≡ between = cc in
    let s : between ++ y ≡ held = cc in
    ap Some (sym (append_assoc before x y) ∙ ap (λ b. b ++ y) f ∙ s)

-- the text that a sink gains before anything is put
pub gained_nothing : (a : Option (List ℕ)) → Gained a a []
gained_nothing None = tt
gained_nothing (Some held) = ap Some (append-nil held)

-- what is left of bytes after some of them have gone
pub gone_further : (bytes gone rest left : List ℕ) (n : ℕ) → bytes ≡ gone ++ rest → left ≡ drop n rest → bytes ≡ (gone ++ take n rest) ++ left
gone_further bytes gone rest left n is left_is =
    is ∙ ap (λ xs. gone ++ xs) (sym (take-append-drop n rest)) ∙ sym (append_assoc gone (take n rest) (drop n rest)) ∙ ap (λ xs. (gone ++ take n rest) ++ xs) (sym left_is)

-- a range to the end is what is behind its start
pub range_to_end : (n : ℕ) (xs : List ℕ) → take (length xs - n) (drop n xs) ≡ drop n xs
range_to_end n xs = take_all _ _ (let e = length-drop n xs in omega arith)

-- what is taken in one call and then in another
pub taken_then : (a b c : Option (List ℕ)) (x y : List ℕ) → Taken a b x → Taken b c y → Taken a c (x ++ y)
taken_then a b None x y first second = tt
taken_then a None (Some rest) x y first second = absurd (cc)
taken_then a (Some between) (Some rest) x y first second =
    let s : between ≡ y ++ rest = cc in
    first ∙ ap (λ b. Some (x ++ b)) s ∙ ap Some (sym (append_assoc x y rest))

-- text put behind text that is out
pub puts_then : {T E : Type 0} (a b c : Option (List ℕ)) (result : Result T E) (x y : List ℕ) → Gained a b x → PutsText b c result y → PutsText a c result (x ++ y)
puts_then a b c (Ok done) x y first second = gained_then a b c x y first second
puts_then a b c (Err failed) x y first second =
    let cut = second.1 in (
      x ++ second.0,
      record { missing = cut.missing; some = cut.some; joined = ap (λ t. x ++ t) cut.joined ∙ sym (append_assoc x second.0 cut.missing) },
      gained_then a b c x second.0 first second.2,
    )

-- a text that was cut is the front of a longer one too
pub cut_longer : (a b : Option (List ℕ)) (x y : List ℕ) → ((cut : List ℕ) × IsCut cut x × Gained a b cut) → ((cut : List ℕ) × IsCut cut (x ++ y) × Gained a b cut)
cut_longer a b x y h =
    let cut = h.1 in
    (h.0, record { missing = cut.missing ++ y; some = (let e = length-append cut.missing y in let s = cut.some in omega arith); joined = ap (λ t. t ++ y) cut.joined ∙ append_assoc h.0 cut.missing y }, h.2)
