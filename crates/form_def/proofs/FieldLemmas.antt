-- Fields one after the other: paths that differ, and numbers that are placed.
use Rattle.std.specs.Prelude.{ℕ, suc, ◌<◌, ◌≡◌, ◌≢◌, ◌↔◌, IsTrue, Bool, true, false, not, ◌&&◌, nat_lt, List, [], ◌∷◌, length, slice_set, refl}
use Rattle.std.specs.List.{list_all}
use Rattle.std.proofs.Common.{ap, sym, subst, ◌∙◌, eqb-true, ltb-true, get_or-set_same, get_or-set_other, arith, eqb, set}
use Rattle.std.proofs.lemmas.Bool.{eqb-false, false≢true, and_parts}
use Rattle.std.proofs.lemmas.List.Kept.{AllPairs-cons}
use Rattle.form_def.specs.declared.field.Field.{Field}
use Rattle.form_def.specs.Fields.{PathsDiffer, LacksPath}
use Rattle.form_def.specs.Order.{is_among, is_marked, may_come, are_ordered}

differ_first : (f : Field) (fs : List Field) → PathsDiffer (f ∷ fs) → LacksPath f.path fs
differ_first f fs differ = λ k d within. differ 0 (suc k) d (omega arith) (omega arith)

differ_others : (f : Field) (fs : List Field) → PathsDiffer (f ∷ fs) → PathsDiffer fs
differ_others f fs differ = λ i j d below within. differ (suc i) (suc j) d (omega arith) (omega arith)

pub differ_stop : (fields rest : List Field) (f : Field) (fs : List Field) (new : Bool) → (PathsDiffer fields ↔ PathsDiffer rest) → rest ≡ f ∷ fs
    → (IsTrue new ↔ LacksPath f.path fs) → new ≡ false → IsTrue false ↔ PathsDiffer fields
differ_stop fields rest f fs new so_far split is off =
    (λ h. absurd (false≢true h), λ differ. sym off ∙ is.1 (differ_first f fs (subst PathsDiffer split (so_far.0 differ))))

pub differ_go_on : (fields rest : List Field) (f : Field) (fs : List Field) (new : Bool) → (PathsDiffer fields ↔ PathsDiffer rest) → rest ≡ f ∷ fs
    → (IsTrue new ↔ LacksPath f.path fs) → new ≡ true → PathsDiffer fields ↔ PathsDiffer fs
differ_go_on fields rest f fs new so_far split is on = (
  λ differ. differ_others f fs (subst PathsDiffer split (so_far.0 differ)),
  λ differ. so_far.1 (subst PathsDiffer (sym split) (AllPairs-cons (λ a b. a.path ≢ b.path) f fs (is.0 on) differ)),
)

list_all-same : (p q : ℕ → Bool) (xs : List ℕ) → ((x : ℕ) → p x ≡ q x) → list_all p xs ≡ list_all q xs
list_all-same p q [] same = refl
list_all-same p q (x ∷ xs) same = rw (same x, list_all-same p q xs same)

pub may_come-same : (count : ℕ) (needs : ℕ → List ℕ) (p q : ℕ → Bool) (number : ℕ) → ((x : ℕ) → p x ≡ q x) → may_come count needs p number ≡ may_come count needs q number
may_come-same count needs p q number same = rw (same number, list_all-same p q (needs number) same)

marked_at : (marks : List Bool) (number : ℕ) (before : List ℕ) → number < length marks → ((j : ℕ) → is_marked marks j ≡ is_among before j)
    → (j : ℕ) (b : Bool) → eqb number j ≡ b → is_marked (set marks number true) j ≡ is_among (number ∷ before) j
marked_at marks number before within same j true e = let here : number ≡ j = eqb-true number j e in rw (e, ← here) (get_or-set_same marks number true false within)
marked_at marks number before within same j false e =
    let other : j ≢ number = λ h. eqb-false number j e (sym h) in rw e (get_or-set_other marks number j true false other ∙ same j)

pub is_marked-set : (marks : List Bool) (number : ℕ) (before : List ℕ) → number < length marks → ((j : ℕ) → is_marked marks j ≡ is_among before j)
    → (j : ℕ) → is_marked (slice_set marks number true) j ≡ is_among (number ∷ before) j
is_marked-set marks number before within same j = marked_at marks number before within same j (eqb number j) refl

pub are_ordered-more : (count : ℕ) (needs : ℕ → List ℕ) (before : List ℕ) (marks : List Bool) (number : ℕ) (numbers rest all : List ℕ)
    → ((j : ℕ) → is_marked marks j ≡ is_among before j) → rest ≡ number ∷ numbers → may_come count needs (is_marked marks) number ≡ true
    → are_ordered count needs before rest ≡ are_ordered count needs [] all → are_ordered count needs (number ∷ before) numbers ≡ are_ordered count needs [] all
are_ordered-more count needs before marks number numbers rest all same split may so_far =
    let here : may_come count needs (is_among before) number ≡ true = sym (may_come-same count needs (is_marked marks) (is_among before) number same) ∙ may in
    sym (ap (λ r. are_ordered count needs before r) split ∙ ap (λ b. b && are_ordered count needs (number ∷ before) numbers) here) ∙ so_far

pub may_come_within : (count : ℕ) (needs : ℕ → List ℕ) (p : ℕ → Bool) (number : ℕ) → may_come count needs p number ≡ true → number < count
may_come_within count needs p number may =
    ltb-true number count ((and_parts (nat_lt number count) (not (p number)) ((and_parts (nat_lt number count && not (p number)) _ may).0)).0)
