-- Orders, one number more, and that none of theirs leads to itself.
use Rattle.std.specs.Prelude.{ℕ, ◌≡◌, Bool, true, false, not, ◌&&◌, ◌||◌, nat_lt, List, [], ◌∷◌, ◌++◌, Contains, refl}
use Rattle.std.specs.List.{list_all}
use Rattle.std.proofs.Common.{ap, sym, subst, ◌∙◌, eqb, eqb-true}
use Rattle.std.proofs.lemmas.Bool.{false≢true}
use Rattle.form_def.specs.Order.{is_among, may_come, are_ordered}
use Rattle.form_def.proofs.FieldLemmas.{may_come-same}
use Rattle.form_order.specs.Cycles.{Leads}
use Rattle.form_order.proofs.ListLemmas.{and-first, and-second, and-both, not-false, or-none, passes}
use Rattle.form_order.proofs.LeadsLemmas.{IsClosed, leads_into}

or_more : (a b c : Bool) → (a || (b || c)) ≡ ((b || a) || c)
or_more true true c = refl
or_more true false c = refl
or_more false true c = refl
or_more false false c = refl

pub are_ordered-push : (count : ℕ) (needs : ℕ → List ℕ) (p : ℕ → Bool) (x : ℕ) → may_come count needs p x ≡ true → (xs before : List ℕ)
    → ((k : ℕ) → p k ≡ (is_among before k || is_among xs k)) → are_ordered count needs before xs ≡ true → are_ordered count needs before (xs ++ x ∷ []) ≡ true
are_ordered-push count needs p x may [] before are so_far =
    and-both (may_come count needs (is_among before) x) true (sym (may_come-same count needs p (is_among before) x (λ k. are k ∙ or-none (is_among before k))) ∙ may) refl
are_ordered-push count needs p x may (y ∷ ys) before are so_far =
    and-both (may_come count needs (is_among before) y) (are_ordered count needs (y ∷ before) (ys ++ x ∷ []))
    (and-first (may_come count needs (is_among before) y) (are_ordered count needs (y ∷ before) ys) so_far)
    (are_ordered-push count needs p x may ys (y ∷ before) (λ k. are k ∙ or_more (is_among before k) (eqb y k) (is_among ys k))
    (and-second (may_come count needs (is_among before) y) (are_ordered count needs (y ∷ before) ys) so_far))

abbrev IsFree : (ℕ → List ℕ) → List ℕ → Type 0
IsFree needs xs = (k : ℕ) → is_among xs k ≡ true → ¬ (Leads needs k k)

all_needed : (count : ℕ) (needs : ℕ → List ℕ) (before : List ℕ) (x : ℕ) → may_come count needs (is_among before) x ≡ true → (c : ℕ) → Contains (needs x) c → is_among before c ≡ true
all_needed count needs before x may c h =
    passes (is_among before) (needs x) c (and-second (nat_lt x count && not (is_among before x)) (list_all (is_among before) (needs x)) may) h

new_one : (count : ℕ) (needs : ℕ → List ℕ) (before : List ℕ) (x : ℕ) → may_come count needs (is_among before) x ≡ true → is_among before x ≡ false
new_one count needs before x may =
    not-false (is_among before x) (and-second (nat_lt x count) (not (is_among before x)) (and-first (nat_lt x count && not (is_among before x)) (list_all (is_among before) (needs x)) may))

among_more : (xs : List ℕ) (x k : ℕ) → is_among xs k ≡ true → is_among (x ∷ xs) k ≡ true
among_more xs x k e = rw e (or-true (eqb x k))
  where
    or-true : (a : Bool) → (a || true) ≡ true
    or-true true = refl
    or-true false = refl

closed_more : (needs : ℕ → List ℕ) (before : List ℕ) (x : ℕ) → IsClosed needs before → ((c : ℕ) → Contains (needs x) c → is_among before c ≡ true)
    → (a b : ℕ) (t : Bool) → eqb x a ≡ t → is_among (x ∷ before) a ≡ true → Contains (needs a) b → is_among (x ∷ before) b ≡ true
closed_more needs before x closed first a b true e among needed =
    among_more before x b (first b (subst (λ (y : ℕ). Contains (needs y) b) (sym (eqb-true x a e)) needed))
closed_more needs before x closed first a b false e among needed =
    let old : is_among before a ≡ true = sym (ap (λ (t : Bool). t || is_among before a) e) ∙ among in
    among_more before x b (closed a b old needed)

free_more : (needs : ℕ → List ℕ) (before : List ℕ) (x : ℕ) → IsClosed needs before → IsFree needs before → is_among before x ≡ false
    → ((c : ℕ) → Contains (needs x) c → is_among before c ≡ true)
    → (k : ℕ) (t : Bool) → eqb x k ≡ t → is_among (x ∷ before) k ≡ true → ¬ (Leads needs k k)
free_more needs before x closed free new first k true e among leads =
    let here : Leads needs x x = subst (λ (y : ℕ). Leads needs y y) (sym (eqb-true x k e)) leads in
    false≢true (sym new ∙ leads_into needs before closed x x first here)
free_more needs before x closed free new first k false e among leads =
    let old : is_among before k ≡ true = sym (ap (λ (t : Bool). t || is_among before k) e) ∙ among in
    free k old leads

ordered_free : (count : ℕ) (needs : ℕ → List ℕ) (xs before : List ℕ) → IsClosed needs before → IsFree needs before → are_ordered count needs before xs ≡ true
    → (k : ℕ) → (is_among before k || is_among xs k) ≡ true → ¬ (Leads needs k k)
ordered_free count needs [] before closed free ordered k among = free k (sym (or-none (is_among before k)) ∙ among)
ordered_free count needs (x ∷ xs) before closed free ordered k among =
    let may : may_come count needs (is_among before) x ≡ true = and-first (may_come count needs (is_among before) x) (are_ordered count needs (x ∷ before) xs) ordered in
    let others : are_ordered count needs (x ∷ before) xs ≡ true = and-second (may_come count needs (is_among before) x) (are_ordered count needs (x ∷ before) xs) ordered in
    let first = all_needed count needs before x may in
    ordered_free count needs xs (x ∷ before)
    (λ a b. closed_more needs before x closed first a b (eqb x a) refl)
    (λ j. free_more needs before x closed free (new_one count needs before x may) first j (eqb x j) refl)
    others k (sym (or_more (is_among before k) (eqb x k) (is_among xs k)) ∙ among)

-- no number of an order leads to itself
pub no_cycle_among : (count : ℕ) (needs : ℕ → List ℕ) (order : List ℕ) → are_ordered count needs [] order ≡ true → (k : ℕ) → is_among order k ≡ true → ¬ (Leads needs k k)
no_cycle_among count needs order ordered k among =
    ordered_free count needs order [] (λ a b none. absurd (false≢true none)) (λ j none. absurd (false≢true none)) ordered k among
