-- Lists: their last element, and those that pass a test.
use Rattle.std.specs.Prelude.{ℕ, zero, suc, ◌+◌, ◌<◌, ◌≤◌, ◌≡◌, Bool, true, false, not, ◌&&◌, ◌||◌, List, [], ◌∷◌, ◌++◌, length, All, AllPairs, Contains, nat_lt, refl}
use Rattle.std.specs.List.{list_all}
use Rattle.std.proofs.Common.{ap, sym, subst, ◌∙◌, arith, eqb, get_or, ltb-true, ltb-false, length-append}
use Rattle.std.proofs.lemmas.Bool.{false≢true}
use Rattle.std.proofs.lemmas.List.Elements.{All-nil, All-cons, All-from_get_or, All-head, All-tail}
use Rattle.std.proofs.Math.Seq.{get_or-append_seam}
use Rattle.std.proofs.Math.ListN.{get_or-append}
use Rattle.form_def.specs.Order.{is_among}

pub and-first : (a b : Bool) → (a && b) ≡ true → a ≡ true
and-first true b e = refl
and-first false b e = e

pub and-second : (a b : Bool) → (a && b) ≡ true → b ≡ true
and-second true b e = e
and-second false b e = absurd (false≢true e)

pub and-both : (a b : Bool) → a ≡ true → b ≡ true → (a && b) ≡ true
and-both a b x y = rw (x, y) refl

pub not-false : (b : Bool) → not b ≡ true → b ≡ false
not-false true e = sym e
not-false false e = refl

pub not-true : (b : Bool) → b ≡ false → not b ≡ true
not-true b e = rw e refl

-- each element of a list that passes does
list_all-get_or : (p : ℕ → Bool) (xs : List ℕ) (i d : ℕ) → list_all p xs ≡ true → i < length xs → p (get_or xs i d) ≡ true
list_all-get_or p [] i d all within = absurd (omega arith)
list_all-get_or p (x ∷ xs) zero d all within = and-first (p x) (list_all p xs) all
list_all-get_or p (x ∷ xs) (suc i) d all within = list_all-get_or p xs i d (and-second (p x) (list_all p xs) all) (omega arith)

pub passes : (p : ℕ → Bool) (xs : List ℕ) (x : ℕ) → list_all p xs ≡ true → Contains xs x → p x ≡ true
passes p xs x all (k, within, is) = subst (λ (y : ℕ). p y ≡ true) is (list_all-get_or p xs k x all within)

pub or-none : (a : Bool) → (a || false) ≡ a
or-none true = refl
or-none false = refl

pub or-true : (a : Bool) → (a || true) ≡ true
or-true true = refl
or-true false = refl

or-assoc : (a b c : Bool) → (a || (b || c)) ≡ ((a || b) || c)
or-assoc true b c = refl
or-assoc false b c = refl

-- what holds of the elements up to the last one, and at it
pub pairs_front : (R : ℕ → ℕ → Type 0) (xs : List ℕ) (y : ℕ) → AllPairs R (xs ++ y ∷ []) → AllPairs R xs
pairs_front R xs y pairs = λ i j d before within.
    let long : length (xs ++ y ∷ []) ≡ length xs + 1 = length-append xs (y ∷ []) in
    let here : R (get_or (xs ++ y ∷ []) i d) (get_or (xs ++ y ∷ []) j d) = pairs i j d before (omega arith) in
    let first = subst (λ (a : ℕ). R a (get_or (xs ++ y ∷ []) j d)) (get_or-append xs (y ∷ []) d i (omega arith)) here in
    subst (λ (b : ℕ). R (get_or xs i d) b) (get_or-append xs (y ∷ []) d j within) first

pub pairs_last : (R : ℕ → ℕ → Type 0) (xs : List ℕ) (y : ℕ) → AllPairs R (xs ++ y ∷ []) → All (λ x. R x y) xs
pairs_last R xs y pairs = All-from_get_or (λ x. R x y) xs 0 (λ i within.
    let long : length (xs ++ y ∷ []) ≡ length xs + 1 = length-append xs (y ∷ []) in
    let here : R (get_or (xs ++ y ∷ []) i 0) (get_or (xs ++ y ∷ []) (length xs) 0) = pairs i (length xs) 0 within (omega arith) in
    let first = subst (λ (a : ℕ). R a (get_or (xs ++ y ∷ []) (length xs) 0)) (get_or-append xs (y ∷ []) 0 i within) here in
    subst (λ (b : ℕ). R (get_or xs i 0) b) (get_or-append_seam xs y [] 0) first)

pub all_front : (P : ℕ → Type 0) (xs : List ℕ) (y : ℕ) → All P (xs ++ y ∷ []) → All P xs
all_front P [] y all = All-nil P
all_front P (x ∷ xs) y all = All-cons P x xs (All-head P x (xs ++ y ∷ []) all) (all_front P xs y (All-tail P x (xs ++ y ∷ []) all))

pub all_last : (P : ℕ → Type 0) (xs : List ℕ) (y : ℕ) → All P (xs ++ y ∷ []) → P y
all_last P [] y all = All-head P y [] all
all_last P (x ∷ xs) y all = all_last P xs y (All-tail P x (xs ++ y ∷ []) all)

pub list_all-at : (p : ℕ → Bool) (xs : List ℕ) → ((k : ℕ) → k < length xs → p (get_or xs k 0) ≡ true) → list_all p xs ≡ true
list_all-at p [] all = refl
list_all-at p (x ∷ xs) all = and-both (p x) (list_all p xs) (all 0 (omega arith)) (list_all-at p xs (λ k within. all (suc k) (omega arith)))

-- what holds below a bound, and from it on
pub by_bound : {P : Type 0} (k n : ℕ) → (k < n → P) → (n ≤ k → P) → P
by_bound {P} k n below above = by_bound_at (nat_lt k n) refl
  where
    by_bound_at : (b : Bool) → nat_lt k n ≡ b → P
    by_bound_at true e = below (ltb-true k n e)
    by_bound_at false e = above (ltb-false k n e)

pub is_among-push : (xs : List ℕ) (x k : ℕ) → is_among (xs ++ x ∷ []) k ≡ (is_among xs k || eqb x k)
is_among-push [] x k = or-none (eqb x k)
is_among-push (y ∷ ys) x k = ap (λ b. eqb y k || b) (is_among-push ys x k) ∙ or-assoc (eqb y k) (is_among ys k) (eqb x k)

pub all_both : (P Q R : ℕ → Type 0) → ((k : ℕ) → P k → Q k → R k) → (xs : List ℕ) → All P xs → All Q xs → All R xs
all_both P Q R gives [] p q = All-nil R
all_both P Q R gives (x ∷ xs) p q = All-cons R x xs (gives x (All-head P x xs p) (All-head Q x xs q)) (all_both P Q R gives xs (All-tail P x xs p) (All-tail Q x xs q))
