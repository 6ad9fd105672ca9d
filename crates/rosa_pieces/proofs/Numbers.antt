-- A number that its digits spell, kept below a limit while it is read.
use Rattle.std.proofs.Common.{◌≡◌, ℕ, suc, ◌+◌, ◌*◌, ◌<◌, ◌≤◌, min, Bool, true, nat_lt, List, [], ◌∷◌, length, drop, get_or, sym, ap, ◌∙◌, arith, ◌⊎◌, inl, inr, add-one, drop-cons}
use Rattle.std.specs.List.{list_all, fold}
use Rattle.std.specs.Char.{digit_value}
use Rattle.std.proofs.lemmas.Bool.{cases_lt, lt-ltb}
use Rattle.std.proofs.Math.Nat.{le-mul_of_pos_right}

abbrev pub next_number : ℕ → ℕ → ℕ → ℕ
next_number base n d = n * base + digit_value d

same_or_large : (n m cap : ℕ) → min n cap ≡ min m cap → (n ≡ m) ⊎ ((cap ≤ n) × (cap ≤ m))
same_or_large n m cap h = elim (cases_lt n cap) [ inl lt ↦ inl (omega arith) | inr le ↦ inr (le, omega arith) ]

pub fold_capped : (base : ℕ) (cap : ℕ) (ds : List ℕ) (n m : ℕ) → 0 < base → min n cap ≡ min m cap → min (fold (next_number base) n ds) cap ≡ min (fold (next_number base) m ds) cap
fold_capped base cap [] n m pos h = h
fold_capped base cap (d ∷ ds) n m pos h =
    let a : n ≤ n * base = le-mul_of_pos_right n pos in
    let b : m ≤ m * base = le-mul_of_pos_right m pos in
    fold_capped base cap ds (next_number base n d) (next_number base m d) pos
    (elim (same_or_large n m cap h) [ inl e ↦ ap (λ (k : ℕ). min (next_number base k d) cap) e | inr (x, y) ↦ omega arith ])

pub number_goes_on : (base code i : ℕ) (digits : List ℕ) (c digit next total : ℕ) → 2 ≤ base → i < length digits → c ≡ get_or digits i c → digit ≡ digit_value c → next ≡ min (code * base + digit) 0x110000
    → min (fold (next_number base) code (drop i digits)) 0x110000 ≡ total → min (fold (next_number base) next (drop (i + 1) digits)) 0x110000 ≡ total
number_goes_on base code i digits c digit next total two lt is d-is n-is h =
    let cut : drop i digits ≡ c ∷ drop (i + 1) digits = rw add-one (drop-cons digits i c lt ∙ ap (λ (x : ℕ). x ∷ drop (suc i) digits) (sym is)) in
    let n-is' : next ≡ min (next_number base code c) 0x110000 = n-is ∙ ap (λ (x : ℕ). min (code * base + x) 0x110000) d-is in
    let same = fold_capped base 0x110000 (drop (i + 1) digits) next (next_number base code c) (omega arith) (omega arith) in
    same ∙ (sym (ap (λ (xs : List ℕ). min (fold (next_number base) code xs) 0x110000) cut) ∙ h)

pub digits_go_on : (base i : ℕ) (digits : List ℕ) (c : ℕ) (total : Bool) → i < length digits → c ≡ get_or digits i c → digit_value c < base
    → list_all (λ d. nat_lt (digit_value d) base) (drop i digits) ≡ total → list_all (λ d. nat_lt (digit_value d) base) (drop (i + 1) digits) ≡ total
digits_go_on base i digits c total lt is small h =
    let cut : drop i digits ≡ c ∷ drop (i + 1) digits = rw add-one (drop-cons digits i c lt ∙ ap (λ (x : ℕ). x ∷ drop (suc i) digits) (sym is)) in
    let test : nat_lt (digit_value c) base ≡ true = lt-ltb _ _ small in
    let one : list_all (λ d. nat_lt (digit_value d) base) (c ∷ drop (i + 1) digits) ≡ total = sym (ap (list_all (λ d. nat_lt (digit_value d) base)) cut) ∙ h in
    rw test at one
