-- Where a script is cut into lines, and the end of a line.
use Rattle.std.proofs.Common.{◌≡◌, ℕ, zero, suc, ◌<◌, Bool, true, false, cond, eqb, List, [], ◌∷◌, ◌++◌, length, get_or, take, drop, refl, ap, ◌∙◌, arith}
use Rattle.collect_text.specs.Lines.{in_front, lines_of, without_return}

pub is_false : (b : Bool) → (b ≡ true → ⊥) → b ≡ false
is_false true apart = absurd (apart refl)
is_false false apart = refl

-- the first line ends at the first line feed
pub lines_of-cut : (s : List ℕ) (k : ℕ) → k < length s → eqb (get_or s k 0) 10 ≡ true → ((i : ℕ) → i < k → eqb (get_or s i 0) 10 ≡ true → ⊥) → lines_of s ≡ take k s ∷ lines_of (drop (suc k) s)
lines_of-cut [] k within feed before = absurd (omega arith)
lines_of-cut (b ∷ bs) zero within feed before = rw feed refl
lines_of-cut (b ∷ bs) (suc k) within feed before =
    rw (is_false (eqb b 10) (before 0 (omega arith)))
    (ap (in_front b) (lines_of-cut bs k (omega arith) feed (λ i below. before (suc i) (omega arith))))

-- with no line feed all is one line
pub lines_of-last : (s : List ℕ) → 0 < length s → ((i : ℕ) → i < length s → eqb (get_or s i 0) 10 ≡ true → ⊥) → lines_of s ≡ s ∷ []
lines_of-last [] some none = absurd (omega arith)
lines_of-last (b ∷ []) some none = rw (is_false (eqb b 10) (none 0 (omega arith))) refl
lines_of-last (b ∷ c ∷ bs) some none =
    rw (is_false (eqb b 10) (none 0 (omega arith)))
    (ap (in_front b) (lines_of-last (c ∷ bs) (omega arith) (λ i below. none (suc i) (omega arith))))

-- the last byte goes exactly where it is a carriage return
pub without_return-push : (xs : List ℕ) (b : ℕ) → without_return (xs ++ b ∷ []) ≡ cond (eqb b 13) xs (xs ++ b ∷ [])
without_return-push [] b = refl
without_return-push (x ∷ []) b = elim (eqb b 13) as (λ t. x ∷ cond t [] (b ∷ []) ≡ cond t (x ∷ []) (x ∷ b ∷ [])) [ true ↦ refl | false ↦ refl ]
without_return-push (x ∷ y ∷ xs) b =
    ap (λ l. x ∷ l) (without_return-push (y ∷ xs) b)
    ∙ (elim (eqb b 13) as (λ t. x ∷ cond t (y ∷ xs) (y ∷ xs ++ b ∷ []) ≡ cond t (x ∷ y ∷ xs) (x ∷ y ∷ xs ++ b ∷ [])) [ true ↦ refl | false ↦ refl ])
