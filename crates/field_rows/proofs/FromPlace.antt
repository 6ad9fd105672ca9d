-- What a loop over the places of a list does from a place on: it keeps the elements that pass, or changes each.
use Rattle.std.specs.Prelude.{◌≡◌, ℕ, zero, suc, ◌+◌, ◌<◌, ◌≤◌, Bool, true, false, cond, List, [], ◌∷◌, length, map, remove}
use Rattle.std.specs.Prelude.{slice_get, Option, Some, None, refl}
use Rattle.std.specs.List.{filter}
use Rattle.std.proofs.Common.{ap, sym, ◌∙◌, arith, add-one}
use Rattle.std.proofs.lemmas.List.{length-set}
use Rattle.field_rows.specs.Edited.{edited}

abbrev pub filtered_from : {T : Type 0} → (T → Bool) → ℕ → List T → List T
filtered_from keep zero xs = filter keep xs
filtered_from keep (suc n) [] = []
filtered_from keep (suc n) (x ∷ xs) = x ∷ filtered_from keep n xs

abbrev pub mapped_from : {T : Type 0} → (T → T) → ℕ → List T → List T
mapped_from f zero xs = map f xs
mapped_from f (suc n) [] = []
mapped_from f (suc n) (x ∷ xs) = x ∷ mapped_from f n xs

same_of_some : {T : Type 0} (x y : T) → Some x ≡ Some y → x ≡ y
same_of_some x y same = cc same

filtered_next : {T : Type 0} (keep : T → Bool) (n : ℕ) (xs : List T) (x : T) → slice_get xs n ≡ Some x → keep x ≡ true
    → filtered_from keep (suc n) xs ≡ filtered_from keep n xs
filtered_next keep n [] x at is = absurd (cc at)
filtered_next keep zero (y ∷ ys) x at is =
    sym (ap (λ b. cond b (y ∷ filter keep ys) (filter keep ys)) (ap keep (same_of_some y x at) ∙ is))
filtered_next keep (suc n) (y ∷ ys) x at is = ap (λ l. y ∷ l) (filtered_next keep n ys x at is)

pub filtered_kept : {T : Type 0} (keep : T → Bool) (n : ℕ) (xs : List T) (x : T) → slice_get xs n ≡ Some x → keep x ≡ true
    → filtered_from keep (n + 1) xs ≡ filtered_from keep n xs
filtered_kept keep n xs x at is = rw add-one (filtered_next keep n xs x at is)

pub filtered_removed : {T : Type 0} (keep : T → Bool) (n : ℕ) (xs : List T) (x : T) → slice_get xs n ≡ Some x
    → keep x ≡ false → filtered_from keep n (remove xs n) ≡ filtered_from keep n xs
filtered_removed keep n [] x at is = absurd (cc at)
filtered_removed keep zero (y ∷ ys) x at is =
    sym (ap (λ b. cond b (y ∷ filter keep ys) (filter keep ys)) (ap keep (same_of_some y x at) ∙ is))
filtered_removed keep (suc n) (y ∷ ys) x at is = ap (λ l. y ∷ l) (filtered_removed keep n ys x at is)

pub filtered_end : {T : Type 0} (keep : T → Bool) (n : ℕ) (xs : List T) → length xs ≤ n → filtered_from keep n xs ≡ xs
filtered_end keep zero [] le = refl
filtered_end keep zero (y ∷ ys) le = absurd (omega (arith, le))
filtered_end keep (suc n) [] le = refl
filtered_end keep (suc n) (y ∷ ys) le = ap (λ l. y ∷ l) (filtered_end keep n ys (omega (arith, le)))

mapped_next : {T : Type 0} (f : T → T) (n : ℕ) (xs : List T) → n < length xs
    → mapped_from f (suc n) (edited f n xs) ≡ mapped_from f n xs
mapped_next f n [] lt = absurd (omega (arith, lt))
mapped_next f zero (y ∷ ys) lt = refl
mapped_next f (suc n) (y ∷ ys) lt = behind f y n ys (slice_get ys n) refl (mapped_next f n ys (omega (arith, lt)))
  where
    behind : {T : Type 0} (f : T → T) (y : T) (n : ℕ) (ys : List T) (o : Option T) → slice_get ys n ≡ o
        → mapped_from f (suc n) (edited f n ys) ≡ mapped_from f n ys
        → mapped_from f (suc (suc n)) (edited f (suc n) (y ∷ ys)) ≡ y ∷ mapped_from f n ys
    behind f y n ys None is rest = rw is (ap (λ l. y ∷ l) (rw is at rest))
    behind f y n ys (Some z) is rest = rw is (ap (λ l. y ∷ l) (rw is at rest))

pub mapped_edited : {T : Type 0} (f : T → T) (n : ℕ) (xs : List T) → n < length xs
    → mapped_from f (n + 1) (edited f n xs) ≡ mapped_from f n xs
mapped_edited f n xs lt = rw add-one (mapped_next f n xs lt)

pub mapped_end : {T : Type 0} (f : T → T) (n : ℕ) (xs : List T) → length xs ≤ n → mapped_from f n xs ≡ xs
mapped_end f zero [] le = refl
mapped_end f zero (y ∷ ys) le = absurd (omega (arith, le))
mapped_end f (suc n) [] le = refl
mapped_end f (suc n) (y ∷ ys) le = ap (λ l. y ∷ l) (mapped_end f n ys (omega (arith, le)))

pub length-edited : {T : Type 0} (f : T → T) (n : ℕ) (xs : List T) → length (edited f n xs) ≡ length xs
length-edited {T = T} f n xs = by (slice_get xs n) refl
  where
    by : (o : Option T) → slice_get xs n ≡ o → length (edited f n xs) ≡ length xs
    by None is = rw is refl
    by (Some x) is = rw is (length-set xs n (f x))
