-- How many names a path has: one more than the path above it.
use Rattle.std.proofs.Common.{◌≡◌, ◌≢◌, ℕ, zero, suc, ◌+◌, ◌-◌, ◌<◌, ◌≤◌, Bool, true, false, cond, List, [], ◌∷◌, ◌++◌}
use Rattle.std.proofs.Common.{refl, sym, ap, ◌∙◌, inl, inr, ◌⊎◌, arith, length, take, get_or}
use Rattle.std.specs.Str.{bytes_eq}
use Rattle.std.proofs.lemmas.Bool.{and_parts, eqb-true}
use Rattle.std.proofs.lemmas.Grind.{common_steps}
use Rattle.std.proofs.lemmas.List.{length-append, take-append-le, take_all, get_or-append_right}
use Rattle.std.proofs.lemmas.List.Splits.{length-slice_split}
use Rattle.std.proofs.lemmas.List.Sums.{sum_by-append, sum_by-cons}
use Rattle.form_def.specs.Paths.{are_below, is_path, is_slash, parent_path, parts_of}
use Rattle.form_def.proofs.PathLemmas.{parent_path-at}
use Rattle.instance_doc.specs.ReadBack.{names}

abbrev one_if : ℕ → ℕ
one_if b = cond (is_slash b) 1 0

first_name : (b : ℕ) (bs : List ℕ) → names (b ∷ bs) ≡ one_if b + names bs
first_name b bs = sum_by-cons one_if b bs

-- the last slash, if there is one
last_slash : (xs : List ℕ) → (names xs ≡ 0) ⊎ ((ys : List ℕ) × (zs : List ℕ) × (xs ≡ ys ++ (47 ∷ zs)) × (names zs ≡ 0))
last_slash [] = inl refl
last_slash (x ∷ xs) = elim (last_slash xs) [
  | inr (ys, zs, parts, none) ↦ inr (x ∷ ys, zs, ap (λ (l : List ℕ). x ∷ l) parts, none)
  | inl none ↦ elim
      (is_slash x) as (λ b. is_slash x ≡ b
      → (names (x ∷ xs) ≡ 0) ⊎ ((ys : List ℕ) × (zs : List ℕ) × (x ∷ xs ≡ ys ++ (47 ∷ zs)) × (names zs ≡ 0))) [
        | true ↦ λ e. inr ([], xs, ap (λ (y : ℕ). y ∷ xs) (eqb-true x 47 e), none)
        | false ↦ λ e. inl (first_name x xs ∙ (ap (λ (b : Bool). cond b 1 0 + names xs) e ∙ omega (arith, none)))
      ] refl
]

no_slash_at : (zs : List ℕ) → names zs ≡ 0 → (k : ℕ) → k < length zs → get_or zs k 0 ≢ 47
no_slash_at [] none k low = absurd (omega (arith, low))
no_slash_at (z ∷ zs) none zero low = λ e. absurd (
    let some : names (z ∷ zs) ≡ 1 + names zs = first_name z zs
    ∙ ap (λ (b : ℕ). one_if b + names zs) e in omega (arith, none, some))
no_slash_at (z ∷ zs) none (suc k) low = no_slash_at zs (omega (arith, none, first_name z zs)) k (omega (arith, low))

above : (path ys zs : List ℕ) → path ≡ ys ++ (47 ∷ zs) → names zs ≡ 0 → names path ≡ names (parent_path path) + 1
above path ys zs parts none =
    let end = length ys in
    let long : length path ≡ end + (1 + length zs) = let all : length path ≡ end + length (47 ∷ zs) = ap length parts
    ∙ length-append ys (47 ∷ zs) in omega (arith, all) in
    let here : get_or path end 0 ≡ 47 = ap (λ (l : List ℕ). get_or l end 0) parts ∙ grind (arith, common_steps) in
    let behind : (k : ℕ) → end < k → k < length path → get_or path k 0 ≢ 47 = λ k low high e.
    no_slash_at zs none (k - (end + 1)) (omega (arith, low, high, long))
    (sym (ap (λ (l : List ℕ). get_or l k 0) parts
    ∙ (get_or-append_right ys (47 ∷ zs) end k 0 refl (omega (arith, low))
    ∙ past_one zs (k - end) (k - (end + 1)) (omega (arith, low)))) ∙ e) in
    let same : parent_path path ≡ ys =
    sym (parent_path-at path end (omega (arith, long)) here behind)
    ∙ (ap (take end) parts ∙ (take-append-le end ys (47 ∷ zs) (omega arith) ∙ take_all end ys (omega arith))) in
    let one : names (47 ∷ zs) ≡ 1 + names zs = first_name 47 zs in
    let n : names (parent_path path) ≡ names ys = ap names same in
    let all : names path ≡ names ys + names (47 ∷ zs) = ap names parts ∙ sum_by-append one_if ys (47 ∷ zs) in
    omega (arith, none, one, n, all)
  where
    past_one : (zs : List ℕ) (k n : ℕ) → k ≡ suc n → get_or (47 ∷ zs) k 0 ≡ get_or zs n 0
    past_one zs k n e = rw e refl

pub names_above : (path : List ℕ) → 1 ≤ names path → names path ≡ names (parent_path path) + 1
names_above path some = elim (last_slash path) [
  | inl none ↦ absurd (omega (arith, some, none))
  | inr (ys, zs, parts, none) ↦ above path ys zs parts none
]

three_parts : (root : List ℕ) (parts : List (List ℕ)) → are_below root parts ≡ true → 3 ≤ length parts
three_parts root [] h = absurd cc
three_parts root ((b ∷ bs) ∷ others) h = absurd cc
three_parts root ([] ∷ []) h = absurd cc
three_parts root ([] ∷ first ∷ []) h = absurd (let k : false ≡ true = (and_parts (bytes_eq first root) false h).1 in cc)
three_parts root ([] ∷ first ∷ name ∷ names) h = omega arith

-- a path below the root has the root's name and another one at least
pub names_of_path : (root path : List ℕ) → is_path root path ≡ true → 2 ≤ names path
names_of_path root path h =
    let long = three_parts root (parts_of path) h in
    omega (arith, long, length-slice_split is_slash path)
