-- Paths, a name at a time.
use Rattle.std.specs.Prelude.{ℕ, ◌<◌, ◌≤◌, ◌-◌, ◌+◌, Bool, true, false, ◌&&◌, ◌≡◌, ◌≢◌, List, [], ◌∷◌, length, take, not, count_by, MatchOption, IfSome, Option, Some, None, refl}
use Rattle.std.specs.List.{suffix_len}
use Rattle.std.proofs.Common.{ap, sym, ◌∙◌, arith, get_or, eqb, lit<}
use Rattle.std.proofs.lemmas.Bool.{ne_eqb}
use Rattle.std.proofs.lemmas.List.Elements.{All-from_get_or}
use Rattle.std.proofs.lemmas.List.Splits.{slice_split_none, slice_split_at, length-slice_split}
use Rattle.std.proofs.lemmas.Str.Pattern.{split_parts, IsSplitOnceResult}
use Rattle.std.proofs.lemmas.List.Sums.{suffix_len_is}
use Rattle.std.proofs.lemmas.Grind.{common_steps}
use denote.Ref.{Bor}
use Rattle.form_def.specs.Paths.{is_slash, parts_of, parent_path, is_name, is_attribute, are_names}

pub is_attribute-other : (name : List ℕ) → ((rest : List ℕ) → name ≢ 64 ∷ rest) → false ≡ is_attribute name
is_attribute-other [] other = refl
is_attribute-other (b ∷ bs) other = let off : eqb b 64 ≡ false = ne_eqb b 64 (λ e. other bs (ap (λ x. x ∷ bs) e)) in rw off

pub parts_of-split : (path : List ℕ) (r : Option (Bor (List ℕ) × Bor (List ℕ))) → IsSplitOnceResult 47 path r
    → MatchOption r (parts_of path ≡ path ∷ []) (λ x. parts_of path ≡ x.0.now ∷ parts_of x.1.now)
parts_of-split path None h =
    let off = split_parts 47 path None h (lit< tt) in
    slice_split_none is_slash path (All-from_get_or (λ b. is_slash b ≡ false) path 0 (λ i within. ne_eqb (get_or path i 0) 47 (off i within)))
parts_of-split path (Some x) h =
    let p = split_parts 47 path (Some x) h (lit< tt) in
    let off = All-from_get_or (λ b. is_slash b ≡ false) x.0.now 0 (λ i within. ne_eqb (get_or x.0.now i 0) 47 (p.1 i within)) in
    ap parts_of p.0 ∙ slice_split_at is_slash x.0.now 47 x.1.now off refl

pub parts_of-shorter : (path : List ℕ) (r : Option (Bor (List ℕ) × Bor (List ℕ))) → IsSplitOnceResult 47 path r
    → IfSome r (λ x. length x.1.now < length path)
parts_of-shorter path None h = tt
parts_of-shorter path (Some x) h =
    let p = split_parts 47 path (Some x) h (lit< tt) in
    let e : length path ≡ length x.0.now + (length x.1.now + 1) = ap length p.0 ∙ grind (arith, common_steps) in
    omega arith

-- before more names, a name is no attribute's
are_names-more : (name : List ℕ) (others : List (List ℕ)) → others ≢ [] → are_names (name ∷ others) ≡ (is_name name && are_names others)
are_names-more name [] some = absurd (some refl)
are_names-more name (next ∷ others) some = refl

parts_of-some : (path : List ℕ) → parts_of path ≢ []
parts_of-some path none = absurd (let long : length (parts_of path) ≡ count_by is_slash path + 1 = length-slice_split is_slash path in let short : length (parts_of path) ≡ 0 = ap length none in omega arith)

pub are_names-parts : (name path : List ℕ) → are_names (name ∷ parts_of path) ≡ (is_name name && are_names (parts_of path))
are_names-parts name path = are_names-more name (parts_of path) (parts_of-some path)

-- the last slash stands at this place
pub parent_path-at : (path : List ℕ) (end : ℕ) → end < length path → get_or path end 0 ≡ 47
    → ((k : ℕ) → end < k → k < length path → get_or path k 0 ≢ 47) → take end path ≡ parent_path path
parent_path-at path end within slash behind =
    let no_slash : ℕ → Bool = λ b. not (is_slash b) in
    let after : (k : ℕ) → end + 1 ≤ k → k < length path → no_slash (get_or path k 0) ≡ true =
    λ k low high. ap not (ne_eqb (get_or path k 0) 47 (behind k (omega arith) high)) in
    let here : 0 < end + 1 → no_slash (get_or path (end + 1 - 1) 0) ≡ false =
    λ _. let e : end + 1 - 1 ≡ end = omega arith in rw (e, slash) refl in
    let long : suffix_len no_slash path ≡ length path - (end + 1) = suffix_len_is no_slash path (end + 1) 0 (omega arith) after here in
    ap (λ n. take n path) (omega (arith, long))

pub parent_path-none : (path : List ℕ) → ((k : ℕ) → k < length path → get_or path k 0 ≢ 47) → [] ≡ parent_path path
parent_path-none path off =
    let no_slash : ℕ → Bool = λ b. not (is_slash b) in
    let all : (k : ℕ) → 0 ≤ k → k < length path → no_slash (get_or path k 0) ≡ true =
    λ k low high. ap not (ne_eqb (get_or path k 0) 47 (off k high)) in
    let long : suffix_len no_slash path ≡ length path - 0 = suffix_len_is no_slash path 0 0 (omega arith) all (λ h. absurd (omega arith)) in
    let e : 0 ≡ length path - suffix_len no_slash path - 1 = omega (arith, long) in
    ap (λ n. take n path) e

-- a turn over the names: a first part that is no name, and one that is
pub names_stop : (rest name behind path : List ℕ) → parts_of rest ≡ name ∷ parts_of behind → is_name name ≡ false
    → are_names (parts_of rest) ≡ are_names (parts_of path) → false ≡ are_names (parts_of path)
names_stop rest name behind path split off so_far = sym (ap are_names split ∙ are_names-parts name behind ∙ ap (λ b. b && are_names (parts_of behind)) off) ∙ so_far

pub names_go_on : (rest name behind path : List ℕ) → parts_of rest ≡ name ∷ parts_of behind → is_name name ≡ true
    → are_names (parts_of rest) ≡ are_names (parts_of path) → are_names (parts_of behind) ≡ are_names (parts_of path)
names_go_on rest name behind path split on so_far = sym (ap are_names split ∙ are_names-parts name behind ∙ ap (λ b. b && are_names (parts_of behind)) on) ∙ so_far
