-- Paths that begin with the root's name and grow by one name at a time.
use Rattle.std.specs.Prelude.{ℕ, ◌≤◌, ◌/◌, ◌%◌, ◌≡◌, ◌≢◌, Bool, true, false, not, ◌||◌, nat_lt, List, [], ◌∷◌, ◌++◌, length, count_by, ◌+◌, refl}
use Rattle.std.specs.List.{list_all, onto_first}
use Rattle.std.specs.Str.{is_utf8, chars, bytes_eq}
use Rattle.std.proofs.Common.{ap, sym, ◌∙◌, subst, arith}
use Rattle.std.proofs.Math.Utf8.{encode, encodes, scalars}
use Rattle.std.proofs.lemmas.Bool.{and_parts, and_from, or_left, or_right, ne_eqb, cond_both, false≢true, not-true, not_from_false}
use Rattle.std.proofs.lemmas.List.Splits.{length-slice_split}
use Rattle.std.proofs.lemmas.Grind.{common_steps}
use Rattle.std.proofs.lemmas.Str.{encodes-chars, chars-encodes, IsUtf8-from_is_utf8, is_utf8-from_IsUtf8}
use Rattle.field_text.specs.Xml.{is_name_char, begins_as_name, is_local_name}
use Rattle.rosa_doc.specs.LocalNames.{spells_local_name}
use Rattle.rosa_doc.proofs.LocalNames.{both_hold}
use Rattle.rosa_doc.proofs.Names.{bytes_alike}
use Rattle.form_def.specs.Paths.{is_slash, parts_of, is_name, is_attribute, are_names, are_below, is_path}
use Rattle.form_outline.specs.Primary.{path_below, path_of_attribute}

-- ---- a local name has no slash

abbrev lacks_slash : List ℕ → Bool
lacks_slash bs = list_all (λ b. not (is_slash b)) bs

high : (b : ℕ) → 128 ≤ b → not (is_slash b) ≡ true
high b h = not_from_false (is_slash b) (ne_eqb b 47 (λ e. omega (arith, e, h)))

name_char : (c : ℕ) → is_name_char c ≡ true → not (is_slash c) ≡ true
name_char c h = not_from_false (is_slash c) (ne_eqb c 47 (λ e. false≢true (subst (λ x. is_name_char x ≡ true) e h)))

with_high : (base more : ℕ) (bs : List ℕ) → 128 ≤ base → lacks_slash bs ≡ true → lacks_slash ((base + more) ∷ bs) ≡ true
with_high base more bs h k = and_from (not (is_slash (base + more))) (lacks_slash bs) (high (base + more) (omega (arith, h))) k

encoded : (c : ℕ) → is_name_char c ≡ true → lacks_slash (encode c) ≡ true
unfolding encode
encoded c h =
    let one : List ℕ = (128 + c % 64) ∷ [] in
    let two : List ℕ = (128 + c / 64 % 64) ∷ one in
    let three : List ℕ = (128 + c / 4096 % 64) ∷ two in
    let first : lacks_slash one ≡ true = with_high 128 (c % 64) [] (omega arith) refl in
    let second : lacks_slash two ≡ true = with_high 128 (c / 64 % 64) one (omega arith) first in
    let third : lacks_slash three ≡ true = with_high 128 (c / 4096 % 64) two (omega arith) second in
    cond_both (nat_lt c 128) _ _ (λ bs. lacks_slash bs ≡ true) (λ _. and_from (not (is_slash c)) true (name_char c h) refl) (λ _.
    cond_both (nat_lt c 2048) _ _ (λ bs. lacks_slash bs ≡ true) (λ _. with_high 192 (c / 64) one (omega arith) first) (λ _.
    cond_both (nat_lt c 65536) _ _ (λ bs. lacks_slash bs ≡ true) (λ _. with_high 224 (c / 4096) two (omega arith) second) (λ _. with_high 240 (c / 262144) three (omega arith) third)))

all_encoded : (cs : List ℕ) → list_all is_name_char cs ≡ true → lacks_slash (encodes cs) ≡ true
all_encoded [] h = refl
all_encoded (c ∷ cs) h =
    let both = and_parts (is_name_char c) (list_all is_name_char cs) h in
    both_hold (λ b. not (is_slash b)) (encode c) (encodes cs) (encoded c both.0) (all_encoded cs both.1)

pub local_name : (name : List ℕ) → spells_local_name name ≡ true → is_name name ≡ true
local_name name h = (and_parts (is_utf8 name) (is_local_name (chars name)) h).1

local_name-lacks_slash : (name : List ℕ) → spells_local_name name ≡ true → lacks_slash name ≡ true
local_name-lacks_slash name h =
    let both = and_parts (is_utf8 name) (is_local_name (chars name)) h in
    let are = (and_parts (begins_as_name (chars name)) (list_all is_name_char (chars name)) both.1).1 in
    subst (λ bs. lacks_slash bs ≡ true) (encodes-chars name (IsUtf8-from_is_utf8 name both.0)) (all_encoded (chars name) are)

pub ascii_name : (name : List ℕ) → scalars name ≡ true → encodes name ≡ name → is_local_name name ≡ true → spells_local_name name ≡ true
ascii_name name are same h =
    and_from (is_utf8 name) (is_local_name (chars name)) (is_utf8-from_IsUtf8 name (name, (are, same)))
    (ap (λ bs. is_local_name (chars bs)) (sym same) ∙ ap is_local_name (chars-encodes name are) ∙ h)

-- ---- the parts of a path with one more name

parts_of-some : (path : List ℕ) → parts_of path ≢ []
parts_of-some path none = absurd (let long : length (parts_of path) ≡ count_by is_slash path + 1 = length-slice_split is_slash path in let short : length (parts_of path) ≡ 0 = ap length none in omega arith)

one_part : (name : List ℕ) → lacks_slash name ≡ true → parts_of name ≡ name ∷ []
one_part [] h = refl
one_part (b ∷ bs) h =
    let both = and_parts (not (is_slash b)) (lacks_slash bs) h in
    rw (not-true (is_slash b) both.0, one_part bs both.1) refl

onto_first-append : (b : ℕ) (xs ys : List (List ℕ)) → xs ≢ [] → onto_first b (xs ++ ys) ≡ onto_first b xs ++ ys
onto_first-append b [] ys some = absurd (some refl)
onto_first-append b (x ∷ xs) ys some = refl

past_byte : (b : ℕ) (slash : Bool) → is_slash b ≡ slash → (bs name : List ℕ) → parts_of (path_below bs name) ≡ parts_of bs ++ name ∷ [] → parts_of (path_below (b ∷ bs) name) ≡ parts_of (b ∷ bs) ++ name ∷ []
past_byte b true is bs name h = rw is (ap (λ parts. [] ∷ parts) h)
past_byte b false is bs name h = rw is (ap (onto_first b) h ∙ onto_first-append b (parts_of bs) (name ∷ []) (parts_of-some bs))

more_parts : (path name : List ℕ) → lacks_slash name ≡ true → parts_of (path_below path name) ≡ parts_of path ++ name ∷ []
more_parts [] name h = ap (λ parts. [] ∷ parts) (one_part name h)
more_parts (b ∷ bs) name h = past_byte b (is_slash b) refl bs name (more_parts bs name h)

-- ---- the root's path, and paths of names below it

abbrev pub Leads : List ℕ → List ℕ → Type 0
Leads root path = (names : List (List ℕ)) × (parts_of path ≡ [] ∷ root ∷ names) × (list_all is_name names ≡ true)

pub leads_root : (root : List ℕ) → spells_local_name root ≡ true → Leads root (path_below [] root)
leads_root root h = ([], more_parts [] root (local_name-lacks_slash root h), refl)

more_names : (names : List (List ℕ)) (name : List ℕ) → list_all is_name names ≡ true → is_name name ≡ true → list_all is_name (names ++ name ∷ []) ≡ true
more_names names name h k = both_hold is_name names (name ∷ []) h (and_from (is_name name) true k refl)

pub leads_below : (root path name : List ℕ) → Leads root path → spells_local_name name ≡ true → Leads root (path_below path name)
leads_below root path name (names, parts, are) h =
    (names ++ name ∷ [], more_parts path name (local_name-lacks_slash name h) ∙ ap (λ parts. parts ++ name ∷ []) parts, more_names names name are (local_name name h))

last_named : (names : List (List ℕ)) (last : List ℕ) → list_all is_name names ≡ true → (is_name last || is_attribute last) ≡ true → are_names (names ++ last ∷ []) ≡ true
last_named [] last h k = k
last_named (name ∷ []) last h k = and_from (is_name name) (is_name last || is_attribute last) (and_parts (is_name name) true h).0 k
last_named (name ∷ next ∷ others) last h k =
    let both = and_parts (is_name name) (list_all is_name (next ∷ others)) h in
    and_from (is_name name) (are_names ((next ∷ others) ++ last ∷ [])) both.0 (last_named (next ∷ others) last both.1 k)

path_with : (root path last : List ℕ) → Leads root path → lacks_slash last ≡ true → (is_name last || is_attribute last) ≡ true → is_path root (path_below path last) ≡ true
path_with root path last (names, parts, are) plain k =
    ap (are_below root) (more_parts path last plain ∙ ap (λ parts. parts ++ last ∷ []) parts)
    ∙ and_from (bytes_eq root root) (are_names (names ++ last ∷ [])) (bytes_alike root) (last_named names last are k)

pub is_path-below : (root path name : List ℕ) → Leads root path → spells_local_name name ≡ true → is_path root (path_below path name) ≡ true
is_path-below root path name leads h = path_with root path name leads (local_name-lacks_slash name h) (or_left (is_name name) (is_attribute name) (local_name name h))

at_sign : (path name : List ℕ) → path_below path (64 ∷ name) ≡ path_of_attribute path name
at_sign path name = grind (arith, common_steps)

pub is_path-attribute : (root path name : List ℕ) → Leads root path → spells_local_name name ≡ true → is_path root (path_of_attribute path name) ≡ true
is_path-attribute root path name leads h =
    subst (λ p. is_path root p ≡ true) (at_sign path name) (path_with root path (64 ∷ name) leads (local_name-lacks_slash name h) (or_right (is_name (64 ∷ name)) (is_attribute (64 ∷ name)) (local_name name h)))
