-- The last name of a path, a name at a time.
use Rattle.std.proofs.Common.{◌≡◌, ◌≢◌, ℕ, ◌+◌, List, [], ◌∷◌, refl, sym, ap, ◌∙◌, length, count_by, arith}
use Rattle.std.proofs.lemmas.List.Splits.{length-slice_split}
use Rattle.form_def.specs.Paths.{is_slash, parts_of}
use Rattle.instance_doc.specs.Rows.{last_name, last_part}

parts_of-some : (path : List ℕ) → parts_of path ≢ []
parts_of-some path none = absurd
    (let long : length (parts_of path) ≡ count_by is_slash path + 1 = length-slice_split is_slash path in
    let short : length (parts_of path) ≡ 0 = ap length none in omega (arith, long, short))

last_behind : (name : List ℕ) (parts : List (List ℕ)) → parts ≢ [] → last_part (name ∷ parts) ≡ last_part parts
last_behind name [] some = absurd (some refl)
last_behind name (part ∷ others) some = refl

pub name_behind : (rest name behind path : List ℕ) → parts_of rest ≡ name ∷ parts_of behind
    → last_name rest ≡ last_name path → last_name behind ≡ last_name path
name_behind rest name behind path split so_far =
    sym (ap last_part split ∙ last_behind name (parts_of behind) (parts_of-some behind)) ∙ so_far

pub name_alone : (rest path : List ℕ) → parts_of rest ≡ rest ∷ [] → last_name rest ≡ last_name path
    → rest ≡ last_name path
name_alone rest path split so_far = sym (ap last_part split) ∙ so_far
