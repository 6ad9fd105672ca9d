-- The columns of a header: places of names, and names taken once.
use Rattle.std.proofs.Common.{◌≡◌, ◌≢◌, ℕ, suc, ◌+◌, ◌<◌, ◌&&◌, nat_lt, not, Bool, true, false, true≢false, List, [], ◌∷◌, ◌++◌, length, map, filter, take, drop, position, get_or, Some, unwrap_or, slice_get, Bor, arith, add-one, append_assoc, ap, sym, subst, refl, inl, inr, ◌∙◌}
use Rattle.std.proofs.lemmas.Bool.{ltb-true, lt-ltb}
use Rattle.std.proofs.Math.Seq.{drop-cons, take-suc}
use Rattle.std.proofs.lemmas.List.Folds.{list_all_at}
use Rattle.std.specs.List.{list_all, list_any, position_or_len}
use Rattle.std.specs.Str.{bytes_eq, is_utf8}
use Rattle.std.proofs.lemmas.Bool.{cases_Bool}
use Rattle.std.proofs.lemmas.List.{append-nil, get_or-map, length-map, length-take-le, take-append-drop}
use Rattle.std.proofs.lemmas.List.Elements.{filter-append}
use Rattle.std.proofs.lemmas.Option.{slice_get-map, unwrap_or-slice_get}
use Rattle.entity_lists.specs.CsvRecords.{contents}
use Rattle.entity_lists.specs.ServerRows.{column_place, field_at_place, field_under, first_of_each, is_property}
use Rattle.entity_lists.specs.declared.server_rows.PropColumn.{PropColumn}
use Rattle.entity_lists.proofs.FirstLemmas.{any_first_by, any_passing, eq_self, first_by-push, if_new, if_passes}

-- ---- places

pub position_or_len-map : {X Y : Type 0} (p : Y → Bool) (f : X → Y) (xs : List X) → position_or_len p (map f xs) ≡ position_or_len (λ x. p (f x)) xs
position_or_len-map p f [] = refl
position_or_len-map p f (x ∷ xs) = rw (position_or_len-map p f xs) refl

pub position-map : {X Y : Type 0} (p : Y → Bool) (f : X → Y) (xs : List X) → position p (map f xs) ≡ position (λ x. p (f x)) xs
position-map p f xs = rw (position_or_len-map p f xs, length-map xs f) refl

-- the first of the elements that passes stands behind those that don't
pub first_place : {X : Type 0} (p : X → Bool) (xs : List X) (y : X) (ys : List X) → list_any p xs ≡ false → p y ≡ true → position_or_len p (xs ++ y ∷ ys) ≡ length xs
first_place p [] y ys none here = rw here refl
first_place p (x ∷ xs) y ys none here = elim (cases_Bool (p x)) [
  | inl e ↦ absurd (true≢false (rw e at none))
  | inr e ↦ rw e (rw (first_place p xs y ys (rw e at none) here) (omega arith))
]

-- ---- names taken once

abbrev itself : List ℕ → List ℕ
itself name = name

-- the names that pass a test, when one more column is read
pub next_names : (p : List ℕ → Bool) (xs : List (List ℕ)) (x : List ℕ) → filter p (first_of_each (xs ++ x ∷ []))
    ≡ filter p (first_of_each xs) ++ if_passes (p x && not (list_any (λ y. bytes_eq y x) (filter p (first_of_each xs)))) x
next_names p xs x =
    let found = first_of_each xs in
    let taken = list_any (λ y. bytes_eq y x) found in
    elim (cases_Bool (p x)) [
      | inl e ↦
          let same : filter p (if_new taken x) ≡ if_passes (not taken) x = elim taken as (λ b. filter p (if_new b x) ≡ if_passes (not b) x) [ true ↦ refl | false ↦ rw e refl ] in
          rw (first_by-push itself xs x, filter-append, same, e, any_passing itself p x found e) refl
      | inr e ↦
          let gone : filter p (if_new taken x) ≡ [] = elim taken as (λ b. filter p (if_new b x) ≡ []) [ true ↦ refl | false ↦ rw e refl ] in
          rw (first_by-push itself xs x, filter-append, gone, e) refl
    ]

-- more columns give more names behind those that there are
pub more_names : (p : List ℕ → Bool) (xs ys : List (List ℕ)) → (more : List (List ℕ)) × (filter p (first_of_each (xs ++ ys)) ≡ filter p (first_of_each xs) ++ more)
more_names p xs [] = ([], rw (append-nil xs, append-nil (filter p (first_of_each xs))) refl)
more_names p xs (y ∷ ys) =
    let later = more_names p (xs ++ y ∷ []) ys in
    let new = if_passes (p y && not (list_any (λ z. bytes_eq z y) (filter p (first_of_each xs)))) y in
    let apart : xs ++ y ∷ ys ≡ (xs ++ y ∷ []) ++ ys = sym (append_assoc xs (y ∷ []) ys) in
    let joined : (filter p (first_of_each xs) ++ new) ++ later.0 ≡ filter p (first_of_each xs) ++ (new ++ later.0) = append_assoc (filter p (first_of_each xs)) new later.0 in
    (new ++ later.0, ap (λ (zs : List (List ℕ)). filter p (first_of_each zs)) apart ∙ later.1 ∙ ap (λ (zs : List (List ℕ)). zs ++ later.0) (next_names p xs y) ∙ joined)

-- ---- fields

pub field_is : (fields : List (Bor (List ℕ))) (i : ℕ) (s : Bor (List ℕ)) → slice_get fields i ≡ Some s → unwrap_or (slice_get (contents fields) i) [] ≡ s.now
field_is fields i s is = rw (slice_get-map (λ (b : Bor (List ℕ)). b.now) fields i, is) refl

pub place_in_range : (header : List (List ℕ)) (name : List ℕ) (i : ℕ) → column_place header name ≡ Some i → i < length header
place_in_range header name i is =
    let test = λ (column : List ℕ). bytes_eq column name in
    let first = position_or_len test header in
    elim (cases_Bool (nat_lt first (length header))) [
      | inl e ↦
          let same : first ≡ i = cc (rw e at is) in
          subst (λ n. n < length header) same (ltb-true first (length header) e)
      | inr e ↦ cc (rw e at is)
    ]

pub all_utf8_at : (fields : List (List ℕ)) (i : ℕ) (d : List ℕ) → list_all is_utf8 fields ≡ true → i < length fields → is_utf8 (get_or fields i d) ≡ true
all_utf8_at fields i d all small = elim (cases_Bool (is_utf8 (get_or fields i d))) [
  | inl e ↦ e
  | inr e ↦ absurd (true≢false (sym all ∙ list_all_at is_utf8 fields i d small e))
]

pub contents_at : (slices : List (Bor (List ℕ))) (i : ℕ) (d : Bor (List ℕ)) → i < length slices → get_or (contents slices) i [] ≡ (get_or slices i d).now
contents_at slices i d small = get_or-map (λ (b : Bor (List ℕ)). b.now) slices i d [] small

pub length-contents : (slices : List (Bor (List ℕ))) → length (contents slices) ≡ length slices
length-contents slices = length-map slices (λ (b : Bor (List ℕ)). b.now)

-- one column more
pub taken_more : (header : List (Bor (List ℕ))) (i : ℕ) (d : Bor (List ℕ)) → i < length header
    → take (i + 1) (contents header) ≡ take i (contents header) ++ (get_or header i d).now ∷ []
taken_more header i d small =
    let long : i < length (contents header) = omega (arith, length-contents header) in
    rw (add-one i, take-suc (contents header) i [] long, contents_at header i d small) refl

list_any-map : {X Y : Type 0} (p : Y → Bool) (f : X → Y) (xs : List X) → list_any p (map f xs) ≡ list_any (λ x. p (f x)) xs
list_any-map p f [] = refl
list_any-map p f (x ∷ xs) = rw (list_any-map p f xs) refl

-- the names that were found, when one more column is read
pub names_step : (done : List (List ℕ)) (columns : List PropColumn) (x : List ℕ) (new : Bool)
    → map (λ (p : PropColumn). p.name) columns ≡ filter is_property (first_of_each done)
    → new ≡ (is_property x && not (list_any (λ (p : PropColumn). bytes_eq p.name x) columns))
    → filter is_property (first_of_each (done ++ x ∷ [])) ≡ map (λ (p : PropColumn). p.name) columns ++ if_passes new x
names_step done columns x new names is_new =
    rw (next_names is_property done x, ← names, list_any-map (λ (y : List ℕ). bytes_eq y x) (λ (p : PropColumn). p.name) columns, ← is_new) refl

both_true : (a b : Bool) → a && not b ≡ true → (a ≡ true) × (b ≡ false)
both_true true true h = cc h
both_true true false h = (refl, refl)
both_true false b h = cc h

-- a new name is that of the column that was read
pub new_place : (header : List (Bor (List ℕ))) (columns : List PropColumn) (i : ℕ) (d : Bor (List ℕ)) → i < length header
    → map (λ (p : PropColumn). p.name) columns ≡ filter is_property (first_of_each (take i (contents header)))
    → true ≡ (is_property (get_or header i d).now && not (list_any (λ (p : PropColumn). bytes_eq p.name (get_or header i d).now) columns))
    → column_place (contents header) (get_or header i d).now ≡ Some i
new_place header columns i d small names is_new =
    let all = contents header in
    let x = (get_or header i d).now in
    let test = λ (y : List ℕ). bytes_eq y x in
    let is = both_true (is_property x) (list_any (λ (p : PropColumn). bytes_eq p.name x) columns) (sym is_new) in
    let unseen : list_any test (take i all) ≡ false =
    sym (any_first_by itself x (take i all)) ∙ sym (any_passing itself is_property x (first_of_each (take i all)) is.0) ∙ ap (list_any test) (sym names) ∙ list_any-map test (λ (p : PropColumn). p.name) columns ∙ is.1 in
    let long : i < length all = omega (arith, length-contents header) in
    let parts : all ≡ take i all ++ x ∷ drop (suc i) all =
    sym (take-append-drop i all) ∙ ap (λ (t : List (List ℕ)). take i all ++ t) (drop-cons all i [] long ∙ ap (λ (y : List ℕ). y ∷ drop (suc i) all) (contents_at header i d small)) in
    let first : position_or_len test all ≡ i =
    ap (position_or_len test) parts ∙ first_place test (take i all) x (drop (suc i) all) unseen (eq_self x) ∙ length-take-le i all (omega arith) in
    let within : nat_lt i (length all) ≡ true = lt-ltb i (length all) long in
    rw (first, within) refl

-- the field of a row under a name whose column is known
pub field_under_place : (header : List (List ℕ)) (name : List ℕ) (fields : List (Bor (List ℕ))) (i : ℕ) (d : Bor (List ℕ)) → column_place header name ≡ Some i → i < length fields
    → field_under header name (contents fields) ≡ (get_or fields i d).now
field_under_place header name fields i d is small =
    ap (field_at_place (contents fields)) is ∙ unwrap_or-slice_get (contents fields) i [] ∙ contents_at fields i d small

-- a place of a column of the header is one of each row as long
pub place_in_row : (header fields : List (Bor (List ℕ))) (name : List ℕ) (i : ℕ) → column_place (contents header) name ≡ Some i → length fields ≡ length header → i < length fields
place_in_row header fields name i is same =
    let small = place_in_range (contents header) name i is in
    omega (arith, small, length-contents header)

pub text_at : (fields : List (Bor (List ℕ))) (i : ℕ) (d : Bor (List ℕ)) → list_all is_utf8 (contents fields) ≡ true → i < length fields → is_utf8 (get_or fields i d).now ≡ true
text_at fields i d all small =
    sym (ap is_utf8 (contents_at fields i d small)) ∙ all_utf8_at (contents fields) i [] all (omega (arith, length-contents fields))
