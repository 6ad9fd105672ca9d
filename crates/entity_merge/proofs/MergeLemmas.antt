-- First rows of ids, and the ids of a merged list.
use Rattle.std.proofs.Common.{◌≡◌, ◌≢◌, ℕ, suc, ◌+◌, ◌<◌, ◌≤◌, ◌&&◌, not, Bool, true, false, true≢false, if◌then◌else◌, All, AllPairs, List, [], ◌∷◌, ◌++◌, length, map, filter, find, take, get_or, Option, Some, None, is_none, Bor, arith, add-one, ap, sym, subst, refl, inl, inr, ◌∙◌}
use Rattle.std.specs.List.{cons_option, filter_map, list_any}
use Rattle.std.specs.Str.{bytes_eq}
use Rattle.std.proofs.lemmas.Bool.{cases_Bool}
use Rattle.std.proofs.lemmas.List.{length-map, map-append}
use Rattle.std.proofs.lemmas.List.Elements.{All-append, All-cons, All-head, All-map, All-nil, All-tail, filter-append, filter_map-append, filter_passes}
use Rattle.std.proofs.lemmas.List.Kept.{AllPairs-cons, AllPairs-filter}
use Rattle.std.proofs.lemmas.Slice.Eq.{bytes_eq-Decides}
use Rattle.std.proofs.Math.Seq.{take-suc}
use Rattle.field_ids.specs.Draws.{NextDraw}
use Rattle.entity_lists.specs.declared.entities.EntityRow.{EntityRow}
use Rattle.entity_lists.specs.declared.entities.ServerRow.{ServerRow}
use Rattle.entity_lists.proofs.FirstLemmas.{any_first_by, first_by-push, has_key, if_new, if_passes, length-filter-le, length-first_by}
use Rattle.entity_merge.specs.Merging.{branch_by, contents, draws_branch, drawing_rows, first_rows, kept_rows, local_row, merged_row, merged_rows, new_rows, seen_row, server_row, server_wins, taken_row}

abbrev row_id : ServerRow → List ℕ
row_id s = s.id

-- the first rows that pass a test, when one more row is read
next_first : (p : ServerRow → Bool) (rows : List ServerRow) (i : ℕ) (d : ServerRow) → i < length rows
    → filter p (first_rows (take (i + 1) rows)) ≡ filter p (first_rows (take i rows)) ++ if_passes (not (list_any (has_key row_id (get_or rows i d).id) (take i rows)) && p (get_or rows i d)) (get_or rows i d)
next_first p rows i d small =
    let x = get_or rows i d in
    let done = take i rows in
    let found = first_rows done in
    let step : take (i + 1) rows ≡ done ++ x ∷ [] = rw (add-one i) (take-suc rows i d small) in
    let taken = list_any (has_key row_id x.id) done in
    let one : filter p (if_new taken x) ≡ if_passes (not taken && p x) x =
    elim taken as (λ b. filter p (if_new b x) ≡ if_passes (not b && p x) x) [ true ↦ refl | false ↦ refl ] in
    ap (λ (l : List ServerRow). filter p (first_rows l)) step ∙ ap (filter p) (first_by-push row_id done x) ∙ filter-append p found (if_new (list_any (has_key row_id x.id) found) x)
    ∙ ap (λ b. filter p found ++ filter p (if_new b x)) (any_first_by row_id x.id done) ∙ ap (λ (l : List ServerRow). filter p found ++ l) one

pub row_step : (p : ServerRow → Bool) (rows : List ServerRow) (i : ℕ) (x : ServerRow) (b : Bool) → i < length rows → x ≡ get_or rows i x
    → b ≡ (not (list_any (has_key row_id x.id) (take i rows)) && p x) → filter p (first_rows (take (i + 1) rows)) ≡ filter p (first_rows (take i rows)) ++ if_passes b x
row_step p rows i x b small is test =
    next_first p rows i x small
    ∙ ap (λ (r : ServerRow). filter p (first_rows (take i rows)) ++ if_passes (not (list_any (has_key row_id r.id) (take i rows)) && p r) r) (sym is)
    ∙ ap (λ n. filter p (first_rows (take i rows)) ++ if_passes n x) (sym test)

-- the rows that pass a test among those that start a branch, when one more is read
pub drawing_step : (p : ServerRow → Bool) (rows : List (Bor ServerRow)) (i : ℕ) (x : Bor ServerRow) (b : Bool) → i < length rows → x ≡ get_or rows i x → b ≡ p x.now
    → filter p (contents (take (i + 1) rows)) ≡ filter p (contents (take i rows)) ++ if_passes b x.now
drawing_step p rows i x b small is test =
    let y = get_or rows i x in
    let done = take i rows in
    let step : take (i + 1) rows ≡ done ++ y ∷ [] = rw (add-one i) (take-suc rows i x small) in
    ap (λ (l : List (Bor ServerRow)). filter p (contents l)) step
    ∙ ap (filter p) (map-append (λ (r : Bor ServerRow). r.now) done (y ∷ []))
    ∙ filter-append p (contents done) (y.now ∷ [])
    ∙ ap (λ (r : Bor ServerRow). filter p (contents done) ++ if_passes (p r.now) r.now) (sym is)
    ∙ ap (λ n. filter p (contents done) ++ if_passes n x.now) (sym test)

-- ---- local rows, one more

pub local_step : (f : EntityRow → Option EntityRow) (locals : List EntityRow) (i : ℕ) (x : EntityRow) → i < length locals → x ≡ get_or locals i x
    → filter_map f (take (i + 1) locals) ≡ filter_map f (take i locals) ++ cons_option (f x) []
local_step f locals i x small is =
    let step : take (i + 1) locals ≡ take i locals ++ get_or locals i x ∷ [] = rw (add-one i) (take-suc locals i x small) in
    ap (filter_map f) step ∙ filter_map-append f (take i locals) (get_or locals i x ∷ []) ∙ ap (λ (r : EntityRow). filter_map f (take i locals) ++ cons_option (f r) []) (sym is)

-- ---- ids differ

tail_pairs : {X : Type 0} (R : X → X → Type 0) (x : X) (xs : List X) → AllPairs R (x ∷ xs) → AllPairs R xs
tail_pairs R x xs h = λ i j d below within. h (suc i) (suc j) d (omega arith) (omega arith)

head_pairs : {X : Type 0} (R : X → X → Type 0) (x : X) (xs : List X) → AllPairs R (x ∷ xs) → All (R x) xs
head_pairs R x xs h = λ k d within. h 0 (suc k) d (omega arith) (omega arith)

pub AllPairs-map : {X Y : Type 0} (R : Y → Y → Type 0) (g : X → Y) (xs : List X) → AllPairs (λ (a b : X). R (g a) (g b)) xs → AllPairs R (map g xs)
AllPairs-map R g [] h = λ i j d below within. absurd (omega arith)
AllPairs-map {X} R g (x ∷ xs) h =
    AllPairs-cons R (g x) (map g xs) (All-map (R (g x)) g xs (head_pairs (λ (a b : X). R (g a) (g b)) x xs h)) (AllPairs-map R g xs (tail_pairs (λ (a b : X). R (g a) (g b)) x xs h))

AllPairs-append : {X : Type 0} (R : X → X → Type 0) (xs ys : List X) → AllPairs R xs → AllPairs R ys → All (λ (x : X). All (R x) ys) xs → AllPairs R (xs ++ ys)
AllPairs-append R [] ys hx hy cross = hy
AllPairs-append {X} R (x ∷ xs) ys hx hy cross =
    AllPairs-cons R x (xs ++ ys) (All-append (R x) xs ys (head_pairs R x xs hx) (All-head (λ (z : X). All (R z) ys) x xs cross)) (AllPairs-append R xs ys (tail_pairs R x xs hx) hy (All-tail (λ (z : X). All (R z) ys) x xs cross))

-- the ids of first rows differ
abbrev pub OtherServerId : ServerRow → ServerRow → Type 0
OtherServerId a b = a.id ≢ b.id

first_rows_differ : (rows : List ServerRow) → AllPairs OtherServerId (first_rows rows)
first_rows_differ [] = λ i j d below within. absurd (omega arith)
first_rows_differ (s ∷ rows) =
    let others = λ (o : ServerRow). not (bytes_eq o.id s.id) in
    let apart : All (OtherServerId s) (filter others (first_rows rows)) = λ k d within e.
    true≢false (sym (filter_passes others (first_rows rows) k d within) ∙ ap not ((bytes_eq-Decides (get_or (filter others (first_rows rows)) k d).id s.id).1 (sym e))) in
    AllPairs-cons OtherServerId s (filter others (first_rows rows)) apart (AllPairs-filter OtherServerId others (first_rows rows) (first_rows_differ rows))

abbrev pub OtherId : EntityRow → EntityRow → Type 0
OtherId a b = a.id ≢ b.id

-- what a local row becomes keeps its id
abbrev pub KeepsId : (EntityRow → Option EntityRow) → Type 0
KeepsId f = (l r : EntityRow) → f l ≡ Some r → r.id ≡ l.id

kept_one : (f : EntityRow → Option EntityRow) (P : List ℕ → Type 0) → KeepsId f → (l : EntityRow) (rest : List EntityRow) (o : Option EntityRow) → f l ≡ o → P l.id
    → All (λ (r : EntityRow). P r.id) rest → All (λ (r : EntityRow). P r.id) (cons_option o rest)
kept_one f P keeps l rest None e here h = h
kept_one f P keeps l rest (Some r) e here h = All-cons (λ (x : EntityRow). P x.id) r rest (subst P (sym (keeps l r e)) here) h

-- a fact on ids that holds of the local rows holds of what they become
kept_all : (f : EntityRow → Option EntityRow) (P : List ℕ → Type 0) → KeepsId f → (ls : List EntityRow) → All (λ (l : EntityRow). P l.id) ls → All (λ (r : EntityRow). P r.id) (filter_map f ls)
kept_all f P keeps [] h = All-nil (λ (r : EntityRow). P r.id)
kept_all f P keeps (l ∷ ls) h =
    kept_one f P keeps l (filter_map f ls) (f l) refl (All-head (λ (x : EntityRow). P x.id) l ls h) (kept_all f P keeps ls (All-tail (λ (x : EntityRow). P x.id) l ls h))

pair_one : (f : EntityRow → Option EntityRow) → KeepsId f → (l : EntityRow) (rest : List EntityRow) (o : Option EntityRow) → f l ≡ o → All (λ (r : EntityRow). l.id ≢ r.id) rest → AllPairs OtherId rest
    → AllPairs OtherId (cons_option o rest)
pair_one f keeps l rest None e apart h = h
pair_one f keeps l rest (Some r) e apart h = AllPairs-cons OtherId r rest (λ k d within same. apart k d within (sym (keeps l r e) ∙ same)) h

kept_differ : (f : EntityRow → Option EntityRow) → KeepsId f → (ls : List EntityRow) → AllPairs OtherId ls → AllPairs OtherId (filter_map f ls)
kept_differ f keeps [] h = λ i j d below within. absurd (omega arith)
kept_differ f keeps (l ∷ ls) h =
    pair_one f keeps l (filter_map f ls) (f l) refl (kept_all f (λ (id : List ℕ). l.id ≢ id) keeps ls (head_pairs OtherId l ls h)) (kept_differ f keeps ls (tail_pairs OtherId l ls h))

-- where no row of an id is found, each row has another
none_one : (id : List ℕ) (l : EntityRow) (ls : List EntityRow) (b : Bool) → bytes_eq l.id id ≡ b → (if b then Some l else find (λ (x : EntityRow). bytes_eq x.id id) ls) ≡ None
    → (find (λ (x : EntityRow). bytes_eq x.id id) ls ≡ None → All (λ (x : EntityRow). x.id ≢ id) ls) → All (λ (x : EntityRow). x.id ≢ id) (l ∷ ls)
none_one id l ls true e h more = cc h
none_one id l ls false e h more = All-cons (λ (x : EntityRow). x.id ≢ id) l ls (λ same. true≢false (sym ((bytes_eq-Decides l.id id).1 same) ∙ e)) (more h)

none_found : (id : List ℕ) (ls : List EntityRow) → local_row ls id ≡ None → All (λ (l : EntityRow). l.id ≢ id) ls
none_found id [] h = All-nil (λ (l : EntityRow). l.id ≢ id)
none_found id (l ∷ ls) h = none_one id l ls (bytes_eq l.id id) refl h (none_found id ls)

is_none_none : {X : Type 0} (o : Option X) → is_none o ≡ true → o ≡ None
is_none_none None h = refl
is_none_none (Some x) h = cc h

found_one : (p : ServerRow → Bool) (s r : ServerRow) (rest : Option ServerRow) (b : Bool) → p s ≡ b → (if b then Some s else rest) ≡ Some r → (rest ≡ Some r → p r ≡ true) → p r ≡ true
found_one p s r rest true e h more = let same : s ≡ r = cc h in ap p (sym same) ∙ e
found_one p s r rest false e h more = more h

found_passes : (p : ServerRow → Bool) (rows : List ServerRow) (r : ServerRow) → find p rows ≡ Some r → p r ≡ true
found_passes p [] r h = cc h
found_passes p (s ∷ rows) r h = found_one p s r (find p rows) (p s) refl h (found_passes p rows r)

unseen_keeps : (l r : EntityRow) (b : Bool) → (if b then None else Some l) ≡ Some r → r.id ≡ l.id
unseen_keeps l r true h = cc h
unseen_keeps l r false h = let same : l ≡ r = cc h in ap (λ (x : EntityRow). x.id) (sym same)

seen_keeps : (branch : List ℕ) (l r : EntityRow) (s : ServerRow) (b : Bool) → s.id ≡ l.id → Some (if b then taken_row s branch else seen_row l) ≡ Some r → r.id ≡ l.id
seen_keeps branch l r s true same h = let is : taken_row s branch ≡ r = cc h in ap (λ (x : EntityRow). x.id) (sym is) ∙ same
seen_keeps branch l r s false same h = let is : seen_row l ≡ r = cc h in ap (λ (x : EntityRow). x.id) (sym is)

merged_keeps : (branch : ServerRow → List ℕ) (rows : List ServerRow) (l r : EntityRow) (o : Option ServerRow) → server_row rows l.id ≡ o → merged_row branch l o ≡ Some r → r.id ≡ l.id
merged_keeps branch rows l r None e h = unseen_keeps l r l.online h
merged_keeps branch rows l r (Some s) e h = seen_keeps (branch s) l r s (server_wins l s) ((bytes_eq-Decides s.id l.id).0 (found_passes (λ (x : ServerRow). bytes_eq x.id l.id) rows s e)) h

-- the ids of a merged list differ
pub merged_differ : (locals : List EntityRow) (rows : List ServerRow) (draws : NextDraw) → AllPairs OtherId locals → AllPairs OtherId (merged_rows locals rows draws)
merged_differ locals rows draws h =
    let branch : ServerRow → List ℕ = branch_by (drawing_rows locals rows) draws in
    let f : EntityRow → Option EntityRow = λ l. merged_row branch l (server_row rows l.id) in
    let g : ServerRow → EntityRow = λ s. taken_row s (branch s) in
    let unknown : ServerRow → Bool = λ s. is_none (local_row locals s.id) in
    let new = filter unknown (first_rows rows) in
    let keeps : KeepsId f = λ l r e. merged_keeps branch rows l r (server_row rows l.id) refl e in
    let cross : All (λ (l : EntityRow). All (λ (y : EntityRow). l.id ≢ y.id) (map g new)) locals = λ k d within.
    All-map (λ (y : EntityRow). (get_or locals k d).id ≢ y.id) g new (λ j e there same.
    none_found (get_or new j e).id locals (is_none_none _ (filter_passes unknown (first_rows rows) j e there)) k d within same) in
    AllPairs-append OtherId (filter_map f locals) (map g new)
    (kept_differ f keeps locals h)
    (AllPairs-map OtherId g new (AllPairs-filter OtherServerId unknown (first_rows rows) (first_rows_differ rows)))
    (kept_all f (λ (id : List ℕ). All (λ (y : EntityRow). id ≢ y.id) (map g new)) keeps locals cross)

-- ---- the whole list

-- no more rows start a branch than there are
pub few_drawing : (locals : List EntityRow) (rows : List ServerRow) (items : List (Bor ServerRow)) → contents items ≡ drawing_rows locals rows → length items ≤ length rows
few_drawing locals rows items is =
    omega (arith, length-map items (λ (r : Bor ServerRow). r.now), ap length is, length-filter-le (λ (s : ServerRow). draws_branch (local_row locals s.id) s) (first_rows rows), length-first_by row_id rows)

filter_filter : {X : Type 0} (p q : X → Bool) → ((x : X) → p x ≡ true → q x ≡ true) → (xs : List X) → filter p (filter q xs) ≡ filter p xs
filter_filter p q more [] = refl
filter_filter {X} p q more (x ∷ xs) = elim (cases_Bool (p x)) [
  | inl e ↦
      let also = more x e in
      rw (also, e) (ap (λ (l : List X). x ∷ l) (filter_filter p q more xs))
  | inr e ↦ elim (cases_Bool (q x)) [
    | inl f ↦ rw (f, e) (filter_filter p q more xs)
    | inr f ↦ rw (f, e) (filter_filter p q more xs)
  ]
]

-- each row that no local one has starts a branch
all_unknown_draw : (locals : List EntityRow) (rows : List ServerRow)
    → filter (λ (s : ServerRow). is_none (local_row locals s.id)) (drawing_rows locals rows) ≡ filter (λ (s : ServerRow). is_none (local_row locals s.id)) (first_rows rows)
all_unknown_draw locals rows =
    filter_filter (λ (s : ServerRow). is_none (local_row locals s.id)) (λ (s : ServerRow). draws_branch (local_row locals s.id) s)
    (λ s none. ap (λ (o : Option EntityRow). draws_branch o s) (is_none_none (local_row locals s.id) none)) (first_rows rows)

-- the rows that stay and the new ones are the merged list
pub whole_list : (locals : List EntityRow) (rows drawing : List ServerRow) (draws : NextDraw) (kept new all : List EntityRow)
    → drawing ≡ drawing_rows locals rows
    → kept ≡ kept_rows locals rows (branch_by drawing draws)
    → new ≡ new_rows locals drawing (branch_by drawing draws)
    → all ≡ kept ++ new → all ≡ merged_rows locals rows draws
whole_list locals rows drawing draws kept new all drawn kept_is new_is all_is =
    let stay = λ (d : List ServerRow). kept_rows locals rows (branch_by d draws) in
    let come = λ (d : List ServerRow). new_rows locals d (branch_by d draws) in
    let taken = λ (s : ServerRow). taken_row s (branch_by (drawing_rows locals rows) draws s) in
    all_is
    ∙ ap (λ (k : List EntityRow). k ++ new) (kept_is ∙ ap stay drawn)
    ∙ ap (λ (n : List EntityRow). stay (drawing_rows locals rows) ++ n)
    (new_is ∙ ap come drawn ∙ ap (map taken) (all_unknown_draw locals rows))
