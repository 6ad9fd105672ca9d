-- Versions stay within their limit, and what becomes of a local row is a line of the table.
use Rattle.std.proofs.Common.{◌≡◌, ◌≢◌, ℕ, ◌+◌, ◌<◌, ◌≤◌, ◌==◌, nat_lt, not, Bool, true, false, if◌then◌else◌}
use Rattle.std.proofs.Common.{List, [], ◌∷◌, ◌++◌, length, map, filter, find, Option, Some, None, is_none, Ok}
use Rattle.std.proofs.Common.{arith, ap, subst, refl, inl, inr}
use Rattle.std.specs.List.{cons_option, filter_map, list_any}
use Rattle.std.specs.Str.{bytes_eq}
use Rattle.std.proofs.lemmas.Bool.{cases_Bool, eqb-false, eqb-true, leb-false, ltb-false, ltb-true}
use Rattle.std.proofs.lemmas.List.Elements.{All-append, All-cons, All-filter, All-head, All-map, All-nil, All-push, All-tail}
use Rattle.field_ids.specs.Draws.{NextDraw}
use Rattle.entity_lists.specs.ServerRows.{row_limit}
use Rattle.entity_lists.specs.Versions.{IsVersion, is_last}
use Rattle.entity_lists.specs.declared.entities.EntityRow.{EntityRow}
use Rattle.entity_lists.specs.declared.entities.ServerRow.{ServerRow}
use Rattle.entity_merge.specs.declared.actions.Action.{Action}
use Rattle.entity_merge.specs.Branches.{branch_of}
use Rattle.entity_merge.specs.Actions.{acted_rows, created_row, created_rows, is_acted_on, is_at_end}
use Rattle.entity_merge.specs.Actions.{row_after, updated_rows}
use Rattle.entity_merge.specs.Laws.{HasVersions, HaveVersions, ServeVersions}
use Rattle.entity_merge.specs.Merging.{branch_by, drawing_rows, first_rows, is_trunk, kept_rows, local_row, merged_row}
use Rattle.entity_merge.specs.Merging.{merged_rows, new_rows, seen_row, server_row, server_wins, taken_row}
use Rattle.entity_merge.specs.VersionTable.{Becomes}
use Rattle.entity_merge.specs.VersionTable as line

-- ---- the table

trunk_is : (o : Option ℕ) (version : ℕ) → is_trunk o version ≡ true → o ≡ Some version
trunk_is None version h = cc h
trunk_is (Some trunk) version h = ap Some (eqb-true trunk version h)

trunk_is_other : (o : Option ℕ) (version : ℕ) → is_trunk o version ≡ false → o ≢ Some version
trunk_is_other None version h is = cc is
trunk_is_other (Some trunk) version h is = eqb-false trunk version h (cc is)

of_one_version : (branch : List ℕ) (l : EntityRow) (s : ServerRow) → l.version ≡ s.version
    → (b : Bool) → is_trunk l.trunk s.version ≡ b
    → Becomes branch (Some l) (Some s) (Some (if not b then taken_row s branch else seen_row l))
of_one_version branch l s same true e = line.same_trunk l s same (trunk_is l.trunk s.version e)
of_one_version branch l s same false e = line.other_trunk l s same (trunk_is_other l.trunk s.version e)

below : (a b : ℕ) → b ≤ a → (a ≡ b → ⊥) → b < a
below a b above other = elim (cases_Bool (nat_lt b a)) [
  | inl e ↦ ltb-true b a e
  | inr e ↦ absurd (let under = ltb-false b a e in other (omega arith))
]

unseen_line : (branch : List ℕ) (l : EntityRow) (b : Bool) → l.online ≡ b
    → Becomes branch (Some l) None (if b then None else Some l)
unseen_line branch l true e = line.vanished l e
unseen_line branch l false e = line.offline l e

pub line_of : (branch : List ℕ) (l : EntityRow) (o : Option ServerRow) → Becomes branch (Some l) o (merged_row (λ _. branch) l o)
line_of branch l None = unseen_line branch l l.online refl
line_of branch l (Some s) = elim (cases_Bool (nat_lt l.version s.version)) [
  | inl e ↦ rw e (line.older l s (ltb-true l.version s.version e))
  | inr e ↦
      let above = ltb-false l.version s.version e in
      elim (cases_Bool (l.version == s.version)) [
        | inl f ↦ rw (e, f) (of_one_version branch l s (eqb-true l.version s.version f) (is_trunk l.trunk s.version) refl)
        | inr f ↦
            let other = eqb-false l.version s.version f in
            rw (e, f) (line.newer l s (below l.version s.version above other))
      ]
]

-- ---- versions after a merge

held_by_one : (f : EntityRow → Option EntityRow) (l : EntityRow) (rest : List EntityRow) (o : Option EntityRow) → f l ≡ o
    → ((r : EntityRow) → f l ≡ Some r → HasVersions r) → HaveVersions rest → HaveVersions (cons_option o rest)
held_by_one f l rest None e here more = more
held_by_one f l rest (Some r) e here more = All-cons HasVersions r rest (here r e) more

held_by_all : (f : EntityRow → Option EntityRow) → ((l r : EntityRow) → HasVersions l → f l ≡ Some r → HasVersions r)
    → (ls : List EntityRow) → HaveVersions ls → HaveVersions (filter_map f ls)
held_by_all f step [] h = All-nil HasVersions
held_by_all f step (l ∷ ls) h =
    held_by_one f l (filter_map f ls) (f l) refl (λ r e. step l r (All-head HasVersions l ls h) e)
    (held_by_all f step ls (All-tail HasVersions l ls h))

abbrev Serves : ServerRow → Type 0
Serves s = IsVersion s.version

found_one : (p : ServerRow → Bool) (s r : ServerRow) (rest : Option ServerRow) (b : Bool)
    → (if b then Some s else rest) ≡ Some r → Serves s → (rest ≡ Some r → Serves r) → Serves r
found_one p s r rest true h here more = let same : s ≡ r = cc h in subst Serves same here
found_one p s r rest false h here more = more h

found_serves : (p : ServerRow → Bool) (rows : List ServerRow) (r : ServerRow) → ServeVersions rows → find p rows ≡ Some r
    → Serves r
found_serves p [] r h e = cc e
found_serves p (s ∷ rows) r h e =
    found_one p s r (find p rows) (p s) e (All-head Serves s rows h) (found_serves p rows r (All-tail Serves s rows h))

row_holds : (branch : ServerRow → List ℕ) (l r : EntityRow) (o : Option ServerRow) → HasVersions l
    → ((s : ServerRow) → o ≡ Some s → Serves s) → merged_row branch l o ≡ Some r → HasVersions r
row_holds branch l r None here served is = elim (cases_Bool l.online) [
  | inl e ↦ cc (rw e at is)
  | inr e ↦ let same : l ≡ r = cc (rw e at is) in subst HasVersions same here
]
row_holds branch l r (Some s) here served is = elim (cases_Bool (server_wins l s)) [
  | inl e ↦
      let same : taken_row s (branch s) ≡ r = cc (rw e at is) in
      subst HasVersions same (served s refl, served s refl)
  | inr e ↦ let same : seen_row l ≡ r = cc (rw e at is) in subst HasVersions same here
]

first_serve : (rows : List ServerRow) → ServeVersions rows → ServeVersions (first_rows rows)
first_serve [] h = All-nil Serves
first_serve (s ∷ rows) h =
    let others = λ (o : ServerRow). not (bytes_eq o.id s.id) in
    All-cons Serves s (filter others (first_rows rows)) (All-head Serves s rows h)
    (All-filter others Serves (first_rows rows) (first_serve rows (All-tail Serves s rows h)))

new_hold : (branch : ServerRow → List ℕ) (rows : List ServerRow) → ServeVersions rows
    → HaveVersions (map (λ s. taken_row s (branch s)) rows)
new_hold branch rows h =
    All-map HasVersions (λ (s : ServerRow). taken_row s (branch s)) rows (λ k d within. (h k d within, h k d within))

pub merged_versions : (locals : List EntityRow) (rows : List ServerRow) (draws : NextDraw) → HaveVersions locals
    → ServeVersions rows → HaveVersions (merged_rows locals rows draws)
merged_versions locals rows draws here served =
    let branch : ServerRow → List ℕ = branch_by (drawing_rows locals rows) draws in
    let unknown : ServerRow → Bool = λ s. is_none (local_row locals s.id) in
    let step = λ (l r : EntityRow) (h : HasVersions l) (e : merged_row branch l (server_row rows l.id) ≡ Some r).
    row_holds branch l r (server_row rows l.id) h (λ s. found_serves (λ (x : ServerRow). bytes_eq x.id l.id) rows s served) e in
    All-append HasVersions (kept_rows locals rows branch) (new_rows locals (first_rows rows) branch)
    (held_by_all (λ (l : EntityRow). merged_row branch l (server_row rows l.id)) step locals here)
    (new_hold branch (filter unknown (first_rows rows)) (All-filter unknown Serves (first_rows rows) (first_serve rows served)))

-- ---- versions after an action

row_after_holds : (action : Action) (r : EntityRow) → HasVersions r → is_at_end action r ≡ false → HasVersions (row_after action r)
row_after_holds action r h inside = elim (cases_Bool (is_acted_on action r)) [
  | inl e ↦
      let last : is_last r.version ≡ false = rw e at inside in
      let more = leb-false 1000000000000000 r.version last in
      rw e ((omega arith, omega (arith, more)), h.1)
  | inr e ↦ rw e h
]

updated_hold : (action : Action) (rows : List EntityRow) → HaveVersions rows → list_any (is_at_end action) rows ≡ false
    → HaveVersions (map (row_after action) rows)
updated_hold action [] h none = All-nil HasVersions
updated_hold action (r ∷ rows) h none = elim (cases_Bool (is_at_end action r)) [
  | inl e ↦ cc (rw e at none)
  | inr e ↦
      All-cons HasVersions (row_after action r) (map (row_after action) rows)
      (row_after_holds action r (All-head HasVersions r rows h) e)
      (updated_hold action rows (All-tail HasVersions r rows h) (rw e at none))
]

updated_versions : (rows : List EntityRow) (action : Action) (after : List EntityRow) → HaveVersions rows
    → updated_rows rows action ≡ Ok after → HaveVersions after
updated_versions rows action after h is = elim (cases_Bool (list_any (is_at_end action) rows)) [
  | inl e ↦ cc (rw e at is)
  | inr e ↦
      let same : map (row_after action) rows ≡ after = cc (rw e at is) in
      subst HaveVersions same (updated_hold action rows h e)
]

created_versions : (rows : List EntityRow) (action : Action) (branch : List ℕ) (after : List EntityRow) → HaveVersions rows
    → created_rows rows action branch ≡ Ok after → HaveVersions after
created_versions rows action branch after h is = elim (cases_Bool (nat_lt row_limit (length rows + 1))) [
  | inl e ↦ cc (rw e at is)
  | inr e ↦
      let same : rows ++ created_row action branch ∷ [] ≡ after = cc (rw e at is) in
      subst HaveVersions same
      (All-push HasVersions rows (created_row action branch) h ((omega arith, omega arith), tt))
]

pub acted_versions : (rows : List EntityRow) (action : Action) (draws : NextDraw) (after : List EntityRow)
    → HaveVersions rows → acted_rows rows action draws ≡ Ok after → HaveVersions after
acted_versions rows action draws after h is = elim (cases_Bool action.create) [
  | inl e ↦ created_versions rows action (branch_of draws) after h (rw e at is)
  | inr e ↦ updated_versions rows action after h (rw e at is)
]
