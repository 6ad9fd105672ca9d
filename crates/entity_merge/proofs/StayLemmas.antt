-- Local rows that a merge doesn't lose.
use Rattle.std.proofs.Common.{◌≡◌, ℕ, suc, ◌<◌, ◌==◌, nat_lt, false, if◌then◌else◌, All, Contains, List, [], ◌∷◌, get_or, Option, Some, None, arith, ap, sym, subst, refl, inl, inr, ◌∙◌}
use Rattle.std.specs.List.{cons_option, filter_map}
use Rattle.std.proofs.lemmas.Bool.{cases_Bool, eqb-true, ltb-true}
use Rattle.std.proofs.lemmas.List.Elements.{All-cons, All-nil, Contains-append_left}
use Rattle.field_ids.specs.Draws.{NextDraw}
use Rattle.entity_lists.specs.declared.entities.EntityRow.{EntityRow}
use Rattle.entity_lists.specs.declared.entities.ServerRow.{ServerRow}
use Rattle.entity_merge.specs.Laws.{NewerStay, OfflineStay}
use Rattle.entity_merge.specs.Merging.{branch_by, drawing_rows, merged_row, merged_rows, seen_row}
use Rattle.entity_merge.specs.Merging.{server_row, server_wins, taken_row, unseen_row}

later : (o : Option EntityRow) (rest : List EntityRow) (r : EntityRow) → Contains rest r → Contains (cons_option o rest) r
later None rest r h = h
later (Some x) rest r h = (suc h.0, omega (arith, h.1), h.2)

first : (o : Option EntityRow) (rest : List EntityRow) (r : EntityRow) → o ≡ Some r → Contains (cons_option o rest) r
first o rest r e = subst (λ (p : Option EntityRow). Contains (cons_option p rest) r) (sym e) (0, omega arith, refl)

abbrev Stays : (EntityRow → Option EntityRow) → List EntityRow → EntityRow → Type 0
Stays f merged l = (r : EntityRow) → f l ≡ Some r → Contains merged r

-- what a local row becomes is in the list
each_stays : (f : EntityRow → Option EntityRow) (ls : List EntityRow) → All (Stays f (filter_map f ls)) ls
each_stays f [] = All-nil (Stays f (filter_map f []))
each_stays f (l ∷ ls) =
    All-cons (Stays f (filter_map f (l ∷ ls))) l ls (λ r e. first (f l) (filter_map f ls) r e) (λ k d within r e. later (f l) (filter_map f ls) r (each_stays f ls k d within r e))

merged_stays : (locals : List EntityRow) (rows : List ServerRow) (draws : NextDraw)
    → All (Stays (λ (l : EntityRow). merged_row (branch_by (drawing_rows locals rows) draws) l (server_row rows l.id)) (merged_rows locals rows draws)) locals
merged_stays locals rows draws = λ k d within r e.
    Contains-append_left _ _ r (each_stays (λ (l : EntityRow). merged_row (branch_by (drawing_rows locals rows) draws) l (server_row rows l.id)) locals k d within r e)

pub offline_rows_stay : (locals : List EntityRow) (rows : List ServerRow) (draws : NextDraw) → OfflineStay locals rows (merged_rows locals rows draws)
offline_rows_stay locals rows draws = λ k d within offline none.
    let l = get_or locals k d in
    let is : unseen_row l ≡ Some l = ap (λ b. if b then None else Some l) offline in
    merged_stays locals rows draws k d within l (ap (merged_row (branch_by (drawing_rows locals rows) draws) l) none ∙ is)

not_won : (l : EntityRow) (s : ServerRow) → s.version < l.version → server_wins l s ≡ false
not_won l s newer =
    let below : nat_lt l.version s.version ≡ false = elim (cases_Bool (nat_lt l.version s.version)) [
      | inl e ↦ absurd (let lower = ltb-true l.version s.version e in omega arith)
      | inr e ↦ e
    ] in
    let other : (l.version == s.version) ≡ false = elim (cases_Bool (l.version == s.version)) [
      | inl e ↦ absurd (let same = eqb-true l.version s.version e in omega arith)
      | inr e ↦ e
    ] in
    rw (below, other) refl

pub newer_rows_stay : (locals : List EntityRow) (rows : List ServerRow) (draws : NextDraw) → NewerStay locals rows (merged_rows locals rows draws)
newer_rows_stay locals rows draws = λ k d within s found newer.
    let l = get_or locals k d in
    let branch : ServerRow → List ℕ = branch_by (drawing_rows locals rows) draws in
    let is : merged_row branch l (Some s) ≡ Some (seen_row l) = ap (λ b. Some (if b then taken_row s (branch s) else seen_row l)) (not_won l s newer) in
    merged_stays locals rows draws k d within (seen_row l) (ap (merged_row branch l) found ∙ is)
