-- The ids that finalizing draws.
use Rattle.std.specs.Prelude.{ℕ, zero, suc, ◌+◌, ◌<◌, ◌≤◌, ◌^◌, ◌≡◌, ◌≢◌, ◌⊎◌, List, [], ◌∷◌, ◌++◌, codes, drop, refl}
use Rattle.std.specs.Prelude.{Option, Some, None, Ok, slice_index_or, slice_set}
use Rattle.std.proofs.Common.{ap, arith, inl, inr, subst, sym, ◌∙◌}
use Rattle.field_ids.specs.Draws.{IsInRange, NextDraw, drawn}
use Rattle.field_ids.proofs.IdLemmas.{same_draw}
use Rattle.form_def.specs.declared.form.FormDef.{FormDef}
use Rattle.question_rules.specs.Fields.{text_at}
use Rattle.entity_lists.specs.declared.entity_list.EntityList.{EntityList}
use Rattle.entity_lists.specs.EntityTables.{tables_of}
use Rattle.finalizer.specs.declared.finals.Final.{Final}
use Rattle.finalizer.specs.declared.finals.MetaIn.{MetaIn}
use Rattle.finalizer.specs.EntityParts.{undrawn}
use Rattle.finalizer.specs.Finals.{final_of, next_id, settled_sheet, with_id_at}
use Rattle.finalizer.specs.Laws.{DrawsOn, IsDrawnBetween, IsFirstDrawn}
use Rattle.finalizer.proofs.Finalizing.{made_for, made_of}

on_by_one_or_two : (texts : List (List ℕ)) (before : NextDraw) (number : Option ℕ)
    → DrawsOn before (with_id_at texts (drawn before 1) number).draws
on_by_one_or_two texts before None = record { device = refl; least = omega arith; most = omega arith }
on_by_one_or_two texts before (Some number) = record { device = refl; least = omega arith; most = omega arith }

pub draws_on : (form : FormDef) (sheet : List (List ℕ)) (lists : List EntityList) (meta : MetaIn) (done : Final)
    → final_of form sheet lists meta ≡ Ok done → DrawsOn meta.draws done.draws
draws_on form sheet lists meta done is =
    let m = made_of form sheet lists meta done is in
    subst (DrawsOn meta.draws) (sym m.draws) (on_by_one_or_two _ meta.draws _)

-- the next id is drawn between the draws and those behind it
next_between : (draws : NextDraw) → IsDrawnBetween draws (drawn draws 1) (next_id draws)
next_between draws = record { counter = draws.next; least = omega arith; most = omega arith; id = refl }

pub instance_first : (form : FormDef) (sheet : List (List ℕ)) (lists : List EntityList) (meta : MetaIn) (done : Final)
    → final_of form sheet lists meta ≡ Ok done → IsFirstDrawn meta.draws done.instance_id
instance_first form sheet lists meta done is =
    let m = made_of form sheet lists meta done is in
    record { text = next_id meta.draws; named = m.instance_id; drawn_first = next_between meta.draws }

-- what is read where something was put is that, or what was there
put_or_old : {A : Type 0} (xs : List A) (i j : ℕ) (y d : A)
    → (slice_index_or (slice_set xs i y) j d ≡ y) ⊎ (slice_index_or (slice_set xs i y) j d ≡ slice_index_or xs j d)
put_or_old [] i j y d = inr refl
put_or_old (x ∷ xs) zero zero y d = inl refl
put_or_old (x ∷ xs) zero (suc j) y d = inr refl
put_or_old (x ∷ xs) (suc i) zero y d = inr refl
put_or_old (x ∷ xs) (suc i) (suc j) y d = put_or_old xs i j y d

id_put : (texts : List (List ℕ)) (draws : NextDraw) (at number : ℕ)
    → (slice_index_or (slice_set texts at (next_id draws)) number [] ≡ next_id draws)
    ⊎ (slice_index_or (slice_set texts at (next_id draws)) number [] ≡ text_at texts number)
    → slice_index_or (slice_set texts at (next_id draws)) number [] ≢ text_at texts number
    → IsDrawnBetween draws (drawn draws 1) (slice_index_or (slice_set texts at (next_id draws)) number [])
id_put texts draws at number (inl put) other =
    subst (IsDrawnBetween draws (drawn draws 1)) (sym put) (next_between draws)
id_put texts draws at number (inr old) other = absurd (other old)

entity_put : (texts : List (List ℕ)) (draws : NextDraw) (place : Option ℕ) (number : ℕ)
    → text_at (with_id_at texts draws place).sheet number ≢ text_at texts number
    → IsDrawnBetween draws (with_id_at texts draws place).draws (text_at (with_id_at texts draws place).sheet number)
entity_put texts draws None number other = absurd (other refl)
entity_put texts draws (Some at) number other =
    id_put texts draws at number (put_or_old texts at number (next_id draws) []) other

pub entity_behind : (form : FormDef) (sheet : List (List ℕ)) (lists : List EntityList) (meta : MetaIn) (done : Final)
    → final_of form sheet lists meta ≡ Ok done → (number : ℕ)
    → text_at done.sheet number ≢ text_at (settled_sheet form (tables_of lists) sheet) number
    → IsDrawnBetween (drawn meta.draws 1) done.draws (text_at done.sheet number)
entity_behind form sheet lists meta done is number other =
    let m = made_of form sheet lists meta done is in
    let texts = settled_sheet form (tables_of lists) sheet in
    let made = made_for form sheet lists meta in
    subst (λ s. IsDrawnBetween (drawn meta.draws 1) done.draws (text_at s number)) (sym m.sheet)
    (subst (λ d. IsDrawnBetween (drawn meta.draws 1) d (text_at made.sheet number)) (sym m.draws)
    (entity_put texts (drawn meta.draws 1) (undrawn form texts) number
    (λ e. other (ap (λ s. text_at s number) m.sheet ∙ e))))

pub later_differs : (a b c d : NextDraw) (one other : List ℕ) → IsInRange a → IsInRange c → IsInRange d
    → b.next ≤ c.next → IsDrawnBetween a b one → IsDrawnBetween c d other → one ≢ other
later_differs a b c d one other in_a in_c in_d later x y same =
    let draw = same_draw a.device x.counter c.device y.counter in_a.device
    (omega (arith, x.most, later, y.least, y.most, in_d.next)) in_c.device (omega (arith, y.most, in_d.next))
    (sym x.id ∙ same ∙ y.id) in
    omega (arith, draw.1, x.most, later, y.least)

-- texts behind the same front
same_behind : (one other : List ℕ) → codes "uuid:" ++ one ≡ codes "uuid:" ++ other → one ≡ other
same_behind one other same = ap (drop 5) same

pub apart : (form : FormDef) (sheet : List (List ℕ)) (lists : List EntityList) (meta : MetaIn) (done : Final)
    → IsInRange meta.draws → meta.draws.next + 2 ≤ 2 ^ 62 → final_of form sheet lists meta ≡ Ok done → (number : ℕ)
    → text_at done.sheet number ≢ text_at (settled_sheet form (tables_of lists) sheet) number
    → done.instance_id ≢ codes "uuid:" ++ text_at done.sheet number
apart form sheet lists meta done in_range room is number other same =
    let first = instance_first form sheet lists meta done is in
    let next = draws_on form sheet lists meta done is in
    let between : IsInRange (drawn meta.draws 1) =
    record { device = in_range.device; from_one = omega arith; next = omega (arith, room) } in
    let behind : IsInRange done.draws = record {
      device = subst (λ n. n < 2 ^ 48) (sym next.device) in_range.device;
      from_one = omega (arith, next.least);
      next = omega (arith, room, next.most);
    } in
    later_differs meta.draws (drawn meta.draws 1) (drawn meta.draws 1) done.draws first.text (text_at done.sheet number)
    in_range between behind (omega arith) first.drawn_first (entity_behind form sheet lists meta done is number other)
    (same_behind first.text (text_at done.sheet number) (sym first.named ∙ same))
