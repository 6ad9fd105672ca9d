-- What finalizing an instance draws: its id, and the draws behind it.
use Rattle.std.proofs.Common.{◌≡◌, ℕ, ◌+◌, ◌<◌, ◌≤◌, ◌^◌, List, [], ◌++◌, Bool, true, false, Option, Some, None, Result, Ok}
use Rattle.std.proofs.Common.{Err, refl, arith, sym, ◌∙◌, ap, subst}
use Rattle.std.specs.Prelude.{codes, nat_lt, if◌then◌else◌}
use Rattle.std.specs.Option.{option_map_or}
use Rattle.std.proofs.lemmas.Bool.Decides.{nat_tests}
use Rattle.field_text.proofs.StepLemmas.{then_ok}
use Rattle.field_ids.specs.Draws.{IsInRange, NextDraw, drawn}
use Rattle.form_def.specs.declared.form.FormDef.{FormDef}
use Rattle.kept_forms.specs.KeptForms.{definition_of, fits_form}
use Rattle.entity_lists.specs.declared.entity_list.EntityList.{EntityList}
use Rattle.entity_merge.specs.Actions.{acted as acted_on, acted_rows}
use Rattle.entity_merge.specs.declared.actions.Action.{Action}
use Rattle.entity_merge.specs.declared.actions.ActionRefused.{ActionRefused}
use Rattle.finalizer.proofs.DrawLemmas.{draws_on, instance_first}
use Rattle.finalizer.specs.declared.finals.Final.{Final}
use Rattle.finalizer.specs.declared.finals.MetaIn.{MetaIn}
use Rattle.finalizer.specs.declared.finals.NotFinal.{NotFinal as Unfinished}
use Rattle.finalizer.specs.declared.finals.NotFinal.TheVariants.{Required}
use Rattle.finalizer.specs.Finals.{final_of as final_by}
use Rattle.finalizer.specs.KeptFinals.{finalized_in, finalized_of}
use Rattle.finalizer.specs.Laws.{DrawsOn, IsFirstDrawn}
use Rattle.device_rules.specs.Acting.{acted_lists, list_for, room_for}
use Rattle.device_rules.specs.declared.acting.Acted.{Acted}
use Rattle.device_rules.specs.declared.finalize.Finished.{Finished}
use Rattle.device_rules.specs.declared.refused.Refused.{Refused}
use Rattle.device_rules.specs.declared.refused.Refused.TheVariants.{Limit}
use Rattle.device_rules.specs.declared.refused.Which.TheVariants.{Counters as TooMany}
use Rattle.device_rules.specs.Finalize.{few_instances, final_of, finish, has_draws, meta_of}
use Rattle.device_rules.specs.Limits.{most_entries}
use Rattle.device_rules.specs.Refused.{or_action_refused, or_not_final}
use Rattle.device_rules.specs.Tests.{refused_if}
use Rattle.device_state.specs.declared.entry.OpenEntry.{OpenEntry}
use Rattle.device_state.specs.declared.state.State.{State}
use Rattle.device_laws.specs.DrawnIds.{IsDrawnFrom}
use Rattle.device_laws.proofs.Starts.{same_okay}

-- the id was drawn between the draws, which go on within their range
pub record DrawsFor (before after : NextDraw) (id : List ℕ) : Type 0 where
  pub drawn : IsDrawnFrom before.next after.next id
  pub further : before.next ≤ after.next
  pub range : IsInRange after

-- ---- room for three draws

not_refused : (b : Bool) (why : Refused) (t : Unit {0}) → refused_if b why ≡ Ok t → b ≡ false
not_refused true why t is = absurd (cc is)
not_refused false why t is = refl

within : (next : ℕ) → nat_lt most_entries (next + 3) ≡ false → next + 3 ≤ 2 ^ 62
within next is = grind (arith, nat_tests, is)

room : (draws : NextDraw) (t : Unit {0}) → has_draws draws ≡ Ok t → draws.next + 3 ≤ 2 ^ 62
room draws t is = within draws.next
    (not_refused (nat_lt most_entries (draws.next + 3)) (Limit TooMany most_entries) t is)

-- ---- the instance

-- what the ids of a finalized instance are
record DrawsOne (before : NextDraw) (final : Final) : Type 0 where
  on : DrawsOn before final.draws
  first : IsFirstDrawn before final.instance_id

by_form : (sheet : List (List ℕ)) (lists : List EntityList) (meta : MetaIn) (form : FormDef) (b : Bool) (final : Final)
    → (if b then final_by form sheet lists meta else Err (Required [])) ≡ Ok final → DrawsOne meta.draws final
by_form sheet lists meta form true final is = record {
  on = draws_on form sheet lists meta final is;
  first = instance_first form sheet lists meta final is;
}
by_form sheet lists meta form false final is = absurd (cc is)

by_definition : (sheet : List (List ℕ)) (lists : List EntityList) (meta : MetaIn) (o : Option FormDef) (final : Final)
    → option_map_or (finalized_in sheet lists meta) o (Err (Required [])) ≡ Ok final → DrawsOne meta.draws final
by_definition sheet lists meta None final is = absurd (cc is)
by_definition sheet lists meta (Some form) final is =
    by_form sheet lists meta form (fits_form form sheet) final is

by_bytes : (bytes : List ℕ) (sheet : List (List ℕ)) (lists : List EntityList) (meta : MetaIn) (final : Final)
    → finalized_of bytes sheet lists meta ≡ Ok final → DrawsOne meta.draws final
unfolding finalized_of
by_bytes bytes sheet lists meta final is = by_definition sheet lists meta (definition_of bytes) final is

finals_okay : (r : Result Final Unfinished) (final : Final) → or_not_final r ≡ Ok final → r ≡ Ok final
finals_okay (Ok f) final is = cc is
finals_okay (Err why) final is = absurd (cc is)

-- ---- its action

-- one draw at most
record DrawsNoMore (before after : NextDraw) : Type 0 where
  device : after.device ≡ before.device
  least : before.next ≤ after.next
  most : after.next ≤ before.next + 1

one_draw : (create : Bool) (draws : NextDraw) → DrawsNoMore draws (if create then drawn draws 1 else draws)
one_draw true draws = record { device = refl; least = omega arith; most = omega arith }
one_draw false draws = record { device = refl; least = omega arith; most = omega arith }

actions_okay : (r : Result (EntityList × NextDraw) ActionRefused) (x : EntityList × NextDraw)
    → or_action_refused r ≡ Ok x → r ≡ Ok x
actions_okay (Ok y) x is = cc is
actions_okay (Err why) x is = absurd (cc is)

abbrev paired : EntityList × NextDraw → Result (EntityList × NextDraw) ActionRefused
paired x = Ok x

pairs_okay : (x y : EntityList × NextDraw) → paired x ≡ paired y → x ≡ y
pairs_okay x y is = cc is

action_draws : (list : EntityList) (action : Action) (draws : NextDraw) (x : EntityList × NextDraw)
    → acted_on list action draws ≡ Ok x → DrawsNoMore draws x.1
action_draws list action draws x is =
    let rows = then_ok (acted_rows list.rows action draws) _ x is in
    subst (λ (p : EntityList × NextDraw). DrawsNoMore draws p.1) (pairs_okay _ x rows.2)
    (one_draw action.create draws)

lists_draw : (lists : List EntityList) (draws : NextDraw) (action : Option Action) (made : Acted)
    → acted_lists lists draws action ≡ Ok made → DrawsNoMore draws made.draws
lists_draw lists draws None made is =
    subst (λ (a : Acted). DrawsNoMore draws a.draws) (same_okay _ made is) (one_draw false draws)
lists_draw lists draws (Some action) made is =
    let few = then_ok (room_for lists action.list) _ made is in
    let after = then_ok (or_action_refused (acted_on (list_for lists action.list) action draws)) _ made few.2 in
    subst (λ (a : Acted). DrawsNoMore draws a.draws) (same_okay _ made after.2)
    (action_draws (list_for lists action.list) action draws after.0
    (actions_okay (acted_on (list_for lists action.list) action draws) after.0 after.1))

-- ---- both

all_draws : (before : NextDraw) (final : Final) (made : Acted) → IsInRange before → before.next + 3 ≤ 2 ^ 62
    → DrawsOne before final → DrawsNoMore final.draws made.draws → DrawsFor before made.draws final.instance_id
all_draws before final made range enough one more = record {
  drawn = record {
    device = before.device;
    counter = one.first.drawn_first.counter;
    device_fits = range.device;
    counter_fits = omega (arith, one.first.drawn_first.most, enough);
    from = one.first.drawn_first.least;
    below = omega (arith, one.first.drawn_first.most, one.on.least, more.least);
    text = one.first.named ∙ ap (λ t. codes "uuid:" ++ t) one.first.drawn_first.id;
  };
  further = omega (arith, one.on.least, more.least);
  range = record {
    device = subst (λ n. n < 2 ^ 48) (sym (more.device ∙ one.on.device)) range.device;
    from_one = omega (arith, range.from_one, one.on.least, more.least);
    next = omega (arith, enough, one.on.most, more.most);
  };
}

pub finish_draws : (state : State) (lists : List EntityList) (draws : NextDraw) (entry : OpenEntry) (done : Finished)
    → IsInRange draws → finish state lists draws entry ≡ Ok done
    → DrawsFor draws done.acted.draws done.last.instance_id
finish_draws state lists draws entry done range is =
    let enough = then_ok (has_draws draws) _ done is in
    let final = then_ok (final_of state lists draws entry) _ done enough.2 in
    let few = then_ok (few_instances state entry.base) _ done final.2 in
    let acted = then_ok (acted_lists lists final.0.draws final.0.action) _ done few.2 in
    subst (λ (d : Finished). DrawsFor draws d.acted.draws d.last.instance_id) (same_okay _ done acted.2)
    (all_draws draws final.0 acted.0 range (room draws enough.0 enough.1)
    (by_bytes entry.form entry.sheet lists (meta_of state draws entry.base) final.0
    (finals_okay (finalized_of entry.form entry.sheet lists (meta_of state draws entry.base)) final.0 final.1))
    (lists_draw lists final.0.draws final.0.action acted.0 acted.1))
