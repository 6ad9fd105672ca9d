use Rattle.std.proofs.Common.{◌≡◌, ◌+◌, ◌≤◌, length, not, refl, ap, sym, ◌∙◌, arith}
use Rattle.std.proofs.lemmas.List.Edits.{length-remove}
use Rattle.field_rows.proofs.FromPlace.{filtered_end, filtered_from, filtered_kept, filtered_removed}
use Rattle.savepoints.specs.Savepoints.{removed_on, stands_on}
use Rattle.savepoints.proofs.store.Savepoints.remove_on.Goals as goal

pub loop-place-init : goal.loop-place-init
loop-place-init c = record {
  same = ap (λ k. removed_on c.args.number k.items) c.self.view_is;
  spare = let e = ap (λ k. k.spare) c.self.view_is in omega (arith, e);
}

pub loop-place-smaller-then-stands_on : goal.loop-place-smaller-then-stands_on
loop-place-smaller-then-stands_on c =
    let within = c.loop-place-test.true in
    let shorter : length c.remove.new.self.items + 1 ≡ length c.loop-place.self-inside.rows.items =
    ap (λ l. length l + 1) c.remove.ensures.items
    ∙ length-remove c.loop-place.self-inside.rows.items c.loop-place.place (omega (arith, within, c.count.ensures)) in
    omega (arith, shorter, within, c.count.ensures)

pub loop-place-preserved-then-stands_on : goal.loop-place-preserved-then-stands_on
loop-place-preserved-then-stands_on c = record {
  same = ap (filtered_from (λ s. not (stands_on c.args.number s)) c.loop-place.place) c.remove.ensures.items
      ∙ filtered_removed (λ s. not (stands_on c.args.number s)) c.loop-place.place c.loop-place.self-inside.rows.items
      c.at.result.now c.at.ensures
      (ap not (sym c.stands_on.ensures ∙ c.if-stands_on.true))
      ∙ c.loop-place.invariant.same;
  spare = omega (arith, c.remove.ensures.spare, c.loop-place.invariant.spare);
}

pub loop-place-smaller : goal.loop-place-smaller
loop-place-smaller c = omega (arith, c.loop-place-test.true, c.count.ensures)

pub loop-place-preserved : goal.loop-place-preserved
loop-place-preserved c = record {
  same = filtered_kept (λ s. not (stands_on c.args.number s)) c.loop-place.place c.loop-place.self-inside.rows.items
      c.at.result.now c.at.ensures (ap not (sym c.stands_on.ensures ∙ c.if-stands_on.false))
      ∙ c.loop-place.invariant.same;
  spare = c.loop-place.invariant.spare;
}

pub returns-clause-savepoints : goal.returns-clause-savepoints
returns-clause-savepoints c =
    sym (filtered_end (λ s. not (stands_on c.args.number s)) c.loop-place.place c.loop-place.self-inside.rows.items
    (omega (arith, c.loop-place-test.false, c.count.ensures)))
    ∙ c.loop-place.invariant.same

pub returns-clause-spare : goal.returns-clause-spare
returns-clause-spare c = c.loop-place.invariant.spare
