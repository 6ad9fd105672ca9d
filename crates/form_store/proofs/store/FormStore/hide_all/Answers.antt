use Rattle.std.proofs.Common.{◌≡◌, ◌+◌, length, refl, ap, sym, ◌∙◌, arith}
use Rattle.field_rows.proofs.FromPlace.{length-edited, mapped_edited, mapped_end, mapped_from}
use Rattle.form_store.specs.Forms.{hidden_of}
use Rattle.form_store.proofs.store.FormStore.hide_all.Goals as goal

pub loop-place-init : goal.loop-place-init
loop-place-init c = record { same = refl; spare = refl }

pub loop-place-smaller : goal.loop-place-smaller
loop-place-smaller c =
    let long : length c.hide_shown.new.self.items ≡ length c.loop-place.self.items =
    ap length c.hide_shown.ensures.records ∙ length-edited (hidden_of c.args.id.now) c.loop-place.place c.loop-place.self.items in
    omega (arith, long, c.loop-place-test.true, c.count.ensures)

pub loop-place-preserved : goal.loop-place-preserved
loop-place-preserved c = record {
  same = ap (mapped_from (hidden_of c.args.id.now) (c.loop-place.place + 1)) c.hide_shown.ensures.records
      ∙ mapped_edited (hidden_of c.args.id.now) c.loop-place.place c.loop-place.self.items
      (omega (arith, c.loop-place-test.true, c.count.ensures))
      ∙ c.loop-place.invariant.same;
  spare = c.hide_shown.ensures.spare ∙ c.loop-place.invariant.spare;
}

pub returns-clause-records : goal.returns-clause-records
returns-clause-records c =
    sym (mapped_end (hidden_of c.args.id.now) c.loop-place.place c.loop-place.self.items
    (omega (arith, c.loop-place-test.false, c.count.ensures)))
    ∙ c.loop-place.invariant.same

pub returns-clause-spare : goal.returns-clause-spare
returns-clause-spare c = c.loop-place.invariant.spare
