use Rattle.std.proofs.Common.{rules, sym, ◌∙◌, ap, arith}
use Rattle.field_rows.proofs.FromPlace.{filtered_end, filtered_from, filtered_kept, filtered_removed}
use Rattle.device_state.specs.Purging.{is_kept}
use Rattle.device_state.proofs.forms.purge.Goals as goal

pub loop-place-preserved-then-is_kept : goal.loop-place-preserved-then-is_kept
loop-place-preserved-then-is_kept c =
    filtered_kept (is_kept c.args.instances.now.items c.args.savepoints.now.items c.args.entry.now) c.loop-place.place
    c.loop-place.forms.items c.get-record.result.now c.get-record.ensures
    (search rules)
    ∙ c.loop-place.invariant

pub loop-place-preserved : goal.loop-place-preserved
loop-place-preserved c =
    let kept = is_kept c.args.instances.now.items c.args.savepoints.now.items c.args.entry.now in
    ap (filtered_from kept c.loop-place.place) c.remove.ensures.records
    ∙ filtered_removed kept c.loop-place.place c.loop-place.forms.items c.get-record.result.now c.get-record.ensures
    (search rules)
    ∙ c.loop-place.invariant

pub returns : goal.returns
returns c =
    sym (filtered_end (is_kept c.args.instances.now.items c.args.savepoints.now.items c.args.entry.now) c.loop-place.place
    c.loop-place.forms.items (omega (arith, c.loop-place-test.false, c.count.ensures)))
    ∙ c.loop-place.invariant
