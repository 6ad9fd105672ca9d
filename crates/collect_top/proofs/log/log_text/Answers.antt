use Rattle.std.proofs.Common.{◌+◌, ◌∙◌, Some, ap, sym}
use Rattle.std.proofs.lemmas.Option.{slice_get-get_or}
use Rattle.collect_top.proofs.Logs.{logged_more}
use Rattle.collect_top.proofs.log.log_text.Goals as goal

pub loop-marked-preserved : goal.loop-marked-preserved
loop-marked-preserved c =
    let so_far = c.loop-marked.invariant in (
      logged_more c.args.entries.now c.loop-marked.marked-index c.marked-item.result _ _ c.loop-marked.position
          (slice_get-get_or c.args.entries.now c.loop-marked.marked-index c.marked-item.result c.loop-marked-test.true ∙ ap (λ m. Some m) (sym c.marked-item.is)) so_far.0 c.in_ok-print_entry.ensures.ok so_far.1,
      ap (λ n. n + 1) so_far.1,
    )
