use Rattle.std.proofs.Common.{◌++◌, take, ◌∙◌}
use Rattle.line_io.proofs.Gains.{gained_then, gone_further, range_to_end}
use Rattle.line_io.proofs.output.put_all.Goals as goal

pub loop-rest-preserved : goal.loop-rest-preserved
loop-rest-preserved g c =
    let before = c.loop-rest.invariant in
    let moves = c.in_ok-count.ensures.moves in (
      before.0 ++ take c.in_ok-count.count c.loop-rest.rest.now,
      gone_further _ _ _ _ c.in_ok-count.count before.1 (range_to_end c.in_ok-count.count c.loop-rest.rest.now),
      gained_then _ _ _ before.0 _ before.2 moves.moved,
      c.in_ok-count.ensures.cause.kept ∙ before.3,
    )
