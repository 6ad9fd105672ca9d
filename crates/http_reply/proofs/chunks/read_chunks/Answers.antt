-- A turn of the loop.
use Rattle.std.proofs.Common.{[], ◌++◌, drop, refl}
use Rattle.std.specs.Prelude.{slice_range}
use Rattle.http_reply.specs.Reads.{whole}
use Rattle.http_reply.proofs.ChunkLoops.{data_step, last_step}
use Rattle.http_reply.proofs.chunks.read_chunks.Goals as goal

pub loop-chunk-preserved : goal.loop-chunk-preserved
loop-chunk-preserved c =
    let before = c.loop-chunk.invariant in
    let step = data_step c.args.bytes.now before.read.0 c.behind.result.now c.loop-chunk.at c.in-Data.start c.in-Data.end c.in-Data.len c.in-Whole.chunk before.read.1 before.within
    c.behind.ensures c.in-Data.is c.in-Whole.ensures in
    record { within = step.1; read = (before.read.0 ++ slice_range c.behind.result.now c.in-Data.start c.in-Data.end, step.2) }

pub returns-in-Last : goal.returns-in-Last
returns-in-Last c =
    let before = c.loop-chunk.invariant in (
      whole (before.read.0 ++ [], drop c.in-Last.len c.behind.result.now),
      last_step c.args.bytes.now before.read.0 c.behind.result.now c.loop-chunk.at c.in-Last.len c.in-Whole.chunk before.read.1 c.behind.ensures c.in-Last.is c.in-Whole.ensures,
      refl,
    )
