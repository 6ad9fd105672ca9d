-- A turn of the loop.
use Rattle.std.proofs.Common.{ℕ, ◌+◌, List, [], ◌++◌, Some, drop, sym, ap, subst, ◌∙◌, append-nil}
use Rattle.http_reply.specs.Reads.{whole}
use Rattle.http_reply.proofs.ChunkLoops.{Prepends, data_step, last_step}
use Rattle.http_reply.proofs.chunks.collect_chunks.Goals as goal

pub loop-chunk-preserved : goal.loop-chunk-preserved
loop-chunk-preserved c =
    let before = c.loop-chunk.invariant in
    let bytes = c.args.bytes.now in
    let step = data_step bytes c.loop-chunk.out.items c.behind-rest.result.now c.loop-chunk.at c.in-Data.start c.in-Data.end c.in-Data.len c.in-Whole.chunk before.read before.within
    c.behind-rest.ensures c.in-Data.is c.in-Whole.ensures in
    record {
      within = step.1;
      read = subst (λ (xs : List ℕ). Prepends bytes xs (drop (c.loop-chunk.at + c.in-Data.len) bytes)) (sym c.in_ok-extend_from_slice-in-Data.ensures.items) step.2;
    }

pub returns-in-Last : goal.returns-in-Last
returns-in-Last c =
    let before = c.loop-chunk.invariant in (
      whole (c.loop-chunk.out.items ++ [], drop c.in-Last.len c.behind-rest.result.now),
      last_step c.args.bytes.now c.loop-chunk.out.items c.behind-rest.result.now c.loop-chunk.at c.in-Last.len c.in-Whole.chunk before.read c.behind-rest.ensures c.in-Last.is
          c.in-Whole.ensures,
      ap Some (c.from_vec.ensures ∙ sym (append-nil c.loop-chunk.out.items)),
    )
