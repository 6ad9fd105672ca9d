-- A line that isn't whole.
use Rattle.http_reply.specs.Chunks.{no_line, bad_line}
use Rattle.http_reply.proofs.chunks.next_chunk.Goals as goal

pub returns-in-Ok-Partial : goal.returns-in-Ok-Partial
returns-in-Ok-Partial c =
    let p = c.in-Ok-Partial in
    no_line (rw p.field-0-is at p.ensures.partial) (rw p.field-0-is at p.ensures.unfinished)

pub returns-in-Err : goal.returns-in-Err
returns-in-Err c = bad_line c.in-Err.ensures.invalid
