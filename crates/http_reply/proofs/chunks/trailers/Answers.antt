-- The refusals of the parser, as the definition has them.
use Rattle.std.proofs.Common.{arith}
use Rattle.http_reply.specs.Chunks as chunks
use Rattle.http_reply.proofs.TrailerCases.{refused_trailers}
use Rattle.http_reply.proofs.chunks.trailers.Goals as goal

pub returns-then-line_count-le-MOST_TRAILERS : goal.returns-then-line_count-le-MOST_TRAILERS
returns-then-line_count-le-MOST_TRAILERS c =
    let p = c.in-Ok-Partial in
    chunks.is_short (rw p.field-0-is at p.ensures.partial) (rw p.field-0-is at p.ensures.unfinished) (omega arith)

pub returns-else-line_count-le-MOST_TRAILERS : goal.returns-else-line_count-le-MOST_TRAILERS
returns-else-line_count-le-MOST_TRAILERS c =
    let p = c.in-Ok-Partial in
    let none = rw p.field-0-is at p.ensures.partial in
    chunks.too_many (λ rest has. none has.fields has.last rest has.reads) (omega arith)

pub returns-in-Err : goal.returns-in-Err
returns-in-Err c = refused_trailers _ c.in-Err.field-0 c.in-Err.ensures.invalid c.in-Err.ensures.no_room c.in-Err.ensures.too_many
