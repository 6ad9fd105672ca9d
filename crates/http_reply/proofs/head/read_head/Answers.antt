-- The refusals of the parser, as the definition has them.
use Rattle.std.proofs.Common.{drop, ap, ◌∙◌, arith}
use Rattle.http_reply.specs.Heads as heads
use Rattle.http_reply.specs.Framings.{reply_framing}
use Rattle.http_reply.proofs.HeadLoops.{head_found}
use Rattle.http_reply.proofs.TrailerCases.{refused_head}
use Rattle.http_reply.proofs.head.read_head.Goals as goal

pub returns-then-whole_lines : goal.returns-then-whole_lines
returns-then-whole_lines c =
    let p = c.in-Ok-Partial in
    heads.is_short (rw p.field-0-is at p.ensures.partial) (rw p.field-0-is at p.ensures.unfinished) (omega arith)

pub returns-else-whole_lines : goal.returns-else-whole_lines
returns-else-whole_lines c =
    let p = c.in-Ok-Partial in
    let none = rw p.field-0-is at p.ensures.partial in
    heads.too_many (λ head rest has. none head rest has.reads) (omega arith)

pub returns-in-Err : goal.returns-in-Err
returns-in-Err c = refused_head _ c.in-Err.field-0 c.in-Err.ensures.invalid c.in-Err.ensures.no_room c.in-Err.ensures.too_many

pub returns-in-Ok-Complete : goal.returns-in-Ok-Complete
returns-in-Ok-Complete c =
    let p = c.in-Ok-Complete in
    let bytes = c.args.bytes.now in
    let at = rw p.field-0-is at p.ensures.complete in
    let within = rw p.field-0-is at p.ensures.within in
    let found = head_found bytes c.parse_response.new.headers p.found at.0 c.reply_framing.result within at.1
    (c.reply_framing.ensures ∙ ap (reply_framing p.found.code) c.new-fields.ensures) (omega arith) in
    (at.0, drop p.found.len bytes, found.0, found.1)
