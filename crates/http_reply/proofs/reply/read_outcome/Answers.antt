-- The reply of a head, or of none.
use Rattle.std.proofs.Common.{refl}
use Rattle.http_reply.specs.Replies.{no_head, short_head, bad_head, has_own_end}
use Rattle.http_reply.specs.Reads.{short, bad}
use Rattle.http_reply.proofs.Outcomes.{reply_of_head}
use Rattle.http_reply.proofs.reply.read_outcome.Goals as goal

pub returns-in-Whole : goal.returns-in-Whole
returns-in-Whole c =
    let body = c.read_body.ensures in (
      record { status = c.in-Whole.head.status; body = body.0; has_end = has_own_end c.in-Whole.head.framing },
      reply_of_head c.args.bytes.now c.behind.result.now c.in-Whole.head body.0 c.in-Whole.ensures c.behind.ensures body.1,
      cc (body.2, c.has_own_end.ensures),
    )

pub returns-in-Short : goal.returns-in-Short
returns-in-Short c = (no_head short, short_head c.in-Short.ensures, refl)

pub returns-in-Bad : goal.returns-in-Bad
returns-in-Bad c = (no_head bad, bad_head c.in-Bad.ensures, refl)
