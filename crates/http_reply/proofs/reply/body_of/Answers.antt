-- The reply of a head, or of none.
use Rattle.std.proofs.Common.{refl}
use Rattle.http_reply.specs.Replies.{no_head, short_head, bad_head, has_own_end}
use Rattle.http_reply.specs.Reads.{short, bad}
use Rattle.http_reply.proofs.Outcomes.{reply_of_head}
use Rattle.http_reply.proofs.reply.body_of.Goals as goal

pub returns-in_ok-body-in-Whole : goal.returns-in_ok-body-in-Whole
returns-in_ok-body-in-Whole c =
    let body = c.in_ok-body-in-Whole.ensures in (
      record { status = c.in-Whole.head.status; body = body.0; has_end = has_own_end c.in-Whole.head.framing },
      reply_of_head c.args.bytes.now c.behind.result.now c.in-Whole.head body.0 c.in-Whole.ensures c.behind.ensures body.1,
      body.2,
    )

pub returns-in-Short : goal.returns-in-Short
returns-in-Short c = (no_head short, short_head c.in-Short.ensures, refl)

pub returns-in-Bad : goal.returns-in-Bad
returns-in-Bad c = (no_head bad, bad_head c.in-Bad.ensures, refl)
