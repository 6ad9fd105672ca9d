use Rattle.http_exchange.specs.Exchange.Carries.{dial_failed}
use Rattle.http_exchange.proofs.Becoming.{carry_send_failed, carry_take_failed, carry_taken}
use Rattle.http_exchange.proofs.got.carry.Goals as goal

pub returns-in-Err-clause-carries : goal.returns-in-Err-clause-carries
returns-in-Err-clause-carries g c =
    dial_failed c.in-Err.ensures.carried
    (record { faults = c.in-Err.ensures.cause.failed; ends = c.in-Err.ensures.ends })

pub returns-in-Err-send_all-clause-carries : goal.returns-in-Err-send_all-clause-carries
returns-in-Err-send_all-clause-carries g c =
    carry_send_failed _ _ _ _ _ c.in-Err-send_all.ensures.sends c.in-Ok.ensures.carried
    (record { faults = c.in-Ok.ensures.cause.kept; ends = c.in-Ok.ensures.ends })

pub returns-in-Ok-take_reply-clause-carries : goal.returns-in-Ok-take_reply-clause-carries
returns-in-Ok-take_reply-clause-carries g c =
    carry_taken _ _ _ _ _ _ _ c.in-Ok-send_all.ensures.sends c.in-Ok-take_reply.ensures.takes c.in-Ok.ensures.carried
    (record { faults = c.in-Ok.ensures.cause.kept; ends = c.in-Ok.ensures.ends })

pub returns-in-Err-take_reply-clause-carries : goal.returns-in-Err-take_reply-clause-carries
returns-in-Err-take_reply-clause-carries g c =
    carry_take_failed _ _ _ _ _ _ c.in-Ok-send_all.ensures.sends c.in-Err-take_reply.ensures.takes c.in-Ok.ensures.carried
    (record { faults = c.in-Ok.ensures.cause.kept; ends = c.in-Ok.ensures.ends })
