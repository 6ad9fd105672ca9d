use Rattle.send_workers.proofs.Sending.{ended}
use Rattle.send_workers.proofs.Steps.{stops_at_end}
use Rattle.send_workers.proofs.one_send.end_send.Goals as goal

pub returns-in-Ok-clause-ended : goal.returns-in-Ok-clause-ended
returns-in-Ok-clause-ended g c = λ old sends refused carried s has same is.
    rw c.is_one.ensures (ended old _ _ carried sends refused s _ _ c.in-Ok.told has same is c.in-Ok.ensures.calls)

pub returns-in-Err-clause-ended : goal.returns-in-Err-clause-ended
returns-in-Err-clause-ended g c = λ old sends refused carried s has same is.
    stops_at_end old _ _ carried sends refused s _ _ c.in-Err.fault has same is c.in-Err.ensures.calls
