use Rattle.send_workers.proofs.Sending.{looked, stops_at_look}
use Rattle.send_workers.proofs.one_send.next_send.Goals as goal

pub returns-in-Ok-clause-looked : goal.returns-in-Ok-clause-looked
returns-in-Ok-clause-looked g c = λ old sends refused carried sent.
    rw c.named_in.ensures (looked old _ _ carried sends refused c.in-Ok.told sent c.in-Ok.ensures.looks)

pub returns-in-Err-clause-looked : goal.returns-in-Err-clause-looked
returns-in-Err-clause-looked g c = λ old sends refused carried sent.
    stops_at_look old _ _ carried sends refused c.in-Err.fault sent c.in-Err.ensures.looks
