use Rattle.send_workers.proofs.Steps.{locked}
use Rattle.send_workers.proofs.round.take_lock.Goals as goal

pub returns-in-Ok-clause-locked : goal.returns-in-Ok-clause-locked
returns-in-Ok-clause-locked g c = λ carried. locked _ _ carried _ c.in-Ok.ensures.calls
