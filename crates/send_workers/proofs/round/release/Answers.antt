use Rattle.std.proofs.Common.{refl}
use Rattle.send_workers.proofs.Rounding.{ran, stops_at_release}
use Rattle.send_workers.proofs.round.release.Goals as goal

pub returns-in-Ok-clause-ran : goal.returns-in-Ok-clause-ran
returns-in-Ok-clause-ran g c = λ old carried all. (ran old _ _ carried _ all c.in-Ok.told c.in-Ok.ensures.calls, refl)

pub returns-in-Err-clause-ran : goal.returns-in-Err-clause-ran
returns-in-Err-clause-ran g c = λ old carried all. stops_at_release old _ _ carried _ all c.in-Err.fault c.in-Err.ensures.calls
