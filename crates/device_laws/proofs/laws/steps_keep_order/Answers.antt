use Rattle.device_laws.proofs.FinalHistories.{step_orderly}
use Rattle.device_laws.proofs.laws.steps_keep_order.Goals as goal

pub returns : goal.returns
returns c = step_orderly
