use Rattle.device_laws.proofs.FinalHistories.{finals_stay}
use Rattle.device_laws.proofs.laws.finalized_instances_stay.Goals as goal

pub returns : goal.returns
returns c = finals_stay
