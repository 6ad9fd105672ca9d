use Rattle.device_laws.proofs.FinalHistories.{history_orderly}
use Rattle.device_laws.proofs.laws.histories_are_orderly.Goals as goal

pub returns : goal.returns
returns c = history_orderly
