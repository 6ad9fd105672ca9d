use Rattle.device_laws.proofs.FinalHistories.{history_keeps_finals}
use Rattle.device_laws.proofs.laws.histories_keep_finals.Goals as goal

pub returns : goal.returns
returns c = history_keeps_finals
