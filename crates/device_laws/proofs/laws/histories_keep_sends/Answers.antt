use Rattle.device_laws.proofs.SendHistories.{history_keeps_sends}
use Rattle.device_laws.proofs.laws.histories_keep_sends.Goals as goal

pub returns : goal.returns
returns c = history_keeps_sends
