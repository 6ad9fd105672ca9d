use Rattle.device_laws.proofs.IdHistories.{history_keeps_ids_apart}
use Rattle.device_laws.proofs.laws.histories_keep_ids_apart.Goals as goal

pub returns : goal.returns
returns c = history_keeps_ids_apart
