use Rattle.device_laws.proofs.Histories.{history_keeps}
use Rattle.device_laws.proofs.laws.histories_keep_used_forms.Goals as goal

pub returns : goal.returns
returns c = history_keeps
