use Rattle.device_laws.proofs.Histories.{history_sound}
use Rattle.device_laws.proofs.laws.histories_are_sound.Goals as goal

pub returns : goal.returns
returns c = history_sound
