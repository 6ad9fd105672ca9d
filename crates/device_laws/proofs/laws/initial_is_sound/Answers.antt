use Rattle.device_laws.proofs.Histories.{initial_sound}
use Rattle.device_laws.proofs.laws.initial_is_sound.Goals as goal

pub returns : goal.returns
returns c = initial_sound
