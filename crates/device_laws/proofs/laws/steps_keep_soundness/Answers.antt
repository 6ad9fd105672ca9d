use Rattle.device_laws.proofs.Histories.{step_sound}
use Rattle.device_laws.proofs.laws.steps_keep_soundness.Goals as goal

pub returns : goal.returns
returns c = step_sound
