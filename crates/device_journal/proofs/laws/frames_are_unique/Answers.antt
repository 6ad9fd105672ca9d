use Rattle.device_journal.proofs.Unique.{unique}
use Rattle.device_journal.proofs.laws.frames_are_unique.Goals as goal

pub returns : goal.returns
returns c = unique
