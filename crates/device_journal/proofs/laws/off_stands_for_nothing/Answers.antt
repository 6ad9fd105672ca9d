use Rattle.device_journal.proofs.Unique.{not_both}
use Rattle.device_journal.proofs.laws.off_stands_for_nothing.Goals as goal

pub returns : goal.returns
returns c = not_both
