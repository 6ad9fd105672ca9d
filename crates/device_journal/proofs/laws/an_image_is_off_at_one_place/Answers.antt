use Rattle.device_journal.proofs.Unique.{off_once}
use Rattle.device_journal.proofs.laws.an_image_is_off_at_one_place.Goals as goal

pub returns : goal.returns
returns c = off_once
