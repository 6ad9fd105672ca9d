use Rattle.device_core.proofs.Once.{reads_once}
use Rattle.device_core.proofs.laws.an_image_reads_as_one_thing.Goals as goal

pub returns : goal.returns
returns c = reads_once
