use Rattle.rosa_doc.proofs.AllReadings.{all_read}
use Rattle.rosa_doc.proofs.laws.all_bytes_are_read.Goals as goal

pub returns : goal.returns
returns c = all_read
