use Rattle.rosa_doc.proofs.OneReading.{one_reading}
use Rattle.rosa_doc.proofs.laws.one_reading.Goals as goal

pub returns : goal.returns
returns c = one_reading
