use Rattle.device_laws.proofs.Histories.{used_stay}
use Rattle.device_laws.proofs.laws.used_forms_stay.Goals as goal

pub returns : goal.returns
returns c = used_stay
