use Rattle.finalizer.proofs.DrawLemmas.{apart}
use Rattle.finalizer.proofs.laws.ids_of_an_instance_differ.Goals as goal

pub returns : goal.returns
returns c = apart
