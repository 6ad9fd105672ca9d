use Rattle.finalizer.proofs.DrawLemmas.{draws_on}
use Rattle.finalizer.proofs.laws.draws_go_on.Goals as goal

pub returns : goal.returns
returns c = draws_on
