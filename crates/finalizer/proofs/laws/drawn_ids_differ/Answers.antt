use Rattle.finalizer.proofs.DrawLemmas.{later_differs}
use Rattle.finalizer.proofs.laws.drawn_ids_differ.Goals as goal

pub returns : goal.returns
returns c = later_differs
