use Rattle.finalizer.proofs.FormOrders.{same_final}
use Rattle.finalizer.proofs.laws.order_leaves_finals.Goals as goal

pub returns : goal.returns
returns c = same_final
