use Rattle.question_rules.proofs.OrderLemmas.{same_first_fault}
use Rattle.question_rules.proofs.laws.order_leaves_the_first_fault.Goals as goal

pub returns : goal.returns
returns c = same_first_fault
