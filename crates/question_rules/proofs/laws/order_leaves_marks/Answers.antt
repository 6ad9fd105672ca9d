use Rattle.question_rules.proofs.OrderLemmas.{same_marks}
use Rattle.question_rules.proofs.laws.order_leaves_marks.Goals as goal

pub returns : goal.returns
returns c = same_marks
