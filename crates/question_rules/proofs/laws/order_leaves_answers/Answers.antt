use Rattle.question_rules.proofs.OrderLemmas.{same_answers}
use Rattle.question_rules.proofs.laws.order_leaves_answers.Goals as goal

pub returns : goal.returns
returns c = same_answers
