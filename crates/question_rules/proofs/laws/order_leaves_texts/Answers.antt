use Rattle.question_rules.proofs.OrderLemmas.{same_texts}
use Rattle.question_rules.proofs.laws.order_leaves_texts.Goals as goal

pub returns : goal.returns
returns c = same_texts
