use Rattle.question_rules.proofs.Unique.{one_settled}
use Rattle.question_rules.proofs.laws.settled_texts_are_unique.Goals as goal

pub returns : goal.returns
returns c = one_settled
