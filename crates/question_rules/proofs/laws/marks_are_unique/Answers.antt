use Rattle.question_rules.proofs.Unique.{one_shown}
use Rattle.question_rules.proofs.laws.marks_are_unique.Goals as goal

pub returns : goal.returns
returns c = one_shown
