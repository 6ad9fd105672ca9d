use Rattle.question_rules.proofs.LeastLemmas.{least_fault}
use Rattle.question_rules.proofs.laws.first_fault_is_the_least.Goals as goal

pub returns : goal.returns
returns c = least_fault
