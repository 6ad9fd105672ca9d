use Rattle.rosa_box.proofs.Answered.{one_answer}
use Rattle.rosa_box.proofs.Later.{kept_stay, ids_stay_apart, taken_are_kept}
use Rattle.rosa_box.proofs.laws.submissions_stay.Goals as goal

pub returns-clause-kept : goal.returns-clause-kept
returns-clause-kept c = kept_stay

pub returns-clause-ids : goal.returns-clause-ids
returns-clause-ids c = ids_stay_apart

pub returns-clause-answers : goal.returns-clause-answers
returns-clause-answers c = one_answer

pub returns-clause-taken : goal.returns-clause-taken
returns-clause-taken c = taken_are_kept
