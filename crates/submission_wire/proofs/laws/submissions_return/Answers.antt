use Rattle.submission_wire.proofs.Returned.{one_request, one_submission, returned}
use Rattle.submission_wire.proofs.laws.submissions_return.Goals as goal

pub returns-clause-requests : goal.returns-clause-requests
returns-clause-requests c = one_request

pub returns-clause-submissions : goal.returns-clause-submissions
returns-clause-submissions c = one_submission

pub returns-clause-returned : goal.returns-clause-returned
returns-clause-returned c = returned
