use Rattle.wire_laws.proofs.OneReply.{one_reply}
use Rattle.wire_laws.proofs.Statuses.{accepted}
use Rattle.wire_laws.proofs.laws.replies_are_one.Goals as goal

pub returns-clause-one : goal.returns-clause-one
returns-clause-one c = one_reply

pub returns-clause-accepts : goal.returns-clause-accepts
returns-clause-accepts c = accepted
