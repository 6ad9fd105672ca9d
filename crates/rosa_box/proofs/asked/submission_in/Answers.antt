use Rattle.rosa_box.proofs.Asking.{submits_none, submits_unnamed}
use Rattle.rosa_box.proofs.asked.submission_in.Goals as goal

pub returns-in_default : goal.returns-in_default
returns-in_default c = submits_none c.args.request.now c.in_ok-bytes.field-0 c.in_default.is c.in_ok-bytes.ensures

pub returns-in-None : goal.returns-in-None
returns-in-None c = submits_unnamed c.args.request.now c.in-Some.bytes c.bytes-2.result.now
    c.in_ok-bytes.field-0 c.in_ok-instance_id.field-0 c.bytes-2.ensures c.in-Some.is c.in-None.is c.in_ok-bytes.ensures c.in_ok-instance_id.ensures
