use Rattle.rosa_box.proofs.Asking.{asks, asks_nothing}
use Rattle.rosa_box.proofs.asked.read_asked.Goals as goal

pub returns-in-Some : goal.returns-in-Some
returns-in-Some c =
    asks c.args.bytes.now c.in_ok-request.field-0 c.in-Some.request c.asked_by.result c.in-Some.is
    c.in_ok-request.ensures c.asked_by.ensures

pub returns-in-None : goal.returns-in-None
returns-in-None c = asks_nothing c.args.bytes.now c.in_ok-request.field-0 c.in-None.is c.in_ok-request.ensures
