use Rattle.rosa_box.proofs.Asking.{named, unread}
use Rattle.rosa_box.proofs.asked.id_in.Goals as goal

pub returns-in-Ok : goal.returns-in-Ok
returns-in-Ok c = named c.args.document.now c.in-Ok.read c.some_id.result c.in-Ok.ensures.read c.some_id.ensures

pub returns-in-Err : goal.returns-in-Err
returns-in-Err c = unread c.args.document.now c.in-Err.refusal c.unread.result c.in-Err.ensures.refused c.unread.ensures
