use Rattle.std.proofs.Common.{refl, ◌∙◌, ap, Err}
use Rattle.device_core.proofs.Payloads.{off_behind, off_unread}
use Rattle.device_core.proofs.replay.read_payload.Goals as goal

pub returns-then-used-payload-clause-fault : goal.returns-then-used-payload-clause-fault
returns-then-used-payload-clause-fault c = (refl, off_behind c.args.payload.now c.in-Ok.entry c.in-Ok.used c.read_entry.result c.in-Ok.is c.if-used-payload.true c.read_entry.ensures.again)

pub returns-in-Err-BadSpelling-clause-fault : goal.returns-in-Err-BadSpelling-clause-fault
returns-in-Err-BadSpelling-clause-fault c = (refl, off_unread c.args.payload.now c.read_entry.result c.in-Err-BadSpelling.field-0-0 (c.in-Err-BadSpelling.is ∙ ap (λ e. Err e) c.in-Err-BadSpelling.field-0-is) c.read_entry.ensures.refused)
