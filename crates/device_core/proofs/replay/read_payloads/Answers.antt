use Rattle.std.proofs.Common.{length, ◌∷◌, ◌+◌, drop, sym, ◌∙◌, ap, subst}
use Rattle.std.proofs.lemmas.List.{drop_more}
use Rattle.std.proofs.lemmas.Result.{err_from_is_err_and}
use Rattle.device_core.proofs.Payloads.{unread_from}
use Rattle.device_core.specs.Replay.{IsUnread}
use Rattle.device_core.proofs.replay.read_payloads.Goals as goal

pub returns-in_err-read_payload-clause-fault : goal.returns-in_err-read_payload-clause-fault
returns-in_err-read_payload-clause-fault c =
    let p = err_from_is_err_and c.from_residual.result c.from_residual.ensures.1 in
    let i = c.loop-payload.payload-index in
    let payloads = c.args.payloads.now in
    let next = drop_more payloads i c.payload-item.result c.loop-payload-test.true ∙ ap (λ p. p ∷ drop (i + 1) payloads) (sym c.payload-item.is) in
    rw (p.1, p.2) (unread_from payloads i c.payload-item.result c.loop-payload.entries.items (length c.as_slice.result.now + 1) c.in_err-read_payload.field-0.0 c.loop-payload.invariant next
    (ap (λ l. length l + 1) c.as_slice.ensures.value)
    (subst (λ q. IsUnread q (length c.as_slice.result.now + 1) c.in_err-read_payload.field-0.0) c.bytes.ensures c.in_err-read_payload.ensures.fault))
