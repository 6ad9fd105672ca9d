use Rattle.std.proofs.Common.{sym}
use Rattle.http_wire.proofs.Spelled.{has_address, has_none}
use Rattle.http_wire.proofs.address.read_address.Goals as goal

pub returns-in-Ok : goal.returns-in-Ok
returns-in-Ok c = has_address _ _ c.bytes.result.now c.in-Ok.uri _ c.bytes.ensures.value c.in-Ok.ensures.ok c.address_beside.ensures

pub returns-in-Err-Invalid : goal.returns-in-Err-Invalid
returns-in-Err-Invalid c =
    has_none _ _ c.bytes.result.now c.bytes.ensures.value ((rw c.in-Err-Invalid.field-0-is at c.in-Err-Invalid.ensures.err) (λ e. cc))
