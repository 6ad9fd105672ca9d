-- The head that the parser found, and the bytes behind it.
use Rattle.std.proofs.Common.{◌≡◌, arith}
use Rattle.std.proofs.lemmas.Result.{IfOk-weaker}
use Rattle.http_request.specs.Requests.{ReadsAs, with_body}
use Rattle.http_request.proofs.Reading.{found_read}
use Rattle.http_request.proofs.request.read_request.Goals as goal

pub returns-in-Ok-Complete : goal.returns-in-Ok-Complete
returns-in-Ok-Complete c =
    let p = c.in-Ok-Complete in
    let bytes = c.args.bytes.now in
    let at = rw p.field-0-is at p.ensures.complete in
    let method = c.of-method.result.now in
    let target = c.of-target.result.now in
    let rest = c.behind.result.now in
    let fields = c.new-fields.result in
    IfOk-weaker c.with_body.result (λ read. read ≡ with_body method target fields rest) (ReadsAs bytes)
    (λ read is. found_read bytes c.parse_request.new.headers p.found at.0 at.1 (omega arith) method target rest fields
    read c.of-method.ensures c.of-target.ensures c.new-fields.ensures c.behind.ensures is)
    c.with_body.ensures
