-- What std reads of a decimal is its length.
use Rattle.std.proofs.Common.{◌≡◌, Some, arith}
use Rattle.http_reply.proofs.Lengths.{length_of_decimal, no_length}
use Rattle.http_reply.proofs.framing.read_length.Goals as goal

pub returns-in-Some : goal.returns-in-Some
returns-in-Some c = length_of_decimal c.args.bytes.now c.in-Some.length c.in-Some.ensures.found (omega arith)

pub returns-in_default : goal.returns-in_default
returns-in_default c = no_length c.args.bytes.now (λ n small is.
    let same : Some c.in-Some.length ≡ Some n = c.in-Some.ensures.none n (omega arith) is in
    let value : c.in-Some.length ≡ n = cc in
    absurd (omega arith))

pub returns-in_default-2 : goal.returns-in_default-2
returns-in_default-2 c = no_length c.args.bytes.now (λ n small is. let none = c.in_default.ensures.none n (omega arith) is in cc)
