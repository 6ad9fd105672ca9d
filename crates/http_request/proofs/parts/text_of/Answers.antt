-- UTF-8 or not, as reading the text tells.
use Rattle.std.proofs.Common.{Err, ap}
use Rattle.http_request.proofs.Reading.{text_is, no_text}
use Rattle.http_request.proofs.parts.text_of.Goals as goal

pub returns-in-Ok : goal.returns-in-Ok
returns-in-Ok c = text_is c.args.bytes.now c.in-Ok.text c.in-Ok.ensures.utf8 c.in-Ok.ensures.text

pub returns-in-Err-NotUtf8 : goal.returns-in-Err-NotUtf8
returns-in-Err-NotUtf8 c =
    let refused = c.in-Err-NotUtf8 in
    no_text c.args.bytes.now refused.field-0-0
    (refused.ensures.not_utf8 refused.field-0-0 (ap Err refused.field-0-is))
