-- Replies as bytes (RFC 9112, sections 4 and 5): a status line, the fields of every reply, an empty line and the body.
use Rattle.std.specs.Prelude.{ℕ, List, [], ◌++◌, codes, length}
use Rattle.std.specs.Fmt.{decimal}
use Rattle.http_wire.specs.Requests.{field_line, closing}
use Rattle.rosa_box.specs.declared.reply.Status.{Status}
use Rattle.rosa_box.specs.declared.reply.Status.TheVariants as status

abbrev pub status_line : Status → List ℕ
status_line status.Created = codes "HTTP/1.1 201 Created\r\n"
status_line status.BadRequest = codes "HTTP/1.1 400 Bad Request\r\n"
status_line status.NotFound = codes "HTTP/1.1 404 Not Found\r\n"
status_line status.MethodNotAllowed = codes "HTTP/1.1 405 Method Not Allowed\r\n"
status_line status.Conflict = codes "HTTP/1.1 409 Conflict\r\n"

-- what is said where a submission was taken; a refusal says nothing
abbrev pub body : Status → List ℕ
body status.Created = codes "<OpenRosaResponse xmlns=\"http://openrosa.org/http/response\"><message>accepted</message></OpenRosaResponse>"
body _ = []

unfoldable pub reply_fields : ℕ → List ℕ
reply_fields size = field_line (codes "X-OpenRosa-Version") (codes "1.0")
    ++ field_line (codes "Content-Type") (codes "text/xml")
    ++ field_line (codes "Content-Length") (decimal size) ++ closing

abbrev pub reply_text : Status → List ℕ
reply_text status = status_line status ++ reply_fields (length (body status)) ++ body status
