-- How long the body of a message is (RFC 9112, section 6.3), as its fields say.
use Rattle.std.specs.Prelude.{ℕ, ◌^◌, Bool, ◌&&◌, ◌||◌, ◌==◌, nat_lt, List, codes, bytes_eq, Option, Some, None}
use Rattle.std.specs.Prelude.{if◌then◌else◌}
use Rattle.std.specs.Fmt.{decimal}
use Rattle.std.specs.Str.Parse.{digits_value}
use Rattle.http_reply.specs.declared.framing.Framing.{Framing}
use Rattle.http_reply.specs.declared.framing.Framing.TheVariants.{Wrong, Nothing, Chunked, Length, ToEnd}
use Rattle.http_reply.specs.Fields.{Fields, field_count, first_value, each_value, transfer_encoding, content_length}
use Rattle.http_reply.specs.Fields.{content_encoding}

-- The number below 10^18 whose decimal digits, without leading zeros, these bytes are.
unfoldable pub length_value : List ℕ → Option ℕ
length_value bytes = if bytes_eq (decimal (digits_value 10 bytes)) bytes && nat_lt (digits_value 10 bytes) (10 ^ 18)
    then Some (digits_value 10 bytes) else None

-- a stated length, where it is one
abbrev pub length_framing : Option ℕ → Framing
length_framing None = Wrong
length_framing (Some n) = Length n

-- The body as its Content-Length fields say, which must agree. Without such a field it goes to the end.
abbrev pub stated_framing : Fields → Option (List ℕ) → Framing
stated_framing fields None = ToEnd
stated_framing fields (Some value) =
    if each_value content_length value fields then length_framing (length_value value) else Wrong

-- There is one Transfer-Encoding, `chunked`, and no Content-Length.
abbrev pub is_chunked : Fields → Bool
is_chunked fields =
    (field_count transfer_encoding fields == 1) && each_value transfer_encoding (codes "chunked") fields
    && (field_count content_length fields == 0)

-- the body of a message with these fields
abbrev pub body_framing : Fields → Framing
body_framing fields = if field_count transfer_encoding fields == 0
    then stated_framing fields (first_value content_length fields) else (if is_chunked fields then Chunked else Wrong)

-- A reply with status 204 or 304 has no body, if its fields are right.
abbrev pub without_body : ℕ → Framing → Framing
without_body status Wrong = Wrong
without_body status other = if (status == 204) || (status == 304) then Nothing else other

-- the body of a reply with this status and these fields, all of whose codings must be `identity`
abbrev pub reply_framing : ℕ → Fields → Framing
reply_framing status fields =
    if each_value content_encoding (codes "identity") fields then without_body status (body_framing fields) else Wrong
