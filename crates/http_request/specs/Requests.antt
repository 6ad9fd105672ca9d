-- Requests (RFC 9112): any bytes are one request, or none.
use Rattle.std.specs.Prelude.{◌≡◌, ℕ, ◌≤◌, Bool, false, ◌&&◌, ◌==◌, List, [], map, length, Option, Some, None}
use Rattle.std.specs.Prelude.{unwrap_or, if◌then◌else◌}
use Rattle.std.specs.Str.{IsUtf8, is_utf8}
use Rattle.httparse.specs.Grammar.{RequestHead, ReadsRequest}
use Rattle.httparse.specs.Spans.{name_and_value}
use Rattle.http_reply.specs.declared.framing.Framing.{Framing}
use Rattle.http_reply.specs.declared.framing.Framing.TheVariants.{ToEnd, Length}
use Rattle.http_reply.specs.Fields.{Fields, first_value, content_length, content_type as content_type_name}
use Rattle.http_reply.specs.Framings.{stated_framing}
use Rattle.http_reply.specs.Heads.{most_fields}
use Rattle.http_request.specs.declared.request.Request.{Request}

-- the length that a framing by Content-Length alone states: none where it is wrong, and 0 without such a field
abbrev pub framed_length : Framing → Option ℕ
framed_length ToEnd = Some 0
framed_length (Length size) = Some size
framed_length _ = None

-- The length of the body, as the Content-Length fields say.
abbrev pub body_length : Fields → Option ℕ
body_length fields = framed_length (stated_framing fields (first_value content_length fields))

-- the value of the first Content-Type, empty without one
abbrev pub content_type : Fields → List ℕ
content_type fields = unwrap_or (first_value content_type_name fields) []

-- The bytes are a head and a body, and nothing else; these are the parts of the request.
pub record IsRequest (bytes : List ℕ) (request : Request) : Type 0 where
  pub head : RequestHead
  pub reads : ReadsRequest bytes head request.body
  pub few : length head.fields ≤ most_fields
  pub method : request.method ≡ head.method
  pub target : request.target ≡ head.target
  pub typed : request.content_type ≡ content_type (map name_and_value head.fields)
  pub texts : IsUtf8 request.method × IsUtf8 request.target × IsUtf8 request.content_type
  pub sized : body_length (map name_and_value head.fields) ≡ Some (length request.body)

-- the request that the bytes are, or none where they are none
abbrev pub ReadsAs : List ℕ → Option Request → Type 0
ReadsAs bytes (Some request) = IsRequest bytes request
ReadsAs bytes None = (request : Request) → ¬ (IsRequest bytes request)

-- ---- for the code's parts

abbrev pub text_of : List ℕ → Option (List ℕ)
text_of bytes = if is_utf8 bytes then Some bytes else None

-- a length is stated, and is this one
abbrev pub has_length : ℕ → Option ℕ → Bool
has_length size None = false
has_length size (Some stated) = size == stated

abbrev pub with_texts : List ℕ → List ℕ → List ℕ → List ℕ → Option Request
with_texts method target content body =
    if is_utf8 method && is_utf8 target && is_utf8 content
    then Some (record { method = method; target = target; content_type = content; body = body }) else None

abbrev pub with_body : List ℕ → List ℕ → Fields → List ℕ → Option Request
with_body method target fields body =
    if has_length (length body) (body_length fields) then with_texts method target (content_type fields) body else None
