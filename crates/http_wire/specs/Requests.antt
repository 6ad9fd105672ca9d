-- Requests as bytes (RFC 9112, sections 3 and 5): a request line and lines of fields, each ended by CR LF, and an empty
-- line. The date is that of RFC 9110, section 5.6.7.
use Rattle.std.specs.Prelude.{◌≡◌, ℕ, List, [], ◌∷◌, ◌++◌, codes}
use Rattle.httpdate.specs.Date.{unix_secs, date_text}
use Rattle.httpdate.specs.declared.date.HttpDate.{HttpDate}
use Rattle.http_wire.specs.declared.address.Address.{Address}

abbrev pub crlf : List ℕ
crlf = 13 ∷ 10 ∷ []

unfoldable pub request_line : List ℕ → List ℕ → List ℕ
request_line method target = method ++ codes " " ++ target ++ codes " HTTP/1.1" ++ crlf

unfoldable pub field_line : List ℕ → List ℕ → List ℕ
field_line name value = name ++ codes ": " ++ value ++ crlf

-- what a client of OpenRosa says of itself, and that it takes no coding
unfoldable pub client_fields : List ℕ → List ℕ
client_fields date = field_line (codes "X-OpenRosa-Version") (codes "1.0") ++ field_line (codes "Date") date
    ++ field_line (codes "Accept-Encoding") (codes "identity")

-- how every request of the device begins
unfoldable pub opening : List ℕ → Address → List ℕ → List ℕ
opening method address date =
    request_line method address.target ++ field_line (codes "Host") address.authority ++ client_fields date

-- how it ends its head
abbrev pub closing : List ℕ
closing = field_line (codes "Connection") (codes "close") ++ crlf

-- the date that shows the moment
abbrev pub IsDateOf : ℕ → List ℕ → Type 0
IsDateOf moment date = (d : HttpDate) × (unix_secs d ≡ moment) × (date ≡ date_text d)

abbrev pub get_request : Address → List ℕ → List ℕ
get_request address date = opening (codes "GET") address date ++ closing

-- the bytes ask for what stands at the address, at this moment
abbrev pub IsGet : Address → ℕ → List ℕ → Type 0
IsGet address moment bytes = (date : List ℕ) × IsDateOf moment date × (bytes ≡ get_request address date)
