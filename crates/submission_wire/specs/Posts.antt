-- The request that submits a document (RFC 7578): a form of one part, between delimiters of the boundary `odk-part`.
use Rattle.std.specs.Prelude.{◌≡◌, ℕ, List, ◌++◌, length, codes}
use Rattle.std.specs.Fmt.{decimal}
use Rattle.http_wire.specs.Requests.{crlf, field_line, opening, closing, IsDateOf}
use Rattle.http_wire.specs.declared.address.Address.{Address}

-- where documents are submitted on a server with this base
abbrev pub submission_address : Address → Address
submission_address base = record { authority = base.authority; target = base.target ++ codes "/submission" }

-- what stands before the document
unfoldable pub part_head : List ℕ
part_head = codes "--odk-part" ++ crlf
    ++ field_line (codes "Content-Disposition")
    (codes "form-data; name=\"xml_submission_file\"; filename=\"submission.xml\"")
    ++ field_line (codes "Content-Type") (codes "text/xml") ++ crlf

-- what stands behind it
unfoldable pub part_end : List ℕ
part_end = crlf ++ codes "--odk-part--" ++ crlf

abbrev pub post_body : List ℕ → List ℕ
post_body document = part_head ++ document ++ part_end

-- what the head says of a body of this length
unfoldable pub body_fields : ℕ → List ℕ
body_fields size = field_line (codes "Content-Type") (codes "multipart/form-data; boundary=odk-part")
    ++ field_line (codes "Content-Length") (decimal size)

abbrev pub post_request : Address → List ℕ → List ℕ → List ℕ
post_request base date document =
    opening (codes "POST") (submission_address base) date ++ body_fields (length (post_body document)) ++ closing
    ++ post_body document

-- the bytes submit the document to the server with this base, at this moment
abbrev pub IsPost : Address → ℕ → List ℕ → List ℕ → Type 0
IsPost base moment document bytes =
    (date : List ℕ) × IsDateOf moment date × (bytes ≡ post_request base date document)
