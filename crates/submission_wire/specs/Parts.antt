-- The document in the body of a submission (RFC 7578, section 4; RFC 2046, section 5.1.1): the body is one part, which
-- stands between two delimiters and ends before the first delimiter behind its head.
use Rattle.std.specs.Prelude.{◌≡◌, ℕ, ◌<◌, ◌≤◌, Bool, true, false, ◌||◌, List, ◌++◌, length, codes, map, bytes_eq}
use Rattle.std.specs.Prelude.{Option, Some, None}
use Rattle.httparse.specs.Grammar.{Field, LineEnd, ReadsSection}
use Rattle.httparse.specs.Spans.{name_and_value}
use Rattle.http_reply.specs.Fields.{Fields, first_value}
use Rattle.http_reply.specs.Heads.{most_fields}
use Rattle.http_wire.specs.Requests.{crlf}
use Rattle.memchr.specs.Find.{OccursAt}
use Rattle.submission_wire.specs.Parameters.{parameter}

-- the value of a `name` that is the document's, in quotes
abbrev pub is_document_name : Option (List ℕ) → Bool
is_document_name None = false
is_document_name (Some name) = bytes_eq name (codes "\"xml_submission_file\"")

abbrev pub names_document : Option (List ℕ) → Bool
names_document None = false
names_document (Some value) = is_document_name (parameter (codes "name=") value)

-- the first Content-Disposition names the document
abbrev pub is_document_head : Fields → Bool
is_document_head fields = names_document (first_value (codes "content-disposition") fields)

-- the part begins with a head that names the document, and this is behind it
pub record HasContent (part content : List ℕ) : Type 0 where
  pub fields : List Field
  pub last : LineEnd
  pub reads : ReadsSection part fields last content
  pub few : length fields ≤ most_fields
  pub named : is_document_head (map name_and_value fields) ≡ true

-- the line that opens the first part
abbrev pub first_delimiter : List ℕ → List ℕ
first_delimiter boundary = codes "--" ++ boundary ++ crlf

-- what ends a part
abbrev pub delimiter : List ℕ → List ℕ
delimiter boundary = crlf ++ codes "--" ++ boundary

-- what may stand behind the delimiter that ends the last part
abbrev pub is_last_tail : List ℕ → Bool
is_last_tail tail = bytes_eq tail (codes "--") || bytes_eq tail (codes "--" ++ crlf)

-- The content is a document, and then the first delimiter in it, which ends the last part.
pub record IsClosed (ending content document : List ℕ) : Type 0 where
  pub tail : List ℕ
  pub closed : content ≡ document ++ (ending ++ tail)
  pub first : (k : ℕ) → k < length document → ¬ (OccursAt content ending k)
  pub ended : is_last_tail tail ≡ true

-- a body of one part, the document, between these delimiters
pub record HasPart (opening ending body document : List ℕ) : Type 0 where
  pub part : List ℕ
  pub content : List ℕ
  pub opened : body ≡ opening ++ part
  pub headed : HasContent part content
  pub closes : IsClosed ending content document

-- one thing of this kind, or none
abbrev pub IsOneOrNone : (List ℕ → Type 0) → Option (List ℕ) → Type 0
IsOneOrNone P (Some bytes) = P bytes
IsOneOrNone P None = (bytes : List ℕ) → ¬ (P bytes)
