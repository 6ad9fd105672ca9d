-- Submissions (RFC 7578): any request submits one document, or none.
use Rattle.std.specs.Prelude.{◌≡◌, ℕ, List, codes, Option, Some}
use Rattle.http_request.specs.declared.request.Request.{Request}
use Rattle.submission_wire.specs.Parameters.{form_boundary}
use Rattle.submission_wire.specs.Parts.{HasPart, IsOneOrNone, first_delimiter, delimiter}

-- a POST of a form whose body is one part, the document
pub record IsSubmission (request : Request) (document : List ℕ) : Type 0 where
  pub posted : request.method ≡ codes "POST"
  pub boundary : List ℕ
  pub typed : form_boundary request.content_type ≡ Some boundary
  pub part : HasPart (first_delimiter boundary) (delimiter boundary) request.body document

-- the document that the request submits, or none
abbrev pub Submits : Request → Option (List ℕ) → Type 0
Submits request found = IsOneOrNone (IsSubmission request) found
