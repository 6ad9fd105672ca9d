-- Which documents come back out of the requests that submit them.
use Rattle.std.specs.Prelude.{◌≡◌, ◌≢◌, ℕ, ◌<◌, ◌^◌, List, All, length, Option, Some}
use Rattle.std.specs.Int.{IsInRange}
use Rattle.http_wire.specs.declared.address.Address.{Address}
use Rattle.http_request.specs.declared.request.Request.{Request}
use Rattle.http_request.specs.Requests.{IsRequest, ReadsAs}
use Rattle.submission_wire.specs.Posts.{IsPost}
use Rattle.submission_wire.specs.Submissions.{IsSubmission, Submits}

-- visible ASCII characters alone, as RFC 3986 has them in a URI
abbrev pub IsVisible : List ℕ → Type 0
IsVisible bytes = All (IsInRange 33 126) bytes

pub record IsVisibleAddress (address : Address) : Type 0 where
  pub authority : IsVisible address.authority
  pub target : IsVisible address.target

-- a document without a CR, whose request has a length that is read
pub record IsSendable (document : List ℕ) : Type 0 where
  pub clean : All (λ b. b ≢ 13) document
  pub short : length document < 10 ^ 17

-- what is read of the bytes is a request, and what is read of that is the document
pub record ComesBack (bytes document : List ℕ) (read : Option Request) : Type 0 where
  pub request : Request
  pub is_read : read ≡ Some request
  pub submits : (found : Option (List ℕ)) → Submits request found → found ≡ Some document

-- A document that can be sent comes back out of its own request, whatever else it holds, the boundary's text too.
abbrev pub DocumentsReturn : Type 0
DocumentsReturn = (base : Address) (moment : ℕ) (document bytes : List ℕ) → IsVisibleAddress base → IsSendable document
    → IsPost base moment document bytes → (read : Option Request) → ReadsAs bytes read → ComesBack bytes document read

-- The same bytes are one request at most, and one request submits one document at most.
abbrev pub RequestsAreOne : Type 0
RequestsAreOne = (bytes : List ℕ) (a b : Request) → IsRequest bytes a → IsRequest bytes b → a ≡ b

abbrev pub SubmissionsAreOne : Type 0
SubmissionsAreOne = (request : Request) (a b : List ℕ) → IsSubmission request a → IsSubmission request b → a ≡ b
