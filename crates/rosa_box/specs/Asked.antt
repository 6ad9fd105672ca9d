-- What a request asks of the server, whatever it has (OpenRosa Form Submission API 1.0).
use Rattle.std.specs.Prelude.{◌≡◌, ◌≢◌, ℕ, List, [], codes, Option, Some, None}
use Rattle.http_request.specs.declared.request.Request.{Request}
use Rattle.http_request.specs.Requests.{IsRequest}
use Rattle.submission_wire.specs.Submissions.{IsSubmission}
use Rattle.instance_doc.specs.declared.instance.Read.{Read}
use Rattle.instance_doc.specs.Instances.{ReadsAs}
use Rattle.rosa_box.specs.declared.asked.Asked.{Asked}
use Rattle.rosa_box.specs.declared.asked.Asked.TheVariants.{Unreadable, Elsewhere, OtherMethod, Nothing, Submission}
use Rattle.rosa_box.specs.declared.state.BoxKept.{BoxKept}

-- the bytes are the document of an instance with this id, which isn't empty
pub record HasId (document id : List ℕ) : Type 0 where
  pub read : Read
  pub reads : ReadsAs document read
  pub same_id : id ≡ read.instance_id
  pub some_id : id ≢ []

-- the request submits this document, and this is the id in it
pub record Submits (request : Request) (kept : BoxKept) : Type 0 where
  pub submission : IsSubmission request kept.bytes
  pub named : HasId kept.bytes kept.instance_id

-- where documents are submitted
abbrev pub submission_target : List ℕ
submission_target = codes "/submission"

-- it is to submit
pub record IsPosted (request : Request) : Type 0 where
  pub target : request.target ≡ submission_target
  pub method : request.method ≡ codes "POST"

-- what a request asks that was read
pub data AskedBy (request : Request) : Asked → Type 0 where
  elsewhere : request.target ≢ submission_target → AskedBy request Elsewhere
  other_method : request.target ≡ submission_target → request.method ≢ codes "POST" → AskedBy request OtherMethod
  nothing : IsPosted request → ((kept : BoxKept) → ¬ (Submits request kept)) → AskedBy request Nothing
  submission : IsPosted request → (kept : BoxKept) → Submits request kept → AskedBy request (Submission kept)

-- what bytes ask
pub data Asks (bytes : List ℕ) : Asked → Type 0 where
  unreadable : ((request : Request) → ¬ (IsRequest bytes request)) → Asks bytes Unreadable
  readable : (request : Request) (asked : Asked) → IsRequest bytes request → AskedBy request asked → Asks bytes asked

-- ---- for the code's parts

abbrev pub NamesOrNone : List ℕ → Option (List ℕ) → Type 0
NamesOrNone document (Some id) = HasId document id
NamesOrNone document None = (id : List ℕ) → ¬ (HasId document id)

abbrev pub SubmitsOrNone : Request → Option BoxKept → Type 0
SubmitsOrNone request (Some kept) = Submits request kept
SubmitsOrNone request None = (kept : BoxKept) → ¬ (Submits request kept)
