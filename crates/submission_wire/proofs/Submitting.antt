-- What a request submits, by its boundary.
use Rattle.std.proofs.Common.{◌≡◌, true, false, List, ℕ, codes, Option, Some, None, Result, IfOk, sym, subst, ap, ◌∙◌}
use Rattle.std.specs.Prelude.{bytes_eq}
use Rattle.std.proofs.lemmas.Option.{same_Some}
use Rattle.std.proofs.lemmas.Result.{IfOk-weaker}
use Rattle.std.proofs.lemmas.Slice.Eq.{bytes_eq-Decides}
use Rattle.http_request.specs.declared.request.Request.{Request}
use Rattle.submission_wire.specs.Parameters.{form_boundary}
use Rattle.submission_wire.specs.Parts.{HasPart, IsOneOrNone, first_delimiter, delimiter}
use Rattle.submission_wire.specs.Submissions.{Submits}

module _ (request : Request) where
  pub no_post : bytes_eq request.method (codes "POST") ≡ false → Submits request None
  no_post other document has =
      let same : bytes_eq request.method (codes "POST") ≡ true =
      (bytes_eq-Decides request.method (codes "POST")).1 has.posted in
      cc

  pub no_boundary : None ≡ form_boundary request.content_type → Submits request None
  no_boundary none document has =
      let some = has.typed in
      cc

  pub submits : bytes_eq request.method (codes "POST") ≡ true → (boundary : List ℕ)
      → Some boundary ≡ form_boundary request.content_type → (found : Option (List ℕ))
      → IsOneOrNone (HasPart (first_delimiter boundary) (delimiter boundary) request.body) found
      → Submits request found
  submits post boundary typed (Some document) part = record {
    posted = (bytes_eq-Decides request.method (codes "POST")).0 post;
    boundary = boundary;
    typed = sym typed;
    part = part;
  }
  submits post boundary typed None none = λ document has.
      let same : has.boundary ≡ boundary = same_Some has.boundary boundary (sym has.typed ∙ sym typed) in
      none document (subst (λ b. HasPart (first_delimiter b) (delimiter b) request.body document) same has.part)

-- what the code's parts make of a request
pub submitted : {E : Type 0} (request : Request) (boundary opening ending body kind : List ℕ)
    (found : Option (List ℕ)) (copied : Result (Option (List ℕ)) E)
    → true ≡ bytes_eq request.method (codes "POST") → kind ≡ request.content_type
    → Some boundary ≡ form_boundary kind → opening ≡ first_delimiter boundary → ending ≡ delimiter boundary
    → body ≡ request.body → IsOneOrNone (HasPart opening ending body) found → IfOk copied (λ blob. blob ≡ found)
    → IfOk copied (Submits request)
submitted request boundary opening ending body kind found copied post kind_is typed opening_is ending_is body_is part =
    let opened : IsOneOrNone (HasPart (first_delimiter boundary) ending body) found =
    subst (λ o. IsOneOrNone (HasPart o ending body) found) opening_is part in
    let ended : IsOneOrNone (HasPart (first_delimiter boundary) (delimiter boundary) body) found =
    subst (λ e. IsOneOrNone (HasPart (first_delimiter boundary) e body) found) ending_is opened in
    let here : IsOneOrNone (HasPart (first_delimiter boundary) (delimiter boundary) request.body) found =
    subst (λ b. IsOneOrNone (HasPart (first_delimiter boundary) (delimiter boundary) b) found) body_is ended in
    let told : Submits request found =
    submits request (sym post) boundary (typed ∙ ap form_boundary kind_is) found here in
    IfOk-weaker copied (λ blob. blob ≡ found) (Submits request) (λ blob is. subst (Submits request) (sym is) told)
