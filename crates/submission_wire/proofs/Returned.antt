-- A document comes back out of the request that submits it.
use Rattle.std.proofs.Common.{◌≡◌, ◌≢◌, ℕ, ◌+◌, ◌<◌, ◌^◌, List, [], ◌∷◌, ◌++◌, length, map, All, IsUtf8}
use Rattle.std.proofs.Common.{codes, get_or, Option, Some, None, refl, sym, ap, subst, ◌∙◌, append_assoc}
use Rattle.std.proofs.Common.{arith, lit<, lit≤}
use Rattle.std.proofs.Math.ListN.{get_or-append}
use Rattle.std.proofs.lemmas.List.{length-append}
use Rattle.std.proofs.lemmas.Option.{same_Some}
use Rattle.std.proofs.lemmas.List.Elements.{All-get_or, All-from_recursion}
use Rattle.httparse.specs.Grammar.{Field, crlf as crlf_end, IsField, print_section, trim_ows, is_token_byte}
use Rattle.httparse.specs.Grammar.{RequestHead}
use Rattle.httparse.specs.Spans.{name_and_value}
use Rattle.httparse.proofs.GrammarLemmas.{request_unique}
use Rattle.http_wire.specs.Requests.{crlf, field_line}
use Rattle.http_wire.specs.declared.address.Address.{Address}
use Rattle.http_request.specs.declared.request.Request.{Request}
use Rattle.http_request.specs.Requests.{IsRequest, ReadsAs, content_type}
use Rattle.memchr.specs.Find.{OccursAt}
use Rattle.submission_wire.specs.Parameters.{kind_of, parameter, form_boundary}
use Rattle.submission_wire.specs.Parts.{HasPart, HasContent, first_delimiter, delimiter}
use Rattle.submission_wire.specs.Posts.{submission_address, part_head, part_end, post_body, post_request}
use Rattle.submission_wire.specs.Returns.{IsVisibleAddress, ComesBack, RequestsAreOne, SubmissionsAreOne}
use Rattle.submission_wire.specs.Returns.{DocumentsReturn}
use Rattle.submission_wire.specs.Submissions.{IsSubmission, Submits}
use Rattle.submission_wire.proofs.Closing.{part_unique}
use Rattle.submission_wire.proofs.PostHead.{field, field_is, plain_value, post_head, head_spelled, head_is}
use Rattle.submission_wire.proofs.PostHead.{visible_ascii, ascii_text, target_visible, size_stated, kind_stated}
use Rattle.submission_wire.proofs.ValueBytes.{IsValue, date_value}

-- ---- the part that is the document

part_fields : List Field
part_fields =
    field (codes "Content-Disposition") (codes "form-data; name=\"xml_submission_file\"; filename=\"submission.xml\"")
    ∷ field (codes "Content-Type") (codes "text/xml") ∷ []

part_fields_are : All IsField part_fields
unfolding part_fields is_token_byte
part_fields_are = All-from_recursion IsField part_fields (
  field_is (codes "Content-Disposition")
      (codes "form-data; name=\"xml_submission_file\"; filename=\"submission.xml\"") (lit< tt) refl
      (plain_value (codes "form-data; name=\"xml_submission_file\"; filename=\"submission.xml\"") refl),
  (field_is (codes "Content-Type") (codes "text/xml") (lit< tt) refl (plain_value (codes "text/xml") refl), tt),
)

-- the delimiter doesn't begin in a document without a CR
not_inside : (document end : List ℕ) (k : ℕ) → All (λ b. b ≢ 13) document → k < length document
    → ¬ (OccursAt (document ++ end) (delimiter (codes "odk-part")) k)
not_inside document end k clean within occurs =
    let same : k + 0 ≡ k = omega arith in
    let here : get_or (document ++ end) k 0 ≡ 13 =
    subst (λ n. get_or (document ++ end) n 0 ≡ 13) same (occurs.reads 0 (lit< tt)) in
    All-get_or (λ b. b ≢ 13) document k 0 within clean (sym (get_or-append document end 0 k within) ∙ here)

content_headed : (document : List ℕ)
    → HasContent ((print_section part_fields crlf_end ++ document) ++ part_end) (document ++ part_end)
unfolding part_fields trim_ows parameter
content_headed document = record {
  fields = part_fields;
  last = crlf_end;
  reads = (part_fields_are, append_assoc (print_section part_fields crlf_end) document part_end);
  few = lit≤ tt;
  named = refl;
}

has_part : (document : List ℕ) → All (λ b. b ≢ 13) document
    → HasPart (first_delimiter (codes "odk-part")) (delimiter (codes "odk-part")) (post_body document) document
unfolding part_head part_end field_line part_fields
has_part document clean = record {
  part = (print_section part_fields crlf_end ++ document) ++ part_end;
  content = document ++ part_end;
  opened = refl;
  headed = content_headed document;
  closes = record {
    tail = codes "--" ++ crlf;
    closed = refl;
    first = λ k within. not_inside document part_end k clean within;
    ended = refl;
  };
}

body_size : (document : List ℕ) → length (post_body document) ≡ length document + 141
unfolding part_head part_end field_line
body_size document =
    let front = length-append (part_head ++ document) part_end in
    let back = length-append part_head document in
    let head : length part_head ≡ 125 = refl in
    let end : length part_end ≡ 16 = refl in
    omega (arith, front, back, head, end)

-- ---- one request, and one submission

pub one_request : RequestsAreOne
one_request bytes a b x y =
    let same = request_unique bytes x.head y.head a.body b.body x.reads y.reads in
    let method : a.method ≡ b.method = x.method ∙ ap (λ (h : RequestHead). h.method) same.0 ∙ sym y.method in
    let target : a.target ≡ b.target = x.target ∙ ap (λ (h : RequestHead). h.target) same.0 ∙ sym y.target in
    let kind : content_type (map name_and_value x.head.fields) ≡ content_type (map name_and_value y.head.fields) =
    ap (λ (h : RequestHead). content_type (map name_and_value h.fields)) same.0 in
    let typed : a.content_type ≡ b.content_type = x.typed ∙ kind ∙ sym y.typed in
    λ i. record { method = method i; target = target i; content_type = typed i; body = same.1 i }

pub one_submission : SubmissionsAreOne
one_submission request a b x y =
    let same : y.boundary ≡ x.boundary = same_Some y.boundary x.boundary (sym y.typed ∙ x.typed) in
    part_unique (first_delimiter x.boundary) (delimiter x.boundary) request.body a b x.part
    (subst (λ c. HasPart (first_delimiter c) (delimiter c) request.body b) same y.part)

only : (request : Request) (document : List ℕ) → IsSubmission request document → (found : Option (List ℕ))
    → Submits request found → found ≡ Some document
only request document is (Some other) has = ap Some (one_submission request other document has is)
only request document is None none = absurd (none document is)

came_back : (bytes document : List ℕ) (request : Request) → IsRequest bytes request → IsSubmission request document
    → (read : Option Request) → ReadsAs bytes read → ComesBack bytes document read
came_back bytes document request is submits None none = absurd (none request is)
came_back bytes document request is submits (Some other) has = record {
  request = other;
  is_read = refl;
  submits =
      only other document (subst (λ r. IsSubmission r document) (one_request bytes request other is has) submits);
}

-- ---- the request

post : Address → List ℕ → Request
post base document = record {
  method = codes "POST";
  target = base.target ++ codes "/submission";
  content_type = codes "multipart/form-data; boundary=odk-part";
  body = post_body document;
}

boundary_is : form_boundary (codes "multipart/form-data; boundary=odk-part") ≡ Some (codes "odk-part")
unfolding trim_ows kind_of parameter
boundary_is = refl

post_submits : (base : Address) (document : List ℕ) → All (λ b. b ≢ 13) document
    → IsSubmission (post base document) document
unfolding post
post_submits base document clean = record {
  posted = refl;
  boundary = codes "odk-part";
  typed = boundary_is;
  part = has_part document clean;
}

kind_text : IsUtf8 (codes "multipart/form-data; boundary=odk-part")
kind_text = ascii_text (codes "multipart/form-data; boundary=odk-part") refl

post_read : (base : Address) (date document bytes : List ℕ) → IsVisibleAddress base → length document < 10 ^ 17
    → IsValue date → bytes ≡ post_request base date document → IsRequest bytes (post base document)
unfolding post
post_read base date document bytes visible short dated is =
    let to : Address = submission_address base in
    let size = length (post_body document) in
    let small : size < 10 ^ 18 = omega (arith, body_size document) in
    let target = target_visible base.target visible.target in
    let more : length (codes "/submission") ≡ 11 = refl in
    let some : 0 < length to.target = omega (arith, length-append base.target (codes "/submission"), more) in
    let spelled = is ∙ head_spelled to date size (post_body document) in
    record {
      head = post_head to date size;
      reads = (head_is to date size some target visible.authority dated (omega arith), spelled);
      few = lit≤ tt;
      method = refl;
      target = refl;
      typed = kind_stated base.authority date size;
      texts = (ascii_text (codes "POST") refl, visible_ascii to.target target, kind_text);
      sized = size_stated base.authority date size small;
    }

pub returned : DocumentsReturn
returned base moment document bytes visible sendable (date, (d, secs, shows), is) read as_read =
    let dated : IsValue date = subst IsValue (sym shows) (date_value d) in
    came_back bytes document (post base document) (post_read base date document bytes visible sendable.short dated is)
    (post_submits base document sendable.clean) read as_read
