-- A head and the bytes behind it are one request, or none.
use Rattle.std.proofs.Common.{◌≡◌, ℕ, ◌≤◌, true, false, ◌&&◌, ◌==◌, List, length, map, take, drop, Option, Some, None}
use Rattle.std.proofs.Common.{refl, sym, ap, subst, ◌∙◌, arith, IsUtf8}
use Rattle.std.specs.Str.{is_utf8, IsValidUpTo}
use Rattle.std.proofs.lemmas.Bool.{and_parts, and_from, eqb-true, eq-eqb}
use Rattle.std.proofs.lemmas.List.{length-map, length-take, take_all}
use Rattle.std.proofs.lemmas.Str.{is_utf8-from_IsUtf8, IsUtf8-from_is_utf8}
use Rattle.httparse.specs.Grammar.{RequestHead, ReadsRequest}
use Rattle.httparse.specs.declared.spans.HeaderSpan.{HeaderSpan}
use Rattle.httparse.specs.declared.spans.RequestSpans.{RequestSpans}
use Rattle.httparse.specs.Spans.{IsRequestAt, header_bytes, span_bytes, name_and_value}
use Rattle.httparse.proofs.GrammarLemmas.{request_unique}
use Rattle.http_reply.specs.Fields.{Fields}
use Rattle.http_reply.proofs.LineCounts.{split}
use Rattle.http_request.specs.declared.request.Request.{Request}
use Rattle.http_request.specs.Requests.{IsRequest, ReadsAs, text_of, body_length, content_type, has_length}
use Rattle.http_request.specs.Requests.{with_texts, with_body}

-- a length that is stated as it is
stated_so : (size : ℕ) (stated : Option ℕ) → has_length size stated ≡ true → stated ≡ Some size
stated_so size None is = absurd (let t : false ≡ true = is in cc)
stated_so size (Some n) is = ap Some (sym (eqb-true size n is))

module _ (bytes : List ℕ) (head : RequestHead) (rest : List ℕ) (reads : ReadsRequest bytes head rest)
    (few : length head.fields ≤ 64) where
  abbrev kind : List ℕ
  kind = content_type (map name_and_value head.fields)

  abbrev stated : Option ℕ
  stated = body_length (map name_and_value head.fields)

  sized_as : (request : Request) → IsRequest bytes request → has_length (length rest) stated ≡ true
  sized_as request is =
      let same = request_unique bytes head is.head rest request.body reads is.reads in
      let here : stated ≡ Some (length rest) =
      ap (λ (h : RequestHead). body_length (map name_and_value h.fields)) same.0 ∙ is.sized
      ∙ ap (λ (b : List ℕ). Some (length b)) (sym same.1) in
      ap (has_length (length rest)) here ∙ eq-eqb (length rest) (length rest) refl

  texts_in : (request : Request) → IsRequest bytes request
      → (is_utf8 head.method && is_utf8 head.target && is_utf8 kind) ≡ true
  texts_in request is =
      let same = request_unique bytes head is.head rest request.body reads is.reads in
      let method : is_utf8 head.method ≡ true =
      is_utf8-from_IsUtf8 head.method (subst IsUtf8 (is.method
      ∙ ap (λ (h : RequestHead). h.method) (sym same.0)) is.texts.0) in
      let target : is_utf8 head.target ≡ true =
      is_utf8-from_IsUtf8 head.target (subst IsUtf8 (is.target
      ∙ ap (λ (h : RequestHead). h.target) (sym same.0)) is.texts.1) in
      let typed : is_utf8 kind ≡ true =
      is_utf8-from_IsUtf8 kind (subst IsUtf8 (is.typed
      ∙ ap (λ (h : RequestHead). content_type (map name_and_value h.fields)) (sym same.0)) is.texts.2) in
      and_from (is_utf8 head.method && is_utf8 head.target) (is_utf8 kind)
      (and_from (is_utf8 head.method) (is_utf8 head.target) method target) typed

  texts_read : has_length (length rest) stated ≡ true → ReadsAs bytes (with_texts head.method head.target kind rest)
  texts_read sized =
      split (is_utf8 head.method && is_utf8 head.target && is_utf8 kind)
      (λ texts.
      let both = and_parts (is_utf8 head.method && is_utf8 head.target) (is_utf8 kind) texts in
      let two = and_parts (is_utf8 head.method) (is_utf8 head.target) both.0 in
      rw texts (record {
        head = head;
        reads = reads;
        few = few;
        method = refl;
        target = refl;
        typed = refl;
        texts = (
          IsUtf8-from_is_utf8 head.method two.0,
          IsUtf8-from_is_utf8 head.target two.1,
          IsUtf8-from_is_utf8
              kind both.1,
        );
        sized = stated_so (length rest) stated sized;
      }))
      (λ other. rw other (λ request is. let t = texts_in request is in cc))

  pub body_read : ReadsAs bytes (with_body head.method head.target (map name_and_value head.fields) rest)
  body_read =
      split (has_length (length rest) stated)
      (λ sized. rw sized (texts_read sized))
      (λ other. rw other (λ request is. let t = sized_as request is in cc))

-- what the parser found is a head
pub found_read : (bytes : List ℕ) (headers : List HeaderSpan) (found : RequestSpans) (head : RequestHead)
    → IsRequestAt bytes headers found head → length headers ≡ 64
    → (method target rest : List ℕ) (fields : Fields) (read : Option Request) → method ≡ span_bytes bytes found.method
    → target ≡ span_bytes bytes found.path
    → fields ≡ map (header_bytes bytes) (take found.headers headers) → rest ≡ drop found.len bytes
    → read ≡ with_body method target fields rest → ReadsAs bytes read
found_read bytes headers found head at room method target rest fields read method_is target_is fields_are rest_is is =
    let counts = ap length at.fields in
    let taken = length-map (take found.headers headers) (header_bytes bytes) in
    let given = length-map head.fields name_and_value in
    let here =
    body_read bytes head (drop found.len bytes) at.reads
    (omega (arith, counts, taken, given, length-take found.headers headers)) in
    let m : method ≡ head.method = method_is ∙ at.method in
    let t : target ≡ head.target = target_is ∙ at.path in
    let f : fields ≡ map name_and_value head.fields = fields_are ∙ at.fields in
    let same : with_body method target fields rest ≡ with_body head.method head.target
    (map name_and_value head.fields) (drop found.len bytes) =
    ap (λ x. with_body x target fields rest) m ∙ ap (λ x. with_body head.method x fields rest) t
    ∙ ap (λ (x : Fields). with_body head.method head.target x rest) f
    ∙ ap (λ x. with_body head.method head.target (map name_and_value head.fields) x) rest_is in
    subst (ReadsAs bytes) (sym (is ∙ same)) here

pub text_is : (bytes text : List ℕ) → IsUtf8 bytes → text ≡ bytes → Some text ≡ text_of bytes
text_is bytes text good same = rw (is_utf8-from_IsUtf8 bytes good, same) refl

pub no_text : (bytes : List ℕ) (at : ℕ) → IsValidUpTo bytes at → None ≡ text_of bytes
no_text bytes at upto =
    split (is_utf8 bytes)
    (λ good. absurd
    (upto.longest (length bytes) upto.short (subst IsUtf8 (sym (take_all (length bytes) bytes (omega arith)))
    (IsUtf8-from_is_utf8 bytes good))))
    (λ other. rw other refl)
