-- What the code's parts find is what a request asks.
use Rattle.std.proofs.Common.{◌≡◌, ◌≢◌, List, [], ℕ, true, false, codes, Option, Some, None, Result, Ok, Err}
use Rattle.std.proofs.Common.{IfOk, sym, ap, subst, ◌∙◌}
use Rattle.std.specs.Prelude.{MatchOption, bytes_eq}
use Rattle.std.proofs.lemmas.Slice.Eq.{bytes_eq-Decides}
use Rattle.http_request.specs.declared.request.Request.{Request}
use Rattle.http_request.specs.Requests.{ReadsAs}
use Rattle.instance_doc.specs.declared.instance.Read.{Read}
use Rattle.instance_doc.specs.Instances.{read_of, ReadsAs as ReadsInstance}
use Rattle.rosa_doc.specs.declared.tree.Doc.{Doc}
use Rattle.rosa_doc.specs.declared.refusal.DocRefused.{DocRefused}
use Rattle.rosa_doc.specs.declared.refusal.DocRefused.TheVariants as refusals
use Rattle.rosa_doc.specs.Refusals.{Refuses}
use Rattle.rosa_doc.specs.Refusals.{IsDoc}
use Rattle.rosa_doc.proofs.OneReading.{one_reading}
use Rattle.submission_wire.specs.Submissions.{IsSubmission, Submits as SubmitsDocument}
use Rattle.submission_wire.proofs.Returned.{one_submission}
use Rattle.rosa_box.specs.declared.state.BoxKept.{BoxKept}
use Rattle.rosa_box.specs.declared.asked.Asked.{Asked}
use Rattle.rosa_box.specs.declared.asked.Asked.TheVariants as asked
use Rattle.rosa_box.specs.Asked.{Asks, AskedBy, HasId, SubmitsOrNone, NamesOrNone}
use Rattle.rosa_box.specs.Asked.Asks.{unreadable, readable}
use Rattle.rosa_box.specs.Asked.AskedBy.{elsewhere, other_method, nothing, submission}

one_document : (bytes : List ℕ) (a b : Doc) → IsDoc bytes a → IsDoc bytes b → a ≡ b
one_document bytes a b x y =
    let same : Ok a ≡ Ok b = one_reading bytes (Ok a) (Ok b) x y in
    cc

never_refused : (bytes : List ℕ) (a : Doc) (refusal : DocRefused) → IsDoc bytes a → Refuses bytes refusal
    → refusal ≢ refusals.NoMemory → ⊥
never_refused bytes a refusal x refuses told =
    let same : Ok a ≡ Err refusal = one_reading bytes (Ok a) (Err refusal) x (refuses, told) in
    cc

-- a document says one thing of its instance
pub one_instance : (document : List ℕ) (a b : Read) → ReadsInstance document a → ReadsInstance document b → a ≡ b
one_instance document a b (x, is_x, a_is) (y, is_y, b_is) =
    a_is ∙ ap (λ (d : Doc). read_of d.root) (one_document document x y is_x is_y) ∙ sym b_is

-- what stands in a document that was read
pub named : (document : List ℕ) (read : Read) (found : Option (List ℕ)) → ReadsInstance document read
    → MatchOption found (read.instance_id ≡ []) (λ some. (some ≡ read.instance_id) × (read.instance_id ≢ []))
    → NamesOrNone document found
named document read (Some id) reads (same, some) = record {
  read = read;
  reads = reads;
  same_id = same;
  some_id = λ none. some (sym same ∙ none);
}
named document read None reads empty = λ id has.
    has.some_id (has.same_id ∙ ap (λ (r : Read). r.instance_id) (one_instance document has.read read has.reads reads)
    ∙ empty)

-- what is no document has no id
pub unread : {E : Type 0} (document : List ℕ) (refusal : DocRefused) (result : Result (Option (List ℕ)) E)
    → Refuses document refusal → IfOk result (λ id. (id ≡ None) × (refusal ≢ refusals.NoMemory))
    → IfOk result (NamesOrNone document)
unread document refusal (Ok found) refuses (none, told) =
    subst (NamesOrNone document) (sym none) (λ id has.
    never_refused document has.reads.0 refusal has.reads.1 refuses told)
unread document refusal (Err e) refuses is = tt

module _ (request : Request) where
  -- a request that submits nothing
  pub submits_none : (found : Option (List ℕ)) → found ≡ None → SubmitsDocument request found
      → SubmitsOrNone request None
  submits_none found none is kept has =
      let told : SubmitsDocument request None = subst (SubmitsDocument request) none is in
      told kept.bytes has.submission

  -- a request that submits a document without an id
  pub submits_unnamed : (document bytes : List ℕ) (found : Option (List ℕ)) (id : Option (List ℕ)) → bytes ≡ document
      → found ≡ Some document → id ≡ None → SubmitsDocument request found → NamesOrNone bytes id
      → SubmitsOrNone request None
  submits_unnamed document bytes found id same some none is names kept has =
      let told : IsSubmission request document = subst (SubmitsDocument request) some is in
      let here : NamesOrNone document None =
      subst (λ i. NamesOrNone document i) none (subst (λ b. NamesOrNone b id) same names) in
      here kept.instance_id (subst (λ d. HasId d kept.instance_id)
      (one_submission request kept.bytes document has.submission told) has.named)

  is_word : (text word : List ℕ) → true ≡ bytes_eq text word → text ≡ word
  is_word text word is = (bytes_eq-Decides text word).0 (sym is)

  no_word : (text word : List ℕ) → false ≡ bytes_eq text word → text ≢ word
  no_word text word is same =
      let t : bytes_eq text word ≡ true = (bytes_eq-Decides text word).1 same in
      let f : bytes_eq text word ≡ false = sym is in
      cc

  pub not_there : false ≡ bytes_eq request.target (codes "/submission") → AskedBy request asked.Elsewhere
  not_there is = elsewhere (no_word request.target (codes "/submission") is)

  pub not_posted : true ≡ bytes_eq request.target (codes "/submission")
      → false ≡ bytes_eq request.method (codes "POST") → AskedBy request asked.OtherMethod
  not_posted there is = other_method (is_word request.target (codes "/submission") there)
      (no_word request.method (codes "POST") is)

  module _ (found : Option BoxKept) where
    pub one_submitted : (kept : BoxKept) → true ≡ bytes_eq request.target (codes "/submission")
        → true ≡ bytes_eq request.method (codes "POST") → found ≡ Some kept → SubmitsOrNone request found
        → AskedBy request (asked.Submission kept)
    one_submitted kept there posted some is = submission (record {
      target = is_word request.target (codes "/submission") there;
      method = is_word request.method (codes "POST") posted;
    }) kept (subst (SubmitsOrNone request) some is)

    pub none_submitted : true ≡ bytes_eq request.target (codes "/submission")
        → true ≡ bytes_eq request.method (codes "POST") → found ≡ None → SubmitsOrNone request found
        → AskedBy request asked.Nothing
    none_submitted there posted none is = nothing (record {
      target = is_word request.target (codes "/submission") there;
      method = is_word request.method (codes "POST") posted;
    }) (subst (SubmitsOrNone request) none is)

-- bytes that are a request
pub asks : {E : Type 0} (bytes : List ℕ) (found : Option Request) (request : Request) (result : Result Asked E)
    → found ≡ Some request → ReadsAs bytes found → IfOk result (AskedBy request) → IfOk result (Asks bytes)
asks bytes found request (Ok asked) some reads by = readable request asked (subst (ReadsAs bytes) some reads) by
asks bytes found request (Err e) some reads by = tt

pub asks_nothing : (bytes : List ℕ) (found : Option Request) → found ≡ None → ReadsAs bytes found
    → Asks bytes asked.Unreadable
asks_nothing bytes found none reads = unreadable (subst (ReadsAs bytes) none reads)
