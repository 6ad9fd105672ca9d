-- A request asks one thing at most, so it has one answer at most.
use Rattle.std.proofs.Common.{◌≡◌, List, ℕ, refl, sym, ap, subst, ◌∙◌}
use Rattle.http_request.specs.declared.request.Request.{Request}
use Rattle.submission_wire.proofs.Returned.{one_request, one_submission}
use Rattle.instance_doc.specs.declared.instance.Read.{Read}
use Rattle.rosa_box.specs.declared.asked.Asked.{Asked}
use Rattle.rosa_box.specs.declared.asked.Asked.TheVariants as asked
use Rattle.rosa_box.specs.declared.state.BoxKept.{BoxKept}
use Rattle.rosa_box.specs.Answers.{reply_text}
use Rattle.rosa_box.specs.Asked.{Asks, AskedBy, HasId, Submits}
use Rattle.rosa_box.specs.Asked.Asks.{unreadable, readable}
use Rattle.rosa_box.specs.Asked.AskedBy.{elsewhere, other_method, nothing, submission}
use Rattle.rosa_box.specs.Laws.{AnswersAreOne}
use Rattle.rosa_box.specs.Served.{Outcome, served}
use Rattle.rosa_box.proofs.Asking.{one_instance}

one_kept : (request : Request) (a b : BoxKept) → Submits request a → Submits request b → a ≡ b
one_kept request a b x y =
    let bytes : a.bytes ≡ b.bytes = one_submission request a.bytes b.bytes x.submission y.submission in
    let named : HasId b.bytes a.instance_id = subst (λ d. HasId d a.instance_id) bytes x.named in
    let id : a.instance_id ≡ b.instance_id =
    named.same_id ∙ ap (λ (r : Read). r.instance_id) (one_instance b.bytes named.read y.named.read named.reads y.named.reads)
    ∙ sym y.named.same_id in
    λ i. record { instance_id = id i; bytes = bytes i }

asked_one : (request : Request) (a b : Asked) → AskedBy request a → AskedBy request b → a ≡ b
asked_one request _ _ (elsewhere off) (elsewhere _) = refl
asked_one request _ _ (elsewhere off) (other_method there _) = absurd (off there)
asked_one request _ _ (elsewhere off) (nothing posted _) = absurd (off posted.target)
asked_one request _ _ (elsewhere off) (submission posted _ _) = absurd (off posted.target)
asked_one request _ _ (other_method there _) (elsewhere off) = absurd (off there)
asked_one request _ _ (other_method _ _) (other_method _ _) = refl
asked_one request _ _ (other_method _ off) (nothing posted _) = absurd (off posted.method)
asked_one request _ _ (other_method _ off) (submission posted _ _) = absurd (off posted.method)
asked_one request _ _ (nothing posted _) (elsewhere off) = absurd (off posted.target)
asked_one request _ _ (nothing posted _) (other_method _ off) = absurd (off posted.method)
asked_one request _ _ (nothing _ _) (nothing _ _) = refl
asked_one request _ _ (nothing _ none) (submission _ kept is) = absurd (none kept is)
asked_one request _ _ (submission posted _ _) (elsewhere off) = absurd (off posted.target)
asked_one request _ _ (submission posted _ _) (other_method _ off) = absurd (off posted.method)
asked_one request _ _ (submission _ kept is) (nothing _ none) = absurd (none kept is)
asked_one request _ _ (submission _ a x) (submission _ b y) =
    ap (λ (k : BoxKept). asked.Submission k) (one_kept request a b x y)

asks_one : (bytes : List ℕ) (a b : Asked) → Asks bytes a → Asks bytes b → a ≡ b
asks_one bytes _ _ (unreadable none) (unreadable _) = refl
asks_one bytes _ _ (unreadable none) (readable request _ is _) = absurd (none request is)
asks_one bytes _ _ (readable request _ is _) (unreadable none) = absurd (none request is)
asks_one bytes _ _ (readable one a x by) (readable other b y also) =
    asked_one other a b (subst (λ r. AskedBy r a) (one_request bytes one other x y) by) also

pub one_answer : AnswersAreOne
one_answer before one other request reply again x y =
    let same : x.asked ≡ y.asked = asks_one request x.asked y.asked x.asks y.asks in
    let outcome : served before x.asked ≡ served before y.asked = ap (served before) same in (
      x.leaves.state_is ∙ ap (λ (o : Outcome). o.state) outcome ∙ sym y.leaves.state_is,
      x.leaves.reply_is ∙ ap (λ (o : Outcome). reply_text o.status) outcome ∙ sym y.leaves.reply_is,
    )
