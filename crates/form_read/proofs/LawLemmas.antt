-- Bytes have one outline at most, so they are read in one way.
use Rattle.std.specs.Prelude.{◌≡◌, ◌≢◌, ℕ, List, [], Some, None, Result, Ok, Err, refl}
use Rattle.std.proofs.Common.{ap, sym, ◌∙◌, subst}
use Rattle.rosa_doc.specs.declared.tree.Doc.{Doc}
use Rattle.rosa_doc.specs.declared.refusal.DocRefused.{DocRefused}
use Rattle.rosa_doc.specs.declared.refusal.DocRefused.TheVariants as doc
use Rattle.rosa_doc.specs.Refusals.{IsDoc, Refuses as RefusesDoc}
use Rattle.rosa_doc.proofs.OneReading.{one_reading}
use Rattle.form_def.specs.declared.form.FormDef.{FormDef}
use Rattle.form_def.specs.declared.parts.FormParts.{FormParts}
use Rattle.form_outline.specs.declared.outline.Outline.{Outline}
use Rattle.form_outline.specs.declared.reading.OutlineFault.{OutlineFault}
use Rattle.form_outline.specs.declared.reading.OutlineFault.TheVariants as fault
use Rattle.form_outline.specs.Outlines.{outline_of, Outlines, Refuses as RefusesOutline}
use Rattle.form_read.specs.declared.refusal.FormRefused.{FormRefused}
use Rattle.form_read.specs.declared.refusal.FormRefused.TheVariants.{NoMemory}
use Rattle.form_read.specs.Drafts.{draft_of}
use Rattle.form_order.specs.Cycles.{NoCycle}
use Rattle.form_read.specs.Forms.{doc_refusal, IsFormOf, RefusesParts, unordered, parts_of, fields_in, refusal_of, Describes, Refuses}
use Rattle.form_read.specs.Forms as forms

same_ok : {A E : Type 0} {x y : A} → ◌≡◌ {A = Result A E} (Ok x) (Ok y) → x ≡ y
same_ok is = cc

docs_same : (bytes : List ℕ) (a b : Doc) → IsDoc bytes a → IsDoc bytes b → a ≡ b
docs_same bytes a b is are = same_ok (one_reading bytes (Ok a) (Ok b) is are)

same_some : {A : Type 0} {x y : A} → Some x ≡ Some y → x ≡ y
same_some is = cc

pub outlines_same : (bytes : List ℕ) (o p : Outline) → Outlines bytes o → Outlines bytes p → o ≡ p
outlines_same bytes o p is are = same_some (sym is.2 ∙ (ap (λ d. outline_of d.root) (docs_same bytes is.0 are.0 is.1 are.1) ∙ are.2))

abbrev without_order : FormParts → FormParts
without_order x = record x { order = [] }

forms_same : (o p : Outline) (a b : FormDef) → o ≡ p → IsFormOf o a → IsFormOf p b → unordered a ≡ unordered b
forms_same o p a b same is are =
    let drafts : is.draft ≡ are.draft = same_ok (sym is.drafted ∙ (ap draft_of same ∙ are.drafted)) in
    ap without_order is.parts ∙ ((ap (λ q. parts_of q is.draft []) same ∙ ap (λ d. parts_of p d []) drafts) ∙ sym (ap without_order are.parts))

pub one_form : (bytes : List ℕ) (a b : FormDef) → Describes bytes a → Describes bytes b → unordered a ≡ unordered b
one_form bytes a b is are = forms_same is.0 are.0 a b (outlines_same bytes is.0 are.0 is.1 are.1) is.2 are.2

some_none : {A : Type 0} {x : A} → Some x ≡ None → ⊥
some_none is = cc

ok_err : {A E : Type 0} {x : A} {q : E} → ◌≡◌ {A = Result A E} (Ok x) (Err q) → ⊥
ok_err is = cc

doc_not_refused : (bytes : List ℕ) (d : Doc) (refusal : DocRefused) → IsDoc bytes d → RefusesDoc bytes refusal → refusal ≢ doc.NoMemory → ⊥
doc_not_refused bytes d refusal is refused other = ok_err (one_reading bytes (Ok d) (Err refusal) is (refused, other))

not_refused_by : (bytes : List ℕ) (d : Doc) (refusal : DocRefused) → IsDoc bytes d → RefusesDoc bytes refusal → doc_refusal refusal ≡ NoMemory
not_refused_by bytes d (doc.NotUtf8 at) is refused = absurd (doc_not_refused bytes d _ is refused (λ (e : doc.NotUtf8 at ≡ doc.NoMemory). absurd cc))
not_refused_by bytes d (doc.BadMarkup at) is refused = absurd (doc_not_refused bytes d _ is refused (λ (e : doc.BadMarkup at ≡ doc.NoMemory). absurd cc))
not_refused_by bytes d (doc.Unclosed at) is refused = absurd (doc_not_refused bytes d _ is refused (λ (e : doc.Unclosed at ≡ doc.NoMemory). absurd cc))
not_refused_by bytes d (doc.TooDeep at) is refused = absurd (doc_not_refused bytes d _ is refused (λ (e : doc.TooDeep at ≡ doc.NoMemory). absurd cc))
not_refused_by bytes d (doc.TooLong long) is refused = absurd (doc_not_refused bytes d _ is refused (λ (e : doc.TooLong long ≡ doc.NoMemory). absurd cc))
not_refused_by bytes d (doc.HasDoctype at) is refused = absurd (doc_not_refused bytes d _ is refused (λ (e : doc.HasDoctype at ≡ doc.NoMemory). absurd cc))
not_refused_by bytes d doc.NoMemory is refused = refl

not_refused : (bytes : List ℕ) (o : Outline) (why : OutlineFault) → Outlines bytes o → RefusesOutline bytes why → refusal_of why ≡ NoMemory
not_refused bytes o (fault.Doc refusal) is refused = not_refused_by bytes is.0 refusal is.1 refused
not_refused bytes o fault.NoPrimary is refused = absurd (some_none (sym is.2 ∙ (ap (λ d. outline_of d.root) (docs_same bytes is.0 refused.0 is.1 refused.1) ∙ refused.2)))
not_refused bytes o fault.NoMemory is refused = refl

parts_not_refused : (o : Outline) (form : FormDef) (refusal : FormRefused) → IsFormOf o form → RefusesParts o refusal → refusal ≡ NoMemory
parts_not_refused o form refusal is (forms.by_part q refused) = absurd (ok_err (sym is.drafted ∙ refused))
parts_not_refused o form refusal is (forms.by_cycle draft path drafted cycle) =
    let same : is.draft ≡ draft = same_ok (sym is.drafted ∙ drafted) in
    absurd (subst (λ d. NoCycle (fields_in o d)) same is.no_cycle cycle.number cycle.first.1)
parts_not_refused o form refusal is forms.by_memory = refl

pub form_or_refusal : (bytes : List ℕ) (form : FormDef) (refusal : FormRefused) → Describes bytes form → Refuses bytes refusal → refusal ≡ NoMemory
form_or_refusal bytes form refusal is (forms.no_outline why refused) = not_refused bytes is.0 why is.1 refused
form_or_refusal bytes form refusal is (forms.no_form o q outlined refused) =
    parts_not_refused o form q (subst (λ p. IsFormOf p form) (outlines_same bytes is.0 o is.1 outlined) is.2) refused
