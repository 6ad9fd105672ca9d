-- Bytes that are refused are refused for one cause.
use Rattle.std.specs.Prelude.{◌≡◌, ◌≢◌, ℕ, List, Option, Some, None, Result, Ok, Err, option_map, slice_get, refl}
use Rattle.std.proofs.Common.{inl, inr, ap, sym, ◌∙◌, subst, arith}
use Rattle.std.proofs.lemmas.Bool.{cases_lt}
use Rattle.rosa_doc.specs.declared.tree.Doc.{Doc}
use Rattle.rosa_doc.specs.declared.refusal.DocRefused.{DocRefused}
use Rattle.rosa_doc.specs.declared.refusal.DocRefused.TheVariants as doc
use Rattle.rosa_doc.specs.Refusals.{ReadsAs as DocReadsAs}
use Rattle.rosa_doc.proofs.OneReading.{one_reading}
use Rattle.form_def.specs.declared.field.Field.{Field}
use Rattle.form_order.specs.Cycles.{IsFirstCycle}
use Rattle.form_outline.specs.declared.outline.Outline.{Outline}
use Rattle.form_outline.specs.declared.reading.OutlineFault.{OutlineFault}
use Rattle.form_outline.specs.declared.reading.OutlineFault.TheVariants as fault
use Rattle.form_outline.specs.Outlines.{outline_of, Outlines, Refuses as RefusesOutline}
use Rattle.form_read.specs.declared.refusal.FormRefused.{FormRefused}
use Rattle.form_read.specs.declared.refusal.FormRefused.TheVariants.{NoPrimary, Cycle, NoMemory}
use Rattle.form_read.specs.declared.draft.Draft.{Draft}
use Rattle.form_read.specs.Refusals.{◌>>=◌}
use Rattle.form_read.specs.Drafts.{draft_of}
use Rattle.form_read.specs.Forms.{fields_in, IsCycle, RefusesParts, doc_refusal, refusal_of, Refuses}
use Rattle.form_read.specs.Forms as forms

abbrev given : Option Outline → Result Outline FormRefused
given None = Err NoPrimary
given (Some o) = Ok o

-- what a reading of the bytes as a document comes to
abbrev outlined : Result Doc DocRefused → Result Outline FormRefused
outlined (Ok d) = given (outline_of d.root)
outlined (Err refusal) = Err (doc_refusal refusal)

abbrev drafted : Result Doc DocRefused → Result Draft FormRefused
drafted r = outlined r >>= draft_of

-- the two causes of a refusal
data Cause (bytes : List ℕ) (refusal : FormRefused) : Type 0 where
  early : (r : Result Doc DocRefused) → DocReadsAs bytes r → drafted r ≡ Err refusal → Cause bytes refusal
  late : (r : Result Doc DocRefused) (o : Outline) (d : Draft) (path : List ℕ) → DocReadsAs bytes r
      → outlined r ≡ Ok o → draft_of o ≡ Ok d → IsCycle (fields_in o d) path → refusal ≡ Cycle path
      → Cause bytes refusal

outline_cause : (bytes : List ℕ) (why : OutlineFault) → RefusesOutline bytes why → refusal_of why ≢ NoMemory
    → Cause bytes (refusal_of why)
outline_cause bytes (fault.Doc refusal) refused told =
    early (Err refusal) (refused, λ (same : refusal ≡ doc.NoMemory). told (ap doc_refusal same)) refl
outline_cause bytes fault.NoPrimary (d, is, none) told = early (Ok d) is (ap (λ o. given o >>= draft_of) none)
outline_cause bytes fault.NoMemory refused told = absurd (told refl)

parts_cause : (bytes : List ℕ) (o : Outline) (refusal : FormRefused) → Outlines bytes o → RefusesParts o refusal
    → refusal ≢ NoMemory → Cause bytes refusal
parts_cause bytes o refusal (d, is, some) (forms.by_part q refused) told =
    early (Ok d) is (ap (λ x. given x >>= draft_of) some ∙ refused)
parts_cause bytes o refusal (d, is, some) (forms.by_cycle draft path drafts cycle) told =
    late (Ok d) o draft path is (ap given some) drafts cycle refl
parts_cause bytes o refusal outlines forms.by_memory told = absurd (told refl)

cause_of : (bytes : List ℕ) (refusal : FormRefused) → Refuses bytes refusal → refusal ≢ NoMemory → Cause bytes refusal
cause_of bytes refusal (forms.no_outline why refused) told = outline_cause bytes why refused told
cause_of bytes refusal (forms.no_form o q outlines refused) told = parts_cause bytes o q outlines refused told

-- ---- two causes

same_ok : {A E : Type 0} {x y : A} → ◌≡◌ {A = Result A E} (Ok x) (Ok y) → x ≡ y
same_ok is = cc

same_err : {A E : Type 0} {x y : E} → ◌≡◌ {A = Result A E} (Err x) (Err y) → x ≡ y
same_err is = cc

ok_err : {A E : Type 0} {x : A} {q : E} → ◌≡◌ {A = Result A E} (Ok x) (Err q) → ⊥
ok_err is = cc

same_some : {A : Type 0} {x y : A} → Some x ≡ Some y → x ≡ y
same_some is = cc

-- the first number that leads to itself is one
same_first : (needs : ℕ → List ℕ) (count a b : ℕ) → IsFirstCycle needs count a → IsFirstCycle needs count b → a ≡ b
same_first needs count a b is are = elim (cases_lt a b) [
  | inl below ↦ absurd (are.2 a below is.1)
  | inr above ↦ elim (cases_lt b a) [
    | inl below ↦ absurd (is.2 b below are.1)
    | inr equal ↦ omega (arith, above, equal)
  ]
]

same_cycle : (fields : List Field) (p q : List ℕ) → IsCycle fields p → IsCycle fields q → p ≡ q
same_cycle fields p q is are =
    let same = same_first _ _ is.number are.number is.first are.first in
    same_some (sym is.path_is ∙ (ap (λ k. option_map (λ f. f.path) (slice_get fields k)) same ∙ are.path_is))

drafted_as : (r : Result Doc DocRefused) (o : Outline) (d : Draft) → outlined r ≡ Ok o → draft_of o ≡ Ok d
    → drafted r ≡ Ok d
drafted_as r o d is gives = ap (λ x. x >>= draft_of) is ∙ gives

early_late : (bytes : List ℕ) (r s : Result Doc DocRefused) (refusal : FormRefused) (o : Outline) (d : Draft)
    → DocReadsAs bytes r → DocReadsAs bytes s → drafted r ≡ Err refusal → outlined s ≡ Ok o → draft_of o ≡ Ok d → ⊥
early_late bytes r s refusal o d is are refused outlines drafts =
    ok_err (sym (drafted_as s o d outlines drafts) ∙ (ap drafted (one_reading bytes s r are is) ∙ refused))

late_late : (o p : Outline) (d e : Draft) (one other : List ℕ) → o ≡ p → draft_of o ≡ Ok d → draft_of p ≡ Ok e
    → IsCycle (fields_in o d) one → IsCycle (fields_in p e) other → one ≡ other
late_late o p d e one other same is are cycle again =
    let drafts : d ≡ e = same_ok (sym is ∙ (ap draft_of same ∙ are)) in
    let here = subst (λ x. IsCycle (fields_in p x) one) drafts (subst (λ x. IsCycle (fields_in x d) one) same cycle) in
    same_cycle (fields_in p e) one other here again

same_cause : (bytes : List ℕ) (a b : FormRefused) → Cause bytes a → Cause bytes b → a ≡ b
same_cause bytes a b (early r is refused) (early s are again) =
    same_err (sym refused ∙ (ap drafted (one_reading bytes r s is are) ∙ again))
same_cause bytes a b (early r is refused) (late s o d path are outlines drafts cycle e) =
    absurd (early_late bytes r s a o d is are refused outlines drafts)
same_cause bytes a b (late s o d path are outlines drafts cycle e) (early r is refused) =
    absurd (early_late bytes r s b o d is are refused outlines drafts)
same_cause bytes a b (late r o d one is outlines drafts cycle e) (late s p x other are too also again f) =
    let same = same_ok (sym outlines ∙ (ap outlined (one_reading bytes r s is are) ∙ too)) in
    e ∙ (ap Cycle (late_late o p d x one other same drafts also cycle again) ∙ sym f)

-- two refusals of the same bytes are one, but for want of memory
pub one_refusal : (bytes : List ℕ) (a b : FormRefused) → Refuses bytes a → a ≢ NoMemory → Refuses bytes b
    → b ≢ NoMemory → a ≡ b
one_refusal bytes a b is told are also = same_cause bytes a b (cause_of bytes a is told) (cause_of bytes b are also)
