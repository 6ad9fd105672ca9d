-- A document's tree is read, or its refusal told; and bytes are read in one way.
use Rattle.std.specs.Prelude.{◌≡◌, ℕ, List, Result, Ok, Err}
use Rattle.std.proofs.Common.{◌⊎◌, inl, inr, refl, subst, ap}
use Rattle.rosa_doc.specs.declared.tree.Doc.{Doc}
use Rattle.rosa_doc.specs.declared.tree.Element.{Element}
use Rattle.rosa_doc.specs.declared.refusal.DocRefused.{DocRefused}
use Rattle.rosa_doc.specs.declared.refusal.DocRefused.TheVariants as doc
use Rattle.rosa_doc.specs.Refusals.{IsDoc, Refuses}
use Rattle.rosa_doc.specs.Refusals.{ReadsAs as DocReadsAs}
use Rattle.rosa_doc.proofs.OneReading.{one_reading}
use Rattle.rosa_doc.proofs.AllReadings.{all_read}
use Rattle.form_list.specs.declared.refusal.ListRefused.{ListRefused}
use Rattle.form_list.specs.declared.refusal.ListRefused.TheVariants as refusals
use Rattle.form_list.specs.Lists.{Gives, Reads, ReadsAs, no_document, refused, tree}

pub tree_read : {A : Type 0} (of_root : Element → Result (List A) ListRefused) (bytes : List ℕ) (d : Doc) (r : Result (List A) ListRefused)
    → IsDoc bytes d → Gives r (of_root d.root) → Reads of_root bytes r
tree_read of_root bytes d (Ok items) is gives = subst (ReadsAs of_root bytes) gives (tree d is)
tree_read of_root bytes d (Err fault) is (inl none) = inl none
tree_read of_root bytes d (Err fault) is (inr wanted) = inr (subst (ReadsAs of_root bytes) wanted (tree d is))

pub refusal_read : {A : Type 0} (of_root : Element → Result (List A) ListRefused) (bytes : List ℕ) (refusal : DocRefused)
    → Refuses bytes refusal → (refused refusal ≡ refusals.NoMemory) ⊎ ReadsAs of_root bytes (Err (refused refusal))
refusal_read of_root bytes (doc.NotUtf8 at) h = inr (no_document (doc.NotUtf8 at) (h, λ (e : doc.NotUtf8 at ≡ doc.NoMemory). absurd cc))
refusal_read of_root bytes (doc.BadMarkup at) h = inr (no_document (doc.BadMarkup at) (h, λ (e : doc.BadMarkup at ≡ doc.NoMemory). absurd cc))
refusal_read of_root bytes (doc.Unclosed at) h = inr (no_document (doc.Unclosed at) (h, λ (e : doc.Unclosed at ≡ doc.NoMemory). absurd cc))
refusal_read of_root bytes (doc.TooDeep at) h = inr (no_document (doc.TooDeep at) (h, λ (e : doc.TooDeep at ≡ doc.NoMemory). absurd cc))
refusal_read of_root bytes (doc.TooLong long) h = inr (no_document (doc.TooLong long) (h, λ (e : doc.TooLong long ≡ doc.NoMemory). absurd cc))
refusal_read of_root bytes (doc.HasDoctype at) h = inr (no_document (doc.HasDoctype at) (h, λ (e : doc.HasDoctype at ≡ doc.NoMemory). absurd cc))
refusal_read of_root bytes doc.NoMemory h = inl refl

-- ---- one reading

same_ok : {A E : Type 0} {x y : A} → ◌≡◌ {A = Result A E} (Ok x) (Ok y) → x ≡ y
same_ok is = cc

same_err : {A E : Type 0} {x y : E} → ◌≡◌ {A = Result A E} (Err x) (Err y) → x ≡ y
same_err is = cc

ok_err : {A E : Type 0} {x : A} {q : E} → ◌≡◌ {A = Result A E} (Ok x) (Err q) → ⊥
ok_err is = cc

pub one_list : {A : Type 0} (of_root : Element → Result (List A) ListRefused) (bytes : List ℕ) (a b : Result (List A) ListRefused)
    → ReadsAs of_root bytes a → ReadsAs of_root bytes b → a ≡ b
one_list of_root bytes a b (tree d is) (tree e are) = ap (λ (x : Doc). of_root x.root) (same_ok (one_reading bytes (Ok d) (Ok e) is are))
one_list of_root bytes a b (tree d is) (no_document refusal refused) = absurd (ok_err (one_reading bytes (Ok d) (Err refusal) is refused))
one_list of_root bytes a b (no_document refusal refused) (tree d is) = absurd (ok_err (one_reading bytes (Ok d) (Err refusal) is refused))
one_list of_root bytes a b (no_document p is) (no_document q are) = ap (λ (x : DocRefused). Err (refusals.Doc x)) (same_err (one_reading bytes (Err p) (Err q) is are))

read_of : {A : Type 0} (of_root : Element → Result (List A) ListRefused) (bytes : List ℕ) (r : Result Doc DocRefused)
    → DocReadsAs bytes r → (x : Result (List A) ListRefused) × ReadsAs of_root bytes x
read_of of_root bytes (Ok d) is = (of_root d.root, tree d is)
read_of of_root bytes (Err refusal) is = (Err (refusals.Doc refusal), no_document refusal is)

pub all_lists : {A : Type 0} (of_root : Element → Result (List A) ListRefused) (bytes : List ℕ) → (x : Result (List A) ListRefused) × ReadsAs of_root bytes x
all_lists of_root bytes = let r = all_read bytes in read_of of_root bytes r.0 r.1
