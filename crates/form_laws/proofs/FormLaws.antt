-- What holds of the form of any bytes.
use Rattle.std.specs.Prelude.{◌≡◌, ◌≢◌, ℕ, List, Result, Ok, Err, refl}
use Rattle.std.proofs.Common.{ap, ◌∙◌, subst}
use Rattle.form_def.specs.declared.form.FormDef.{FormDef}
use Rattle.form_read.specs.declared.refusal.FormRefused.{FormRefused}
use Rattle.form_read.specs.declared.refusal.FormRefused.TheVariants.{NoMemory}
use Rattle.form_read.specs.Forms.{unordered, Describes, Refuses}
use Rattle.form_read.proofs.LawLemmas.{one_form, form_or_refusal}
use Rattle.question_rules.specs.Orders.{DifferInOrder}
use Rattle.form_laws.specs.Readings.{ReadsAs}
use Rattle.form_laws.specs.ReadingLaws.{all_read}
use Rattle.form_laws.specs.FormOf.{form_of}
use Rattle.form_laws.proofs.RefusalLemmas.{one_refusal}

pub reads : (bytes : List ℕ) → ReadsAs bytes (form_of bytes)
unfolding form_of
reads bytes = (all_read bytes).1

pub describes : (bytes : List ℕ) (form : FormDef) → form_of bytes ≡ Ok form → Describes bytes form
describes bytes form is = subst (ReadsAs bytes) is (reads bytes)

told : (bytes : List ℕ) (why : FormRefused) → form_of bytes ≡ Err why → Refuses bytes why × (why ≢ NoMemory)
told bytes why is = subst (ReadsAs bytes) is (reads bytes)

pub refuses : (bytes : List ℕ) (why : FormRefused) → form_of bytes ≡ Err why → Refuses bytes why
refuses bytes why is = (told bytes why is).0

pub never_starved : (bytes : List ℕ) → form_of bytes ≢ Err NoMemory
never_starved bytes is = (told bytes NoMemory is).1 refl

differ_in_order : (one other : FormDef) → unordered one ≡ unordered other → DifferInOrder one other
differ_in_order one other same = record {
  id = ap (λ x. x.id) same;
  version = ap (λ x. x.version) same;
  root = ap (λ x. x.root) same;
  fields = ap (λ x. x.fields) same;
  inner = ap (λ x. x.inner) same;
  outer = ap (λ x. x.outer) same;
  entity = ap (λ x. x.entity) same;
  auto_send = ap (λ x. x.auto_send) same;
}

pub described : (bytes : List ℕ) (form : FormDef) → Describes bytes form
    → (f : FormDef) × (form_of bytes ≡ Ok f) × DifferInOrder f form
described bytes form is = by (form_of bytes) refl
  where
    by : (r : Result FormDef FormRefused) → form_of bytes ≡ r
        → (f : FormDef) × (form_of bytes ≡ Ok f) × DifferInOrder f form
    by (Ok f) same = (f, same, differ_in_order f form (one_form bytes f form (describes bytes f same) is))
    by (Err why) same =
        let (refused, memory) = told bytes why same in absurd (memory (form_or_refusal bytes form why is refused))

pub refused : (bytes : List ℕ) (why : FormRefused) → Refuses bytes why → why ≢ NoMemory → form_of bytes ≡ Err why
refused bytes why is memory = by (form_of bytes) refl
  where
    by : (r : Result FormDef FormRefused) → form_of bytes ≡ r → form_of bytes ≡ Err why
    by (Ok f) same = absurd (memory (form_or_refusal bytes f why (describes bytes f same) is))
    by (Err other) same =
        let (here, also) = told bytes other same in
        same ∙ ap (λ (q : FormRefused). Err q) (one_refusal bytes other why here also is memory)
