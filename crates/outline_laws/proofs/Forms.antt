-- A form is what its outline says, and is refused for its first cause.
use Rattle.std.specs.Prelude.{◌≡◌, ℕ, suc, List, [], ◌∷◌, ◌++◌, nat_lt, Bool, true, false, if◌then◌else◌, length, Option, Some, None, Result, Ok, Err, refl}
use Rattle.std.specs.List.{flat_map}
use Rattle.std.proofs.Common.{ap, sym, ◌∙◌, subst, arith}
use Rattle.form_def.specs.declared.form.FormDef.{FormDef}
use Rattle.form_def.specs.declared.parts.FormParts.{FormParts}
use Rattle.form_outline.specs.Outlines.{Outlines}
use Rattle.form_outline.specs.declared.outline.Outline.{Outline}
use Rattle.form_outline.specs.declared.outline.PrimaryField.{PrimaryField}
use Rattle.form_read.specs.Drafts.{all_taken, draft_of, empty_draft, most_fields, scope_of, taken_unless_many}
use Rattle.form_read.specs.Forms.{IsFormOf, fields_of}
use Rattle.form_read.specs.Lists.{is_empty}
use Rattle.form_read.specs.Primary.{nothing_seen, parts_taken}
use Rattle.form_read.specs.Slots.{outside_meta, slots_of}
use Rattle.form_read.specs.declared.draft.Asked.{Asked}
use Rattle.form_read.specs.declared.draft.Bound.{Bound}
use Rattle.form_read.specs.declared.draft.Draft.{Draft}
use Rattle.form_read.specs.declared.primary.Seen.{Seen}
use Rattle.form_read.specs.declared.refusal.FormRefused.{FormRefused}
use Rattle.form_read.specs.declared.refusal.FormRefused.TheVariants.{NoId, TooManyFields}
use Rattle.form_read.proofs.DifferLemmas.{model_has_primary, primary_was_taken, taken_if}
use Rattle.outline_laws.specs.Causes.{refusal_in}
use Rattle.outline_laws.specs.FirstRefusals.{first_refusal}
use Rattle.outline_laws.specs.FormFields.{FormSays, in_meta}
use Rattle.outline_laws.proofs.Drafting.{fields_say, refused_first, says_all, tables_say}
use Rattle.outline_laws.proofs.Entities.{meta_in_order}

was_taken : (bytes : List ℕ) (o : Outline) (d : Draft) → Outlines bytes o → draft_of o ≡ Ok d
    → (seen : Seen) × (parts_taken o.root nothing_seen o.primary ≡ Ok seen)
unfolding draft_of
was_taken bytes o d outlined is =
    let with_id = taken_if (is_empty o.id) NoId (taken_unless_many o (scope_of o)) d is in
    let few = taken_if (nat_lt most_fields (length (scope_of o).slots)) (TooManyFields (length (scope_of o).slots))
    (all_taken o.body_first (scope_of o) o.primary o.controls (empty_draft (scope_of o).slots)) d with_id.1 in
    primary_was_taken o.body_first (scope_of o) o.primary o.controls (empty_draft (scope_of o).slots) d (model_has_primary bytes o outlined) few.1

count_of : (ss : List PrimaryField) (bs : List (Option Bound)) (answers : List (Option Asked)) → length bs ≡ length ss → length answers ≡ length ss
    → length (fields_of ss bs answers) ≡ length ss
count_of [] bs answers b a = refl
count_of (s ∷ ss) [] answers b a = absurd (cc (b))
count_of (s ∷ ss) (x ∷ bs) [] b a = absurd (cc (a))
count_of (s ∷ ss) (x ∷ bs) (y ∷ answers) b a = ap (λ n. suc n) (count_of ss bs answers (omega (arith, b)) (omega (arith, a)))

pub form_says : (bytes : List ℕ) (o : Outline) (form : FormDef) → Outlines bytes o → IsFormOf o form → FormSays o form
form_says bytes o form outlined h =
    let taken = was_taken bytes o h.draft outlined h.drafted in
    let all = says_all o h.draft h.drafted in
    record {
      elements = ap (λ fs. flat_map outside_meta o.primary ++ fs) (meta_in_order o.root o.primary nothing_seen taken.0 taken.1);
      count = ap (λ (parts : FormParts). length parts.fields) h.parts ∙ count_of (slots_of o.primary) h.draft.bounds h.draft.asked all.binds.count all.asked.count;
      fields = fields_say o form h;
      tables = tables_say o form h;
    }

of_refusal : (r : Result Draft FormRefused) (why : FormRefused) → refusal_in r ≡ Some why → r ≡ Err why
of_refusal (Ok d) why is = absurd (cc (is))
of_refusal (Err other) why is = let same : other ≡ why = cc in ap (λ (w : FormRefused). Err w) same

pub refused_for : (o : Outline) (why : FormRefused) → draft_of o ≡ Err why → first_refusal o ≡ Some why
refused_for o why is = sym (refused_first o) ∙ ap (λ r. refusal_in r) is

pub is_refused : (o : Outline) (why : FormRefused) → first_refusal o ≡ Some why → draft_of o ≡ Err why
is_refused o why is = of_refusal (draft_of o) why (refused_first o ∙ is)
