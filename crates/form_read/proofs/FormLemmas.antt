-- From the parts of an outline to its form.
use Rattle.std.specs.Prelude.{◌≡◌, ℕ, true, false, nat_lt, List, length, Result, Ok, Err, refl}
use Rattle.std.specs.Prelude.{Contains, IfOk, IfErr, Some, option_map, slice_get}
use Rattle.std.proofs.Common.{ap, sym, ◌∙◌, subst}
use Rattle.form_def.specs.declared.form.FormDef.{FormDef}
use Rattle.form_def.specs.declared.parts.FormParts.{FormParts}
use Rattle.form_def.specs.FormDefs.{parts_of_form}
use Rattle.form_def.specs.declared.field.Field.{Field}
use Rattle.form_def.specs.Order.{is_order, dependencies_at}
use Rattle.form_order.specs.Cycles.{NoCycle, IsFirstCycle}
use Rattle.form_def.specs.Fields.{are_within}
use Rattle.form_outline.specs.declared.outline.PrimaryField.{PrimaryField}
use Rattle.form_outline.specs.declared.outline.Outline.{Outline}
use Rattle.form_outline.specs.declared.outline.ModelPart.TheVariants as part
use Rattle.form_outline.specs.Names.{IsNamed}
use Rattle.form_read.specs.declared.refusal.FormRefused.{FormRefused}
use Rattle.form_read.specs.declared.refusal.FormRefused.TheVariants.{Doc, NoPrimary, NoId, BadExpr, UnknownPath, UnknownControl, UnknownType, Cycle, UnknownList, TooManyFields, BadEntity, NoMemory}
use Rattle.form_read.specs.declared.draft.Draft.{Draft}
use Rattle.form_read.specs.declared.draft.Drafted.{Drafted}
use Rattle.form_read.specs.Lists.{is_empty}
use Rattle.form_read.specs.Refusals.{Tells, ◌>>=◌}
use Rattle.form_read.specs.Slots.{slots_of}
use Rattle.form_read.specs.Drafts.{empty_draft, all_taken, most_fields, scope_of, draft_of}
use Rattle.form_read.specs.Forms.{drafted_by, drafted, fields_drafted, parts_drafted, parts_of, fields_in, IsFormOf, IsSound, HasNoOrder, RefusesParts, Refuses}
use Rattle.form_read.specs.Forms as forms
use Rattle.form_read.proofs.TellingLemmas.{tells_alike}
use Rattle.form_read.proofs.DifferLemmas.{slots_named, fields_named, slots_differ, fields_differ, primary_was_taken, taken_if}
use Rattle.form_read.proofs.DraftWithinLemmas.{draft_within}

drafted_with : (o : Outline) (r : FormRefused) → is_empty o.id ≡ false → nat_lt most_fields (length (slots_of o.primary)) ≡ false
    → all_taken o.body_first (scope_of o) o.primary o.controls (empty_draft (slots_of o.primary)) ≡ Err r → drafted o ≡ Err r
unfolding drafted draft_of
drafted_with o r named few refused = rw (named, few, refused) refl

drafted_if : (o : Outline) (slots : List PrimaryField) (r : FormRefused) → slots ≡ slots_of o.primary → is_empty o.id ≡ false → nat_lt most_fields (length slots) ≡ false
    → all_taken o.body_first (record { root = o.root; slots = slots; model = o.model }) o.primary o.controls (empty_draft slots) ≡ Err r → drafted o ≡ Err r
drafted_if o slots r is named few refused = drafted_with o r named (rw is at few) (rw is at refused)

-- a part is refused
pub drafted_refused : (o : Outline) (slots : List PrimaryField) (start : Draft) (q : FormRefused) → slots ≡ slots_of o.primary → start ≡ empty_draft slots → is_empty o.id ≡ false
    → nat_lt most_fields (length slots) ≡ false → Tells q (all_taken o.body_first (record { root = o.root; slots = slots; model = o.model }) o.primary o.controls start) → Tells q (drafted o)
drafted_refused o slots start q is start_is named few t =
    tells_alike q (all_taken o.body_first (record { root = o.root; slots = slots; model = o.model }) o.primary o.controls start) (drafted o)
    (λ r refused. drafted_if o slots r is named few (rw start_is at refused)) t

of_then : (o : Outline) (r : Result Draft FormRefused) (x : Drafted) → (r >>= λ d. Ok (drafted_by o d)) ≡ Ok x → (d : Draft) × (r ≡ Ok d) × (x ≡ drafted_by o d)
of_then o (Ok d) x is = (d, refl, cc)
of_then o (Err q) x is = absurd cc

pub drafted_is : (o : Outline) (x : Drafted) → drafted o ≡ Ok x → (d : Draft) × (draft_of o ≡ Ok d) × (x ≡ drafted_by o d)
unfolding drafted
drafted_is o x is = of_then o (draft_of o) x is

err_then : (o : Outline) (r : Result Draft FormRefused) (q : FormRefused) → (r >>= λ d. Ok (drafted_by o d)) ≡ Err q → r ≡ Err q
err_then o (Ok d) q is = absurd cc
err_then o (Err p) q is = cc

drafted_err : (o : Outline) (q : FormRefused) → drafted o ≡ Err q → draft_of o ≡ Err q
unfolding drafted
drafted_err o q is = err_then o (draft_of o) q is

pub refuses_part : (o : Outline) (q : FormRefused) → Tells q (drafted o) → RefusesParts o q
refuses_part o (Doc refusal) t = forms.by_part _ (drafted_err o _ t)
refuses_part o NoPrimary t = forms.by_part _ (drafted_err o _ t)
refuses_part o NoId t = forms.by_part _ (drafted_err o _ t)
refuses_part o (BadExpr path at) t = forms.by_part _ (drafted_err o _ t)
refuses_part o (UnknownPath path) t = forms.by_part _ (drafted_err o _ t)
refuses_part o (UnknownControl name) t = forms.by_part _ (drafted_err o _ t)
refuses_part o (UnknownType path) t = forms.by_part _ (drafted_err o _ t)
refuses_part o (Cycle path) t = forms.by_part _ (drafted_err o _ t)
refuses_part o (UnknownList name) t = forms.by_part _ (drafted_err o _ t)
refuses_part o (TooManyFields count) t = forms.by_part _ (drafted_err o _ t)
refuses_part o (BadEntity path) t = forms.by_part _ (drafted_err o _ t)
refuses_part o NoMemory t = forms.by_memory

no_order : (o : Outline) (d : Draft) (q : FormRefused) → draft_of o ≡ Ok d → HasNoOrder (fields_in o d) q → RefusesParts o q
no_order o d q is (forms.has_cycle path why) = forms.by_cycle d path is why
no_order o d q is forms.lacks_memory = forms.by_memory

-- the fields have no order
pub refuses_order : (o : Outline) (x : Drafted) (q : FormRefused) → drafted o ≡ Ok x → HasNoOrder (fields_drafted x) q → RefusesParts o q
refuses_order o x q is why = let h = drafted_is o x is in no_order o h.0 q h.1 (rw h.2 at why)

pub form_is : (o : Outline) (x : Drafted) (parts : FormParts) (form : FormDef) → drafted o ≡ Ok x → parts ≡ parts_drafted x parts.order → NoCycle (fields_drafted x) → parts_of_form form ≡ parts
    → IsFormOf o form
form_is o x parts form is parts_is no_cycle form_parts =
    let h = drafted_is o x is in
    record {
      draft = h.0;
      drafted = h.1;
      parts = form_parts ∙ (parts_is ∙ (ap (λ y. parts_drafted y parts.order) h.2 ∙ ap (λ order. parts_of o h.0 order) (sym (ap (λ p. p.order) form_parts))));
      no_cycle = subst (λ y. NoCycle (fields_drafted y)) h.2 no_cycle;
    }

all_were_taken : (o : Outline) (d : Draft) → draft_of o ≡ Ok d → all_taken o.body_first (scope_of o) o.primary o.controls (empty_draft (slots_of o.primary)) ≡ Ok d
unfolding draft_of
all_were_taken o d is =
    let h = taken_if (is_empty o.id) NoId _ _ is in (taken_if (nat_lt most_fields (length (scope_of o).slots)) (TooManyFields (length (scope_of o).slots)) _ _ h.1).1

sound_with : (o : Outline) (d : Draft) (order : List ℕ) → IsNamed o → Contains o.model part.Primary → draft_of o ≡ Ok d → is_order (fields_in o d) order ≡ true → IsSound (parts_drafted (drafted_by o d) order)
sound_with o d order named primary is ordered =
    let seen = primary_was_taken o.body_first (scope_of o) o.primary o.controls (empty_draft (slots_of o.primary)) d primary (all_were_taken o d is) in
    record {
      root_named = named.0;
      paths_named = fields_named o.root (slots_of o.primary) d.bounds d.asked (slots_named o named);
      paths_differ = fields_differ (slots_of o.primary) d.bounds d.asked (slots_differ o.root o.primary seen.0 seen.1);
      numbers_within = draft_within o d is;
      ordered = ordered;
    }

-- parts that are drafted lack nothing
pub sound : (o : Outline) (x : Drafted) (parts : FormParts) → IsNamed o → Contains o.model part.Primary → drafted o ≡ Ok x → parts ≡ parts_drafted x parts.order → is_order (fields_drafted x) parts.order ≡ true
    → IsSound parts
sound o x parts named primary is parts_are ordered =
    let h = drafted_is o x is in
    let g = sound_with o h.0 parts.order named primary h.1 (subst (λ y. is_order (fields_drafted y) parts.order ≡ true) h.2 ordered) in
    subst IsSound (sym (parts_are ∙ ap (λ y. parts_drafted y parts.order) h.2)) g

pub drafted_within : (o : Outline) (x : Drafted) → drafted o ≡ Ok x → are_within (length (fields_drafted x)) 0 (fields_drafted x) ≡ true
drafted_within o x is =
    let h = drafted_is o x is in
    subst (λ y. are_within (length (fields_drafted y)) 0 (fields_drafted y) ≡ true) (sym h.2) (draft_within o h.0 h.1)

pub if_err : {A E : Type 0} {P : E → Type 0} {Q : E → Type 0} (r : Result A E) → ((q : E) → P q → Q q) → IfErr r P → IfErr r Q
if_err (Ok x) f h = h
if_err (Err q) f h = f q h

pub if_ok : {A E : Type 0} {P : A → Type 0} {Q : A → Type 0} (r : Result A E) → ((x : A) → P x → Q x) → IfOk r P → IfOk r Q
if_ok (Ok x) f h = f x h
if_ok (Err q) f h = h

-- the first field that depends on itself is told by its path
pub cycle_told : (fields : List Field) (number : ℕ) (item : Field) (path : List ℕ) → IsFirstCycle (dependencies_at fields) (length fields) number → slice_get fields number ≡ Some item → path ≡ item.path
    → HasNoOrder fields (Cycle path)
cycle_told fields number item path first is path_is = forms.has_cycle path (record { number = number; first = first; path_is = ap (option_map (λ f. f.path)) is ∙ ap Some (sym path_is) })
