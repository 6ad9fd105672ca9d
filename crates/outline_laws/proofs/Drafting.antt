-- What the parts of a document make of a form, and what it is refused for.
use Rattle.std.specs.Prelude.{◌≡◌, ℕ, zero, suc, ◌<◌, Bool, true, false, nat_lt, if◌then◌else◌, List, [], ◌∷◌, ◌++◌, find, length, map, Option, Some, None, Result, Ok, Err, slice_get, refl}
use Rattle.std.specs.List.{slice_index_or}
use Rattle.std.specs.Str.{bytes_eq}
use Rattle.std.proofs.Common.{ap, sym, ◌∙◌, subst, arith}
use Rattle.std.proofs.Math.ListN.{get_or}
use Rattle.std.proofs.lemmas.List.{length-map}
use Rattle.form_expr.proofs.Complete.{same_bytes}
use Rattle.form_def.specs.declared.field.Field.{Field}
use Rattle.form_def.specs.declared.form.FormDef.{FormDef}
use Rattle.form_def.specs.declared.parts.FormParts.{FormParts}
use Rattle.form_outline.specs.declared.outline.Control.{Control}
use Rattle.form_outline.specs.declared.outline.Outline.{Outline}
use Rattle.form_outline.specs.declared.outline.PrimaryField.{PrimaryField}
use Rattle.form_outline.specs.declared.outline.PrimaryPart.{PrimaryPart}
use Rattle.form_read.specs.Drafts.{all_taken, body_first, controls_taken, draft_of, empty_draft, head_first, model_taken, most_fields, scope_of, taken_unless_many}
use Rattle.form_read.specs.Forms.{IsFormOf, field_of, fields_of}
use Rattle.form_read.specs.Lists.{is_empty}
use Rattle.form_read.specs.Refusals.{◌>>=◌}
use Rattle.form_read.specs.Slots.{slot_of, slots_of}
use Rattle.form_read.specs.declared.draft.Asked.{Asked}
use Rattle.form_read.specs.declared.draft.Bound.{Bound}
use Rattle.form_read.specs.declared.draft.Draft.{Draft}
use Rattle.form_read.specs.declared.refusal.FormRefused.{FormRefused}
use Rattle.form_read.specs.declared.refusal.FormRefused.TheVariants.{NoId, TooManyFields}
use Rattle.form_read.specs.declared.scope.Scope.{Scope}
use Rattle.outline_laws.specs.Causes.{causes, first_cause, refusal_in}
use Rattle.outline_laws.specs.FirstBinds.{BindsSay, unbound}
use Rattle.outline_laws.specs.FirstControls.{ControlsSay, control_cause, unasked}
use Rattle.outline_laws.specs.FirstRefusals.{cause_of_parts, control_causes, document_causes, first_refusal, model_cause, model_causes}
use Rattle.outline_laws.specs.FirstTables.{TablesSay, is_inner_of, is_outer_of, unknown}
use Rattle.outline_laws.specs.FormFields.{FieldSays, FieldsSay, FormTablesSay}
use Rattle.outline_laws.proofs.Asking.{AreAsked, IsAsked, but_asked, controls_folded}
use Rattle.outline_laws.proofs.Binding.{AreBound, found_at}
use Rattle.outline_laws.proofs.Folding.{Folded, first_both, first_front}
use Rattle.outline_laws.proofs.Models.{IsModel, model_folded}
use Rattle.outline_laws.proofs.Tabling.{AreTables}

-- ---- before the first part

abbrev nothing : {A B : Type 0} → A → Option B
nothing x = None

none_at : {A B : Type 0} (xs : List A) (n : ℕ) → slice_index_or (map (nothing {A = A} {B = B}) xs) n None ≡ None
none_at [] n = refl
none_at (x ∷ xs) zero = refl
none_at (x ∷ xs) (suc n) = none_at xs n

none_bound : (scope : Scope) → AreBound scope [] (empty_draft scope.slots).bounds
none_bound scope = record {
  count = length-map scope.slots (nothing {B = Bound});
  say = λ path n is. subst (BindsSay scope [] path) (sym (none_at scope.slots n)) (unbound refl);
}

none_asked : (scope : Scope) → AreAsked scope [] (empty_draft scope.slots).asked
none_asked scope = record {
  count = length-map scope.slots (nothing {B = Asked});
  say = λ n. subst (ControlsSay scope [] n) (sym (none_at scope.slots n)) (unasked refl);
}

-- ---- behind all parts

pub record SaysAll (scope : Scope) (controls : List Control) (d : Draft) : Type 0 where
  pub binds : AreBound scope scope.model d.bounds
  pub tables : AreTables scope.model d.inner d.outer
  pub asked : AreAsked scope controls d.asked

module _ (o : Outline) where
  abbrev scope : Scope
  scope = scope_of o

  -- what all parts have given, by these causes
  abbrev Drafts : Option FormRefused → Result Draft FormRefused → Type 0
  Drafts cause (Ok d) = (cause ≡ None) × SaysAll scope o.controls d
  Drafts cause (Err why) = cause ≡ Some why

  -- the head first
  module _ (first : Draft) (bound : AreBound scope [] first.bounds) (tables : AreTables [] first.inner first.outer) (asked : AreAsked scope [] first.asked) where
    model_here : (d : Draft) → but_asked d ≡ but_asked first → IsModel scope d.asked [] d
    model_here d same = record {
      binds = subst (AreBound scope []) (sym (ap (λ x. x.bounds) same)) bound;
      tables = subst (λ i. AreTables [] i d.outer) (sym (ap (λ x. x.inner) same)) (subst (AreTables [] first.inner) (sym (ap (λ x. x.outer) same)) tables);
      asked = refl;
    }

    controls_last : (next : Draft) → first_cause (model_causes o) ≡ None → IsModel scope first.asked o.model next → (r : Result Draft FormRefused)
        → Folded (IsAsked scope next) (control_cause scope) [] o.controls r → Drafts (first_cause (model_causes o ++ control_causes o)) r
    controls_last next none model (Ok d) h = (
      first_both (model_causes o) (control_causes o) none ∙ h.0,
      record {
        binds = subst (AreBound scope o.model) (sym (ap (λ x. x.bounds) h.1.others)) model.binds;
        tables = subst (λ i. AreTables o.model i d.outer) (sym (ap (λ x. x.inner) h.1.others)) (subst (AreTables o.model next.inner) (sym (ap (λ x. x.outer) h.1.others)) model.tables);
        asked = h.1.asked;
      },
    )
    controls_last next none model (Err why) h = first_both (model_causes o) (control_causes o) none ∙ h

    head_drafts : Drafts (first_cause (model_causes o ++ control_causes o)) (head_first scope o.primary o.controls first)
    unfolding head_first
    head_drafts = by (model_taken scope o.primary first scope.model) (model_folded scope o.primary first o.model (record { binds = bound; tables = tables; asked = refl }))
      where
        by : (r : Result Draft FormRefused) → Folded (IsModel scope first.asked) (model_cause scope o.primary) [] o.model r
            → Drafts (first_cause (model_causes o ++ control_causes o)) (r >>= λ next. controls_taken scope next o.controls)
        by (Ok next) h = controls_last next h.0 h.1 (controls_taken scope next o.controls)
            (controls_folded scope next o.controls (subst (AreAsked scope []) (sym h.1.asked) asked))
        by (Err why) h = first_front (model_causes o) (control_causes o) why h

    model_last : (next : Draft) → first_cause (control_causes o) ≡ None → IsAsked scope first o.controls next → (r : Result Draft FormRefused)
        → Folded (IsModel scope next.asked) (model_cause scope o.primary) [] o.model r → Drafts (first_cause (control_causes o ++ model_causes o)) r
    model_last next none answered (Ok d) h = (
      first_both (control_causes o) (model_causes o) none ∙ h.0,
      record { binds = h.1.binds; tables = h.1.tables; asked = subst (AreAsked scope o.controls) (sym h.1.asked) answered.asked },
    )
    model_last next none answered (Err why) h = first_both (control_causes o) (model_causes o) none ∙ h

    body_drafts : Drafts (first_cause (control_causes o ++ model_causes o)) (body_first scope o.primary o.controls first)
    unfolding body_first
    body_drafts = by (controls_taken scope first o.controls) (controls_folded scope first o.controls asked)
      where
        by : (r : Result Draft FormRefused) → Folded (IsAsked scope first) (control_cause scope) [] o.controls r
            → Drafts (first_cause (control_causes o ++ model_causes o)) (r >>= λ next. model_taken scope o.primary next scope.model)
        by (Ok next) h = model_last next h.0 h.1 (model_taken scope o.primary next scope.model) (model_folded scope o.primary next o.model (model_here next h.1.others))
        by (Err why) h = first_front (control_causes o) (model_causes o) why h

  all_drafts : Drafts (first_cause (document_causes o)) (all_taken o.body_first scope o.primary o.controls (empty_draft scope.slots))
  all_drafts = by o.body_first
    where
      by : (b : Bool) → Drafts (first_cause (if b then control_causes o ++ model_causes o else model_causes o ++ control_causes o)) (all_taken b scope o.primary o.controls (empty_draft scope.slots))
      by true = body_drafts (empty_draft scope.slots) (none_bound scope) (λ id. unknown refl) (none_asked scope)
      by false = head_drafts (empty_draft scope.slots) (none_bound scope) (λ id. unknown refl) (none_asked scope)

  unless_many : Drafts (cause_of_parts o) (taken_unless_many o scope)
  unless_many = by (nat_lt most_fields (length scope.slots))
    where
      by : (b : Bool) → Drafts (if b then Some (TooManyFields (length scope.slots)) else first_cause (document_causes o))
          (if b then Err (TooManyFields (length scope.slots)) else all_taken o.body_first scope o.primary o.controls (empty_draft scope.slots))
      by true = refl
      by false = all_drafts

  drafts : Drafts (first_refusal o) (draft_of o)
  unfolding draft_of
  drafts = by (is_empty o.id)
    where
      by : (b : Bool) → Drafts (if b then Some NoId else cause_of_parts o) (if b then Err NoId else taken_unless_many o scope)
      by true = refl
      by false = unless_many

  -- an outline is refused for its first cause
  pub refused_first : refusal_in (draft_of o) ≡ first_refusal o
  refused_first = by (draft_of o) drafts
    where
      by : (r : Result Draft FormRefused) → Drafts (first_refusal o) r → refusal_in r ≡ first_refusal o
      by (Ok d) h = sym h.0
      by (Err why) h = sym h

  pub says_all : (d : Draft) → draft_of o ≡ Ok d → SaysAll scope o.controls d
  says_all d is = (subst (Drafts (first_refusal o)) is drafts).1

-- ---- the fields of a form

nowhere : PrimaryField
nowhere = record { path = []; initial = []; is_group = false }

get_at : {A : Type 0} (xs : List A) (n : ℕ) (d : A) → n < length xs → slice_get xs n ≡ Some (get_or xs n d)
get_at [] n d less = absurd (let e : n < 0 = less in omega arith)
get_at (x ∷ xs) zero d less = refl
get_at (x ∷ xs) (suc n) d less = get_at xs n d (let e : suc n < suc (length xs) = less in omega arith)

field_at : (ss : List PrimaryField) (bs : List (Option Bound)) (answers : List (Option Asked)) (n : ℕ) (s : PrimaryField)
    → slice_get ss n ≡ Some s → length bs ≡ length ss → length answers ≡ length ss
    → slice_get (fields_of ss bs answers) n ≡ Some (field_of s (slice_index_or bs n None) (slice_index_or answers n None))
field_at [] bs answers n s is count_b count_a = absurd (cc (is))
field_at (x ∷ ss) [] answers n s is count_b count_a = absurd (cc (count_b))
field_at (x ∷ ss) (b ∷ bs) [] n s is count_b count_a = absurd (cc (count_a))
field_at (x ∷ ss) (b ∷ bs) (a ∷ answers) zero s is count_b count_a = let same : x ≡ s = cc in ap (λ y. Some (field_of y b a)) same
field_at (x ∷ ss) (b ∷ bs) (a ∷ answers) (suc n) s is count_b count_a = field_at ss bs answers n s is (omega (arith, count_b)) (omega (arith, count_a))

module _ (o : Outline) (form : FormDef) (h : IsFormOf o form) where
  pub fields_say : FieldsSay o form
  fields_say path n at =
      let all = says_all o h.draft h.drafted in
      let found = found_at (λ s. bytes_eq s.path path) (slots_of o.primary) n nowhere at in
      let element = get_or (slots_of o.primary) n nowhere in
      let stands : slice_get (slots_of o.primary) n ≡ Some element = get_at (slots_of o.primary) n nowhere found.0 in
      record {
        element = element;
        bound = slice_index_or h.draft.bounds n None;
        asked = slice_index_or h.draft.asked n None;
        stands = stands;
        binds = subst (λ p. BindsSay (scope_of o) o.model p (slice_index_or h.draft.bounds n None)) (sym (same_bytes element.path path found.1)) (all.binds.say path n at);
        controls = all.asked.say n;
        field = ap (λ (parts : FormParts). slice_get parts.fields n) h.parts
            ∙ field_at (slots_of o.primary) h.draft.bounds h.draft.asked n element stands all.binds.count all.asked.count;
      }

  pub tables_say : FormTablesSay o form
  tables_say id =
      let all = says_all o h.draft h.drafted in
      subst (λ i. TablesSay o.model id (find (is_inner_of id) i) (find (is_outer_of id) form.outer)) (sym (ap (λ (parts : FormParts). parts.inner) h.parts))
      (subst (λ i. TablesSay o.model id (find (is_inner_of id) h.draft.inner) (find (is_outer_of id) i)) (sym (ap (λ (parts : FormParts). parts.outer) h.parts)) (all.tables id))
