-- The first fault is that of the least field that has one.
use Rattle.std.specs.Prelude.{ℕ, suc, ◌+◌, ◌-◌, ◌≡◌, Bool, List, [], ◌∷◌, slice_get, Option, Some, None, refl}
use Rattle.std.proofs.Common.{ap, sym, ◌∙◌, arith}
use Rattle.std.proofs.lemmas.Bool.{cases_lt}
use Rattle.std.proofs.lemmas.Option.{same_Some}
use Rattle.std.proofs.Common.{inl, inr}
use Rattle.field_text.specs.Tables.{NamedTable}
use Rattle.form_def.specs.declared.field.Field.{Field}
use Rattle.form_def.specs.declared.form.FormDef.{FormDef}
use Rattle.question_rules.specs.declared.faults.Cause.{Cause}
use Rattle.question_rules.specs.Along.{shown_marks}
use Rattle.question_rules.specs.Faults.{fault_at, fault_or, fault_from, first_fault_of, NoneBelow, IsLeastFault}

-- these are the fields of a form from a number on
abbrev AreFrom : FormDef → ℕ → List Field → Type 0
AreFrom form number fields = (k : ℕ) → slice_get form.fields (number + k) ≡ slice_get fields k

first_there : (form : FormDef) (number : ℕ) (field : Field) (fields : List Field) → AreFrom form number (field ∷ fields)
    → slice_get form.fields number ≡ Some field
first_there form number field fields from =
    let same : number ≡ number + 0 = omega arith in ap (slice_get form.fields) same ∙ from 0

others_there : (form : FormDef) (number : ℕ) (field : Field) (fields : List Field) → AreFrom form number (field ∷ fields)
    → AreFrom form (number + 1) fields
others_there form number field fields from k =
    let same : number + 1 + k ≡ number + suc k = omega arith in ap (slice_get form.fields) same ∙ from (suc k)

none_at_last : (form : FormDef) (tables : List NamedTable) (texts : List (List ℕ)) (marks : List Bool) (number : ℕ) → AreFrom form number []
    → NoneBelow form tables texts marks number → (bound : ℕ) → NoneBelow form tables texts marks bound
none_at_last form tables texts marks number from below bound k field under at =
    elim (cases_lt k number) [
      | inl h ↦ below k field h at
      | inr h ↦ absurd (let same : number + (k - number) ≡ k = omega arith in
          let none : None ≡ Some field = sym (from (k - number)) ∙ ap (slice_get form.fields) same ∙ at in cc)
    ]

one_more_below : (form : FormDef) (tables : List NamedTable) (texts : List (List ℕ)) (marks : List Bool) (number : ℕ) (field : Field)
    → slice_get form.fields number ≡ Some field → fault_at form tables texts marks number field ≡ None
    → NoneBelow form tables texts marks number → NoneBelow form tables texts marks (number + 1)
one_more_below form tables texts marks number field here none below k other under at =
    elim (cases_lt k number) [
      | inl h ↦ below k other h at
      | inr h ↦ (
          let same : number ≡ k = omega arith in
          let alike : field ≡ other = same_Some field other (sym here ∙ ap (slice_get form.fields) same ∙ at) in
          ap (λ n. fault_at form tables texts marks n other) (sym same)
          ∙ ap (fault_at form tables texts marks number) (sym alike) ∙ none
          )
    ]

least_from : (form : FormDef) (tables : List NamedTable) (texts : List (List ℕ)) (marks : List Bool) (number : ℕ) (fields : List Field)
    → AreFrom form number fields → NoneBelow form tables texts marks number
    → IsLeastFault form tables texts marks (fault_from form tables texts marks number fields)
least_from form tables texts marks number [] from below = none_at_last form tables texts marks number from below
least_from form tables texts marks number (field ∷ fields) from below =
    least_by (fault_at form tables texts marks number field) refl
    (λ none. least_from form tables texts marks (number + 1) fields (others_there form number field fields from)
    (one_more_below form tables texts marks number field (first_there form number field fields from) none below))
  where
    least_by : (cause : Option Cause) → fault_at form tables texts marks number field ≡ cause
        → (fault_at form tables texts marks number field ≡ None → IsLeastFault form tables texts marks (fault_from form tables texts marks (number + 1) fields))
        → IsLeastFault form tables texts marks (fault_or field.path cause (fault_from form tables texts marks (number + 1) fields))
    least_by None is others = others is
    least_by (Some cause) is others = (number, field, first_there form number field fields from, refl, is, below)

pub least_fault : (form : FormDef) (tables : List NamedTable) (texts : List (List ℕ))
    → IsLeastFault form tables texts (shown_marks form tables texts) (first_fault_of form tables texts)
least_fault form tables texts =
    least_from form tables texts (shown_marks form tables texts) 0 form.fields
    (λ k. let same : 0 + k ≡ k = omega arith in ap (slice_get form.fields) same) (λ k field under at. absurd (omega arith))
