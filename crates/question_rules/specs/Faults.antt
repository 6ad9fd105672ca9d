-- The first fault of a sheet, in the order of the document.
use Rattle.std.specs.Prelude.{ℕ, ◌+◌, ◌<◌, ◌≡◌, Bool, true, false, if◌then◌else◌, List, [], ◌∷◌, slice_get, Option}
use Rattle.std.specs.Prelude.{Some, None}
use Rattle.field_text.specs.Tables.{NamedTable}
use Rattle.form_def.specs.declared.field.Field.{Field}
use Rattle.form_def.specs.declared.form.FormDef.{FormDef}
use Rattle.form_def.specs.Order.{is_marked}
use Rattle.expr_values.specs.Functions.{is_some_text}
use Rattle.question_rules.specs.declared.faults.Fault.{Fault}
use Rattle.question_rules.specs.declared.faults.Cause.{Cause}
use Rattle.question_rules.specs.declared.faults.Cause.TheVariants.{Required, Constraint}
use Rattle.question_rules.specs.Fields.{text_at, holds_or}
use Rattle.question_rules.specs.Shown.{IsShown}
use Rattle.question_rules.specs.Along.{shown_marks}

-- of a field that is shown: it is required and empty, or its constraint doesn't hold and it isn't empty
abbrev pub fault_at : FormDef → List NamedTable → List (List ℕ) → List Bool → ℕ → Field → Option Cause
fault_at form tables texts marks number field =
    if is_marked marks number then
    (if is_some_text (text_at texts number)
    then (if holds_or true form tables texts marks number field.constraint then None else Some Constraint)
    else (if holds_or false form tables texts marks number field.required then Some Required else None))
    else None

abbrev pub fault_or : List ℕ → Option Cause → Option Fault → Option Fault
fault_or path None others = others
fault_or path (Some cause) others = Some (record { path = path; cause = cause })

-- the first of the fields from a number on
abbrev pub fault_from : FormDef → List NamedTable → List (List ℕ) → List Bool → ℕ → List Field → Option Fault
fault_from form tables texts marks number [] = None
fault_from form tables texts marks number (field ∷ fields) = fault_or field.path
    (fault_at form tables texts marks number field) (fault_from form tables texts marks (number + 1) fields)

abbrev pub IsFirstFault : FormDef → List NamedTable → List (List ℕ) → Option Fault → Type 0
IsFirstFault form tables texts fault = (marks : List Bool) × IsShown form tables texts marks
    × (fault ≡ fault_from form tables texts marks 0 form.fields)

-- the first fault of a form's fields with these texts
abbrev pub first_fault_of : FormDef → List NamedTable → List (List ℕ) → Option Fault
first_fault_of form tables texts = fault_from form tables texts (shown_marks form tables texts) 0 form.fields

-- the fields of the numbers below a bound lack nothing
abbrev pub NoneBelow : FormDef → List NamedTable → List (List ℕ) → List Bool → ℕ → Type 0
NoneBelow form tables texts marks bound = (number : ℕ) (field : Field) → number < bound
    → slice_get form.fields number ≡ Some field
    → fault_at form tables texts marks number field ≡ None

-- this is what the field of the least number lacks that lacks something; no field does where there is none
abbrev pub IsLeastFault : FormDef → List NamedTable → List (List ℕ) → List Bool → Option Fault → Type 0
IsLeastFault form tables texts marks None = (bound : ℕ) → NoneBelow form tables texts marks bound
IsLeastFault form tables texts marks (Some fault) = (number : ℕ) × (field : Field)
    × (slice_get form.fields number ≡ Some field)
    × (fault.path ≡ field.path) × (fault_at form tables texts marks number field ≡ Some fault.cause)
    × NoneBelow form tables texts marks number
