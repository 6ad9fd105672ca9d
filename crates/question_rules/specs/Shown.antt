-- Which fields are shown: those whose parent is shown or is no field, and whose relevance is absent or holds.
use Rattle.std.specs.Prelude.{ℕ, Bool, true, ◌&&◌, ◌≡◌, List, length, slice_get, Option, Some, None}
use Rattle.field_text.specs.Tables.{NamedTable}
use Rattle.form_def.specs.declared.field.Field.{Field}
use Rattle.form_def.specs.declared.form.FormDef.{FormDef}
use Rattle.form_def.specs.Fields.{parent_of}
use Rattle.form_def.specs.Order.{is_marked}
use Rattle.expr_values.specs.Evaluation.{text_read}
use Rattle.question_rules.specs.Fields.{holds_or}

abbrev pub is_parent_shown : List Bool → Option ℕ → Bool
is_parent_shown marks None = true
is_parent_shown marks (Some parent) = is_marked marks parent

abbrev pub is_shown_by : FormDef → List NamedTable → List (List ℕ) → List Bool → ℕ → Field → Bool
is_shown_by form tables texts marks number field = is_parent_shown marks (parent_of form.fields field.path)
    && holds_or true form tables texts marks number field.relevant

-- a mark for each field, each of which is right where all of them are read
abbrev pub IsShown : FormDef → List NamedTable → List (List ℕ) → List Bool → Type 0
IsShown form tables texts marks = (length marks ≡ length form.fields)
    × ((number : ℕ) (field : Field) → slice_get form.fields number ≡ Some field
    → is_marked marks number ≡ is_shown_by form tables texts marks number field)

-- whether the field of a number is shown
abbrev pub IsShownAt : FormDef → List NamedTable → List (List ℕ) → ℕ → Bool → Type 0
IsShownAt form tables texts number shown = (marks : List Bool) × IsShown form tables texts marks
    × (shown ≡ is_marked marks number)

-- the text of the field of a number as expressions read it
abbrev pub ReadsAs : FormDef → List NamedTable → List (List ℕ) → ℕ → List ℕ → Type 0
ReadsAs form tables texts number text = (marks : List Bool) × IsShown form tables texts marks
    × (text ≡ text_read texts marks number)
