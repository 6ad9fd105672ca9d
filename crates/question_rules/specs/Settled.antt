-- Settled texts: each calculated field has the text of its value, read with these very texts, and each other field
-- keeps its own.
use Rattle.std.specs.Prelude.{ℕ, Bool, ◌≡◌, List, length, slice_get, Option, Some, None}
use Rattle.field_text.specs.Tables.{NamedTable}
use Rattle.form_def.specs.declared.expr.Expr.{Expr}
use Rattle.form_def.specs.declared.field.Field.{Field}
use Rattle.form_def.specs.declared.form.FormDef.{FormDef}
use Rattle.expr_values.specs.Values.{calculated_text}
use Rattle.question_rules.specs.Fields.{text_at, value_of}
use Rattle.question_rules.specs.Shown.{IsShown}

-- the text of a field with this calculation, which has this text without one
abbrev pub text_by : FormDef → List NamedTable → List (List ℕ) → List Bool → ℕ → Option Expr → List ℕ → List ℕ
text_by form tables texts marks number None old = old
text_by form tables texts marks number (Some expr) old = calculated_text (value_of form tables texts marks number expr)

-- these texts, with these marks, are those once they are settled
abbrev pub IsSettledWith : FormDef → List NamedTable → List (List ℕ) → List (List ℕ) → List Bool → Type 0
IsSettledWith form tables before after marks = (length after ≡ length before) × IsShown form tables after marks
    × ((number : ℕ) (field : Field) → slice_get form.fields number ≡ Some field
    → text_at after number ≡ text_by form tables after marks number field.calculate (text_at before number))

abbrev pub IsSettled : FormDef → List NamedTable → List (List ℕ) → List (List ℕ) → Type 0
IsSettled form tables before after = (marks : List Bool) × IsSettledWith form tables before after marks
