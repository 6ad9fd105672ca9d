-- What a device asks of a form, as functions of its document's bytes. Bytes that are no form have no answers; a sheet
-- with another number of texts than the form has fields doesn't fit, stays as it is, has no lines and takes no answer.
use Rattle.std.specs.Prelude.{ℕ, Bool, false, ◌==◌, ◌+◌, true, if◌then◌else◌, List, [], ◌∷◌, length, map, Option, None}
use Rattle.std.specs.Prelude.{Some}
use Rattle.std.specs.Prelude.{Result, Ok, Err}
use Rattle.std.specs.List.{slice_index_or}
use Rattle.std.specs.Option.{option_map_or}
use Rattle.std.specs.Result.{result_ok}
use Rattle.field_text.specs.Steps.{◌>>=◌}
use Rattle.field_text.specs.Tables.{NamedTable}
use Rattle.form_def.specs.declared.field.Field.{Field}
use Rattle.form_def.specs.declared.field.Kind.{Kind}
use Rattle.form_def.specs.declared.field.Kind.TheVariants.{Words, Whole, One, Many, Group, Plain}
use Rattle.form_def.specs.declared.form.FormDef.{FormDef}
use Rattle.form_read.specs.declared.refusal.FormRefused.{FormRefused}
use Rattle.form_read.specs.declared.refusal.FormRefused.TheVariants as forms
use Rattle.question_rules.specs.declared.answers.AnswerRefused.{AnswerRefused}
use Rattle.question_rules.specs.declared.answers.AnswerRefused.TheVariants.{NoQuestion}
use Rattle.question_rules.specs.Along.{shown_marks, settled}
use Rattle.question_rules.specs.Answered.{answered}
use Rattle.kept_forms.specs.declared.lines.FieldLine.{FieldLine}
use Rattle.form_laws.specs.FormOf.{form_of}

-- the form that the bytes describe, if they describe one
unfoldable pub definition_of : List ℕ → Option FormDef
definition_of bytes = result_ok (form_of bytes)

-- the bytes, if they describe a form
unfoldable pub kept_form : List ℕ → Result (List ℕ) FormRefused
kept_form bytes = do
  form ← form_of bytes
  Ok bytes

-- each refusal but want of memory is one that the definition gives
abbrev pub refusal_told : FormRefused → Option FormRefused
refusal_told forms.NoMemory = None
refusal_told why = Some why

unfoldable pub is_form : List ℕ → Bool
is_form bytes = option_map_or (λ form. true) (definition_of bytes) false

unfoldable pub id_of : List ℕ → List ℕ
id_of bytes = option_map_or (λ form. form.id) (definition_of bytes) []

unfoldable pub version_of : List ℕ → List ℕ
version_of bytes = option_map_or (λ form. form.version) (definition_of bytes) []

-- what the form says of sending by itself, if it says anything
unfoldable pub auto_of : List ℕ → Option Bool
auto_of bytes = option_map_or (λ form. form.auto_send) (definition_of bytes) None

abbrev pub initial_in : List NamedTable → FormDef → List (List ℕ)
initial_in tables form = (settled form tables (map (λ field. field.initial) form.fields)).texts

-- the first values of the form's fields, settled
unfoldable pub initial_of : List NamedTable → List ℕ → List (List ℕ)
initial_of tables bytes = option_map_or (initial_in tables) (definition_of bytes) []

abbrev pub fits_form : FormDef → List (List ℕ) → Bool
fits_form form sheet = length form.fields == length sheet

-- the sheet has one text for each field
unfoldable pub fits : List ℕ → List (List ℕ) → Bool
fits bytes sheet = option_map_or (λ form. fits_form form sheet) (definition_of bytes) false

abbrev pub settled_in : List NamedTable → List (List ℕ) → FormDef → List (List ℕ)
settled_in tables sheet form = if fits_form form sheet then (settled form tables sheet).texts else sheet

-- the sheet with each calculated field at its value
unfoldable pub settled_of : List NamedTable → List ℕ → List (List ℕ) → List (List ℕ)
settled_of tables bytes sheet = option_map_or (settled_in tables sheet) (definition_of bytes) sheet

abbrev pub filled_in : List NamedTable → List (List ℕ) → List ℕ → List ℕ → FormDef
    → Result (List (List ℕ)) AnswerRefused
filled_in tables sheet path value form =
    if fits_form form sheet then answered form tables sheet path value else Err NoQuestion

-- the sheet behind an answer, or what the answer is refused for
unfoldable pub filled_of : List NamedTable → List ℕ → List (List ℕ) → List ℕ → List ℕ
    → Result (List (List ℕ)) AnswerRefused
filled_of tables bytes sheet path value =
    option_map_or (filled_in tables sheet path value) (definition_of bytes) (Err NoQuestion)

abbrev pub is_group : Kind → Bool
is_group Words = false
is_group Whole = false
is_group One = false
is_group Many = false
is_group Group = true
is_group Plain = false

abbrev pub line_of : List (List ℕ) → List Bool → ℕ → Field → FieldLine
line_of sheet marks number field = record {
  path = field.path;
  value = slice_index_or sheet number [];
  shown = slice_index_or marks number false;
}

-- the lines of these fields, the first of which has this number
abbrev pub lines_from : List (List ℕ) → List Bool → ℕ → List Field → List FieldLine
lines_from sheet marks number [] = []
lines_from sheet marks number (f ∷ fs) = if is_group f.kind then lines_from sheet marks (number + 1) fs
    else line_of sheet marks number f ∷ lines_from sheet marks (number + 1) fs

abbrev pub lines_in : List NamedTable → List (List ℕ) → FormDef → List FieldLine
lines_in tables sheet form =
    if fits_form form sheet then lines_from sheet (shown_marks form tables sheet) 0 form.fields else []

-- a line for each field that is no group
unfoldable pub lines_of : List NamedTable → List ℕ → List (List ℕ) → List FieldLine
lines_of tables bytes sheet = option_map_or (lines_in tables sheet) (definition_of bytes) []
