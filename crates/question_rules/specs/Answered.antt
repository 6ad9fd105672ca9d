-- An answer as a function of the form, the tables and the texts: the texts after it, or the refusal.
use Rattle.std.specs.Prelude.{ℕ, if◌then◌else◌, List, slice_get, slice_set, Option, Some, None, Result, Ok, Err}
use Rattle.std.specs.Prelude.{position}
use Rattle.std.specs.Str.{bytes_eq}
use Rattle.field_text.specs.Finds.{◌>>=◌}
use Rattle.field_text.specs.Tables.{NamedTable}
use Rattle.form_def.specs.declared.field.Field.{Field}
use Rattle.form_def.specs.declared.form.FormDef.{FormDef}
use Rattle.question_rules.specs.declared.answers.AnswerRefused.{AnswerRefused}
use Rattle.question_rules.specs.declared.answers.AnswerRefused.TheVariants.{NoQuestion, NotRelevant, ReadOnly}
use Rattle.question_rules.specs.declared.answers.AnswerRefused.TheVariants.{NotWhole, NotAChoice, TooLong, BadChar}
use Rattle.question_rules.specs.declared.answers.AnswerRefused.TheVariants.{NoMemory}
use Rattle.question_rules.specs.Along.{shown_marks, settled}
use Rattle.question_rules.specs.Answers.{is_question, refusal}

-- the number, if the field has a control
abbrev pub asked : ℕ → Field → Option ℕ
asked number field = if is_question field.kind then Some number else None

-- the number of the field with a control that has the path
abbrev pub question : List Field → List ℕ → Option ℕ
question fields path = do
  number ← position (λ field. bytes_eq field.path path) fields
  field ← slice_get fields number
  asked number field

-- what is refused first at the field of a number
abbrev pub refusal_at : FormDef → List NamedTable → List (List ℕ) → ℕ → List ℕ → Option AnswerRefused
refusal_at form tables texts number text = do
  field ← slice_get form.fields number
  refusal form tables texts (shown_marks form tables texts) number field text

abbrev pub or_refused : Option AnswerRefused → List (List ℕ) → Result (List (List ℕ)) AnswerRefused
or_refused (Some why) texts = Err why
or_refused None texts = Ok texts

abbrev pub answered_at : FormDef → List NamedTable → List (List ℕ) → List ℕ → Option ℕ
    → Result (List (List ℕ)) AnswerRefused
answered_at form tables texts text None = Err NoQuestion
answered_at form tables texts text (Some number) =
    or_refused (refusal_at form tables texts number text) (settled form tables (slice_set texts number text)).texts

-- the settled texts once the question of the path has this answer, or the refusal
abbrev pub answered : FormDef → List NamedTable → List (List ℕ) → List ℕ → List ℕ → Result (List (List ℕ)) AnswerRefused
answered form tables texts path text = answered_at form tables texts text (question form.fields path)

-- each refusal but want of memory is one that the definition gives
abbrev pub fault_of : AnswerRefused → Option AnswerRefused
fault_of NoQuestion = Some NoQuestion
fault_of NotRelevant = Some NotRelevant
fault_of ReadOnly = Some ReadOnly
fault_of NotWhole = Some NotWhole
fault_of NotAChoice = Some NotAChoice
fault_of TooLong = Some TooLong
fault_of (BadChar at) = Some (BadChar at)
fault_of NoMemory = None
