-- Marks and texts, made field by field along the form's order. They are those of Shown and Settled; these definitions
-- compute.
use Rattle.std.specs.Prelude.{ℕ, Bool, false, List, [], ◌∷◌, length, replicate, slice_get, slice_set, Option}
use Rattle.std.specs.Option.{option_map_or}
use Rattle.field_text.specs.Tables.{NamedTable}
use Rattle.form_def.specs.declared.expr.Expr.{Expr}
use Rattle.form_def.specs.declared.field.Field.{Field}
use Rattle.form_def.specs.declared.form.FormDef.{FormDef}
use Rattle.question_rules.specs.Fields.{text_at}
use Rattle.question_rules.specs.Shown.{is_shown_by}
use Rattle.question_rules.specs.Settled.{text_by}

-- the texts and the marks so far
pub record Made : Type 0 where
  pub texts : List (List ℕ)
  pub marks : List Bool

abbrev pub mark_at : FormDef → List NamedTable → List (List ℕ) → List Bool → ℕ → Bool
mark_at form tables texts marks number = option_map_or (λ field. is_shown_by form tables texts marks number field)
    (slice_get form.fields number) false

abbrev pub text_made : FormDef → List NamedTable → (Field → Option Expr) → List (List ℕ) → List Bool → ℕ → List ℕ
text_made form tables calculation texts marks number =
    option_map_or (λ field. text_by form tables texts marks number (calculation field) (text_at texts number))
    (slice_get form.fields number) (text_at texts number)

abbrev pub marks_with : FormDef → List NamedTable → List (List ℕ) → List Bool → ℕ → List Bool
marks_with form tables texts marks number = slice_set marks number (mark_at form tables texts marks number)

abbrev pub texts_with : FormDef → List NamedTable → (Field → Option Expr) → List (List ℕ) → List Bool → ℕ
    → List (List ℕ)
texts_with form tables calculation texts marks number = slice_set texts number
    (text_made form tables calculation texts marks number)

-- one field more
abbrev pub made_with : FormDef → List NamedTable → (Field → Option Expr) → Made → ℕ → Made
made_with form tables calculation made number = record {
  texts = texts_with form tables calculation made.texts (marks_with form tables made.texts made.marks number) number;
  marks = marks_with form tables made.texts made.marks number;
}

abbrev pub made_along : FormDef → List NamedTable → (Field → Option Expr) → List ℕ → Made → Made
made_along form tables calculation [] made = made
made_along form tables calculation (number ∷ numbers) made = made_along form tables calculation numbers
    (made_with form tables calculation made number)

abbrev pub marked_along : FormDef → List NamedTable → List (List ℕ) → List ℕ → List Bool → List Bool
marked_along form tables texts [] marks = marks
marked_along form tables texts (number ∷ numbers) marks = marked_along form tables texts numbers
    (marks_with form tables texts marks number)

abbrev pub unmarked : FormDef → List Bool
unmarked form = replicate (length form.fields) false

abbrev pub shown_marks : FormDef → List NamedTable → List (List ℕ) → List Bool
shown_marks form tables texts = marked_along form tables texts form.order (unmarked form)

abbrev pub settled : FormDef → List NamedTable → List (List ℕ) → Made
settled form tables texts = made_along form tables (λ field. field.calculate) form.order
    (record { texts = texts; marks = unmarked form })
