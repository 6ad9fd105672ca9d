-- What is shown, calculated, lacking and answered doesn't depend on the order that a form keeps.
use Rattle.std.specs.Prelude.{ℕ, ◌+◌, ◌≡◌, Bool, true, false, not, ◌&&◌, if◌then◌else◌, List, [], ◌∷◌, length, map}
use Rattle.std.specs.Prelude.{find, slice_get, slice_set, Option, Some, None, refl}
use Rattle.std.specs.Option.{option_map_or}
use Rattle.std.specs.Str.{bytes_eq}
use Rattle.std.proofs.Common.{ap, ◌∙◌, length-set}
use Rattle.field_text.specs.Finds.{◌>>=◌}
use Rattle.field_text.specs.Tables.{NamedTable}
use Rattle.form_def.specs.declared.expr.Expr.{Expr}
use Rattle.form_def.specs.declared.field.Choices.{Choices}
use Rattle.form_def.specs.declared.field.Choices.TheVariants.{Nothing, Fixed, Rows}
use Rattle.form_def.specs.declared.field.Field.{Field}
use Rattle.form_def.specs.declared.form.FormDef.{FormDef}
use Rattle.form_def.specs.Fields.{parent_of}
use Rattle.form_def.specs.Order.{is_marked}
use Rattle.expr_values.specs.Values.{truth_of, calculated_text}
use Rattle.expr_values.specs.Functions.{is_some_text}
use Rattle.expr_values.specs.Rows.{no_columns, columns_of, outer_rows}
use Rattle.expr_values.specs.Evaluation.{value_in, text_read, surroundings_of, offers}
use Rattle.question_rules.specs.declared.answers.AnswerRefused.TheVariants.{NotRelevant, ReadOnly, NotWhole, NotAChoice}
use Rattle.question_rules.specs.declared.faults.Cause.TheVariants.{Required, Constraint}
use Rattle.question_rules.specs.Fields.{text_at, holds_or}
use Rattle.question_rules.specs.Shown.{is_parent_shown, is_shown_by, IsShown}
use Rattle.question_rules.specs.Settled.{text_by, IsSettledWith}
use Rattle.question_rules.specs.Along.{shown_marks, settled}
use Rattle.question_rules.specs.Faults.{fault_at, fault_or, fault_from, first_fault_of}
use Rattle.question_rules.specs.Answers.{offered, is_no_number, is_no_choice, bad_text, refusal}
use Rattle.question_rules.specs.Answered.{question, refusal_at, or_refused, answered_at, answered}
use Rattle.question_rules.specs.Orders.{DifferInOrder}
use Rattle.question_rules.proofs.Making.{shown_is, settled_is}
use Rattle.question_rules.proofs.Unique.{one_shown, one_settled}

same_surroundings : (one other : FormDef) → DifferInOrder one other → (tables : List NamedTable) (texts : List (List ℕ)) (marks : List Bool) (own : ℕ)
    → surroundings_of one tables texts marks own ≡ surroundings_of other tables texts marks own
same_surroundings one other d tables texts marks own =
    ap (λ inner. record { fields = text_read texts marks; rows = λ name. option_map_or (λ table. map columns_of table.rows) (find (λ table. bytes_eq table.name name) inner) (outer_rows one.outer tables name); own = own }) d.inner
    ∙ ap (λ outer. record { fields = text_read texts marks; rows = λ name. option_map_or (λ table. map columns_of table.rows) (find (λ table. bytes_eq table.name name) other.inner) (outer_rows outer tables name); own = own }) d.outer

same_holds : (one other : FormDef) → DifferInOrder one other → (tables : List NamedTable) (texts : List (List ℕ)) (marks : List Bool) (own : ℕ)
    (absent : Bool) (expr : Option Expr) → holds_or absent one tables texts marks own expr ≡ holds_or absent other tables texts marks own expr
same_holds one other d tables texts marks own absent None = refl
same_holds one other d tables texts marks own absent (Some expr) =
    ap (λ s. truth_of (value_in s expr no_columns)) (same_surroundings one other d tables texts marks own)

same_text : (one other : FormDef) → DifferInOrder one other → (tables : List NamedTable) (texts : List (List ℕ)) (marks : List Bool) (own : ℕ)
    (expr : Option Expr) (old : List ℕ) → text_by one tables texts marks own expr old ≡ text_by other tables texts marks own expr old
same_text one other d tables texts marks own None old = refl
same_text one other d tables texts marks own (Some expr) old =
    ap (λ s. calculated_text (value_in s expr no_columns)) (same_surroundings one other d tables texts marks own)

same_shown : (one other : FormDef) → DifferInOrder one other → (tables : List NamedTable) (texts : List (List ℕ)) (marks : List Bool) (own : ℕ)
    (field : Field) → is_shown_by one tables texts marks own field ≡ is_shown_by other tables texts marks own field
same_shown one other d tables texts marks own field =
    ap (λ fields. is_parent_shown marks (parent_of fields field.path) && holds_or true one tables texts marks own field.relevant) d.fields
    ∙ ap (λ holds. is_parent_shown marks (parent_of other.fields field.path) && holds) (same_holds one other d tables texts marks own true field.relevant)

there : (one other : FormDef) → DifferInOrder one other → (number : ℕ) (field : Field) → slice_get other.fields number ≡ Some field
    → slice_get one.fields number ≡ Some field
there one other d number field at = ap (λ fields. slice_get fields number) d.fields ∙ at

shown_moved : (one other : FormDef) → DifferInOrder one other → (tables : List NamedTable) (texts : List (List ℕ)) (marks : List Bool)
    → IsShown one tables texts marks → IsShown other tables texts marks
shown_moved one other d tables texts marks s = (
  s.0 ∙ ap length d.fields,
  λ number field at. s.1 number field (there one other d number field at) ∙ same_shown one other d tables texts marks number field,
)

pub same_marks : (one other : FormDef) (tables : List NamedTable) (texts : List (List ℕ)) → DifferInOrder one other
    → length texts ≡ length one.fields → shown_marks one tables texts ≡ shown_marks other tables texts
same_marks one other tables texts d long =
    one_shown other tables texts (shown_marks one tables texts) (shown_marks other tables texts)
    (shown_moved one other d tables texts (shown_marks one tables texts) (shown_is one tables texts long))
    (shown_is other tables texts (long ∙ ap length d.fields))

settled_moved : (one other : FormDef) → DifferInOrder one other → (tables : List NamedTable) (before after : List (List ℕ)) (marks : List Bool)
    → IsSettledWith one tables before after marks → IsSettledWith other tables before after marks
settled_moved one other d tables before after marks s = (
  s.0,
  shown_moved one other d tables after marks s.1,
  λ number field at. s.2 number field (there one other d number field at)
      ∙ same_text one other d tables after marks number field.calculate (text_at before number),
)

pub same_texts : (one other : FormDef) (tables : List NamedTable) (texts : List (List ℕ)) → DifferInOrder one other
    → length texts ≡ length one.fields → (settled one tables texts).texts ≡ (settled other tables texts).texts
same_texts one other tables texts d long =
    let long_too : length texts ≡ length other.fields = long ∙ ap length d.fields in
    one_settled other tables texts (settled one tables texts).texts (settled other tables texts).texts long_too (
      (settled one tables texts).marks,
      settled_moved one other d tables texts (settled one tables texts).texts (settled one tables texts).marks (settled_is one tables texts long),
    )
    ((settled other tables texts).marks, settled_is other tables texts long_too)

same_fault : (one other : FormDef) → DifferInOrder one other → (tables : List NamedTable) (texts : List (List ℕ)) (marks : List Bool) (own : ℕ)
    (field : Field) → fault_at one tables texts marks own field ≡ fault_at other tables texts marks own field
same_fault one other d tables texts marks own field =
    ap (λ right. if is_marked marks own then (if is_some_text (text_at texts own) then (if right then None else Some Constraint)
    else (if holds_or false one tables texts marks own field.required then Some Required else None)) else None)
    (same_holds one other d tables texts marks own true field.constraint)
    ∙ ap (λ needed. if is_marked marks own then (if is_some_text (text_at texts own)
    then (if holds_or true other tables texts marks own field.constraint then None else Some Constraint)
    else (if needed then Some Required else None)) else None)
    (same_holds one other d tables texts marks own false field.required)

same_from : (one other : FormDef) → DifferInOrder one other → (tables : List NamedTable) (texts : List (List ℕ)) (marks : List Bool) (number : ℕ)
    (fields : List Field) → fault_from one tables texts marks number fields ≡ fault_from other tables texts marks number fields
same_from one other d tables texts marks number [] = refl
same_from one other d tables texts marks number (field ∷ fields) =
    ap (λ cause. fault_or field.path cause (fault_from one tables texts marks (number + 1) fields))
    (same_fault one other d tables texts marks number field)
    ∙ ap (fault_or field.path (fault_at other tables texts marks number field)) (same_from one other d tables texts marks (number + 1) fields)

pub same_first_fault : (one other : FormDef) (tables : List NamedTable) (texts : List (List ℕ)) → DifferInOrder one other
    → length texts ≡ length one.fields → first_fault_of one tables texts ≡ first_fault_of other tables texts
same_first_fault one other tables texts d long =
    ap (λ marks. fault_from one tables texts marks 0 one.fields) (same_marks one other tables texts d long)
    ∙ same_from one other d tables texts (shown_marks other tables texts) 0 one.fields
    ∙ ap (fault_from other tables texts (shown_marks other tables texts) 0) d.fields

same_offered : (one other : FormDef) → DifferInOrder one other
    → (tables : List NamedTable) (texts : List (List ℕ)) (marks : List Bool) (own : ℕ)
    (choices : Choices) → offered one tables texts marks own choices ≡ offered other tables texts marks own choices
same_offered one other d tables texts marks own Nothing = refl
same_offered one other d tables texts marks own (Fixed values) = refl
same_offered one other d tables texts marks own (Rows table filter value) =
    ap (λ s. offers s filter value (s.rows table)) (same_surroundings one other d tables texts marks own)

same_refusal : (one other : FormDef) → DifferInOrder one other
    → (tables : List NamedTable) (texts : List (List ℕ)) (marks : List Bool) (number : ℕ)
    (field : Field) (text : List ℕ) → refusal one tables texts marks number field text
    ≡ refusal other tables texts marks number field text
same_refusal one other d tables texts marks number field text =
    ap (λ locked. if not (is_marked marks number) then Some NotRelevant else if locked then Some ReadOnly else
    if is_no_number field.kind text then Some NotWhole else
    if is_no_choice field.kind (offered one tables texts marks number field.choices) text then Some NotAChoice
    else bad_text text)
    (same_holds one other d tables texts marks number false field.readonly)
    ∙ ap (λ values. if not (is_marked marks number) then Some NotRelevant else
    if holds_or false other tables texts marks number field.readonly then Some ReadOnly else
    if is_no_number field.kind text then Some NotWhole else if is_no_choice field.kind values text then Some NotAChoice
    else bad_text text)
    (same_offered one other d tables texts marks number field.choices)

same_refusal_of : (one other : FormDef) → DifferInOrder one other
    → (tables : List NamedTable) (texts : List (List ℕ)) (marks : List Bool) (number : ℕ)
    (text : List ℕ) (found : Option Field)
    → (found >>= λ field. refusal one tables texts marks number field text)
    ≡ (found >>= λ field. refusal other tables texts marks number field text)
same_refusal_of one other d tables texts marks number text None = refl
same_refusal_of one other d tables texts marks number text (Some field) =
    same_refusal one other d tables texts marks number field text

same_refusal_at : (one other : FormDef) (tables : List NamedTable) (texts : List (List ℕ)) → DifferInOrder one other
    → length texts ≡ length one.fields → (number : ℕ) (text : List ℕ)
    → refusal_at one tables texts number text ≡ refusal_at other tables texts number text
same_refusal_at one other tables texts d long number text =
    ap (λ marks. slice_get one.fields number >>= λ field. refusal one tables texts marks number field text)
    (same_marks one other tables texts d long)
    ∙ same_refusal_of one other d tables texts (shown_marks other tables texts) number text
    (slice_get one.fields number)
    ∙ ap (λ fields. slice_get fields number >>= λ field. refusal other tables texts
    (shown_marks other tables texts) number field text) d.fields

same_answered_at : (one other : FormDef) (tables : List NamedTable) (texts : List (List ℕ)) → DifferInOrder one other
    → length texts ≡ length one.fields → (text : List ℕ) (found : Option ℕ)
    → answered_at one tables texts text found ≡ answered_at other tables texts text found
same_answered_at one other tables texts d long text None = refl
same_answered_at one other tables texts d long text (Some number) =
    let put = slice_set texts number text in
    ap (λ why. or_refused why (settled one tables put).texts)
    (same_refusal_at one other tables texts d long number text)
    ∙ ap (or_refused (refusal_at other tables texts number text)) (same_texts one other tables put d
    (length-set texts number text ∙ long))

pub same_answers : (one other : FormDef) (tables : List NamedTable) (texts : List (List ℕ)) (path text : List ℕ)
    → DifferInOrder one other
    → length texts ≡ length one.fields → answered one tables texts path text ≡ answered other tables texts path text
same_answers one other tables texts path text d long =
    same_answered_at one other tables texts d long text (question one.fields path)
    ∙ ap (λ fields. answered_at other tables texts text (question fields path)) d.fields
