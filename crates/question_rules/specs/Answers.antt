-- Which answers are taken, and what is refused first.
use Rattle.std.specs.Prelude.{ℕ, ◌+◌, Bool, true, false, not, ◌&&◌, ◌≡◌, nat_lt, if◌then◌else◌, List, [], ◌∷◌, length}
use Rattle.std.specs.Prelude.{chars, slice_get, slice_set, Option, Some, None, encode_utf8, option_map}
use Rattle.std.specs.List.{list_any}
use Rattle.field_text.specs.Tables.{NamedTable}
use Rattle.field_text.specs.Xml.{is_xml_char}
use Rattle.form_def.specs.declared.field.Field.{Field}
use Rattle.form_def.specs.declared.field.Kind.{Kind}
use Rattle.form_def.specs.declared.field.Kind.TheVariants.{Words, Whole, One, Many, Group, Plain}
use Rattle.form_def.specs.declared.field.Choices.{Choices}
use Rattle.form_def.specs.declared.field.Choices.TheVariants.{Nothing, Fixed, Rows}
use Rattle.form_def.specs.declared.form.FormDef.{FormDef}
use Rattle.form_def.specs.Order.{is_marked}
use Rattle.expr_values.specs.Numbers.{is_whole}
use Rattle.expr_values.specs.Functions.{is_some_text, is_piece, cut_at_spaces}
use Rattle.expr_values.specs.Rows.{rows_named}
use Rattle.expr_values.specs.Evaluation.{surroundings_of, offers, is_offered}
use Rattle.question_rules.specs.declared.answers.AnswerRefused.{AnswerRefused}
use Rattle.question_rules.specs.declared.answers.AnswerRefused.TheVariants.{NoQuestion, NotRelevant, ReadOnly}
use Rattle.question_rules.specs.declared.answers.AnswerRefused.TheVariants.{NotWhole, NotAChoice, TooLong, BadChar}
use Rattle.question_rules.specs.declared.answers.AnswerRefused.TheVariants.{NoMemory}
use Rattle.question_rules.specs.Fields.{holds_or}
use Rattle.question_rules.specs.Shown.{IsShown}
use Rattle.question_rules.specs.Settled.{IsSettled}

-- it has a control
abbrev pub is_question : Kind → Bool
is_question Words = true
is_question Whole = true
is_question One = true
is_question Many = true
is_question Group = false
is_question Plain = false

-- the values that a select offers
abbrev pub offered : FormDef → List NamedTable → List (List ℕ) → List Bool → ℕ → Choices → List (List ℕ)
offered form tables texts marks own Nothing = []
offered form tables texts marks own (Fixed values) = values
offered form tables texts marks own (Rows table filter value) = offers (surroundings_of form tables texts marks own)
    filter value (rows_named form tables table)

-- pieces of which none is empty, each is offered, and none comes again
abbrev pub are_chosen : List (List ℕ) → List (List ℕ) → Bool
are_chosen values [] = true
are_chosen values (piece ∷ pieces) = is_some_text piece && is_offered values piece
    && not (list_any (is_piece piece) pieces) && are_chosen values pieces

-- a text that isn't empty, and no number though the kind asks for one
abbrev pub is_no_number : Kind → List ℕ → Bool
is_no_number Whole text = is_some_text text && not (is_whole 9 text)
is_no_number Words text = false
is_no_number One text = false
is_no_number Many text = false
is_no_number Group text = false
is_no_number Plain text = false

-- a text that isn't empty, and no choice of these values though the kind asks for one
abbrev pub is_no_choice : Kind → List (List ℕ) → List ℕ → Bool
is_no_choice One values text = is_some_text text && not (is_offered values text)
is_no_choice Many values text = is_some_text text && not (are_chosen values (cut_at_spaces text))
is_no_choice Words values text = false
is_no_choice Whole values text = false
is_no_choice Group values text = false
is_no_choice Plain values text = false

-- where the first of the characters behind so many bytes stands that a document can't hold
abbrev pub bad_char_from : ℕ → List ℕ → Option ℕ
bad_char_from at [] = None
bad_char_from at (c ∷ cs) = if is_xml_char c then bad_char_from (at + length (encode_utf8 c)) cs else Some at

abbrev pub bad_char : List ℕ → Option ℕ
bad_char text = bad_char_from 0 (chars text)

abbrev pub bad_text : List ℕ → Option AnswerRefused
bad_text text = if nat_lt 2000 (length text) then Some TooLong else option_map BadChar (bad_char text)

-- the first of these that applies to an answer of the field of a number
abbrev pub refusal : FormDef → List NamedTable → List (List ℕ) → List Bool → ℕ → Field → List ℕ → Option AnswerRefused
refusal form tables texts marks number field text =
    if not (is_marked marks number) then Some NotRelevant else
    if holds_or false form tables texts marks number field.readonly then Some ReadOnly else
    if is_no_number field.kind text then Some NotWhole else
    if is_no_choice field.kind (offered form tables texts marks number field.choices) text then Some NotAChoice else
    bad_text text

-- no field with a control has the path
abbrev pub LacksQuestion : FormDef → List ℕ → Type 0
LacksQuestion form path = (number : ℕ) (field : Field) → slice_get form.fields number ≡ Some field
    → field.path ≡ path → is_question field.kind ≡ false

-- what is refused first at a field, if anything is, with the marks that are right
abbrev pub IsRefusal : FormDef → List NamedTable → List (List ℕ) → ℕ → Field → List ℕ → Option AnswerRefused → Type 0
IsRefusal form tables texts number field text why = (marks : List Bool) × IsShown form tables texts marks
    × (why ≡ refusal form tables texts marks number field text)

-- the field of the number has a control and the path, and this is what is refused first at it
abbrev pub Judges : FormDef → List NamedTable → List (List ℕ) → List ℕ → List ℕ → ℕ → Option AnswerRefused → Type 0
Judges form tables texts path text number why = (field : Field) × (slice_get form.fields number ≡ Some field)
    × (field.path ≡ path)
    × (is_question field.kind ≡ true) × IsRefusal form tables texts number field text why

abbrev pub Refuses : FormDef → List NamedTable → List (List ℕ) → List ℕ → List ℕ → AnswerRefused → Type 0
Refuses form tables texts path text NoQuestion = LacksQuestion form path
Refuses form tables texts path text NotRelevant = (number : ℕ)
    × Judges form tables texts path text number (Some NotRelevant)
Refuses form tables texts path text ReadOnly = (number : ℕ) × Judges form tables texts path text number (Some ReadOnly)
Refuses form tables texts path text NotWhole = (number : ℕ) × Judges form tables texts path text number (Some NotWhole)
Refuses form tables texts path text NotAChoice = (number : ℕ)
    × Judges form tables texts path text number (Some NotAChoice)
Refuses form tables texts path text TooLong = (number : ℕ) × Judges form tables texts path text number (Some TooLong)
Refuses form tables texts path text (BadChar at) = (number : ℕ)
    × Judges form tables texts path text number (Some (BadChar at))
Refuses form tables texts path text NoMemory = Unit {0}

-- nothing is refused, the text is put there, and the sheet is settled
abbrev pub Fills : FormDef → List NamedTable → List (List ℕ) → List ℕ → List ℕ → List (List ℕ) → Type 0
Fills form tables before path text after = (number : ℕ) × Judges form tables before path text number None
    × IsSettled form tables (slice_set before number text) after
