-- What holds of the answers that a form takes.
use Rattle.std.specs.Prelude.{◌≡◌, ℕ, ◌≤◌, Bool, true, false, ◌==◌, not, nat_lt, if◌then◌else◌, List, length, Option, Some, None}
use Rattle.std.specs.Prelude.{Result, Ok, Err, refl, option_map}
use Rattle.std.specs.Option.{option_map_or}
use Rattle.std.proofs.Common.{arith, sym, ◌∙◌, ap}
use Rattle.std.proofs.lemmas.Bool.Decides.{nat_tests}
use Rattle.field_text.specs.Tables.{NamedTable}
use Rattle.form_def.specs.declared.form.FormDef.{FormDef}
use Rattle.form_def.specs.Order.{is_marked}
use Rattle.question_rules.specs.declared.answers.AnswerRefused.{AnswerRefused}
use Rattle.question_rules.specs.declared.answers.AnswerRefused.TheVariants.{NoQuestion, NotRelevant, ReadOnly, NotWhole}
use Rattle.question_rules.specs.declared.answers.AnswerRefused.TheVariants.{NotAChoice, TooLong, BadChar}
use Rattle.question_rules.specs.Answered.{answered, question}
use Rattle.question_rules.specs.Answers.{bad_char, bad_text, Fills, is_no_choice, is_no_number, offered, refusal}
use Rattle.question_rules.specs.Fields.{holds_or}
use Rattle.question_rules.proofs.QuestionLemmas.{fills}
use Rattle.kept_forms.specs.KeptForms.{definition_of, filled_in, filled_of, fits_form}

short_text : (text : List ℕ) → None ≡ bad_text text → length text ≤ 2000
short_text text is = by (nat_lt 2000 (length text)) refl is
  where
    by : (long : Bool) → nat_lt 2000 (length text) ≡ long
        → None ≡ (if long then Some TooLong else option_map BadChar (bad_char text)) → length text ≤ 2000
    by true was none = absurd (cc none)
    by false was none = grind (arith, nat_tests, was)

-- where four tests pass, the last one tells
last_of : (hidden readonly number choice : Bool) (last : Option AnswerRefused)
    → None ≡ (if hidden then Some NotRelevant else if readonly then Some ReadOnly else if number then Some NotWhole
    else if choice then Some NotAChoice else last) → None ≡ last
last_of false false false false last is = is
last_of true b c d last is = absurd (cc is)
last_of false true c d last is = absurd (cc is)
last_of false false true d last is = absurd (cc is)
last_of false false false true last is = absurd (cc is)

answered_short : (form : FormDef) (tables : List NamedTable) (sheet : List (List ℕ)) (path value : List ℕ)
    (after : List (List ℕ)) → length sheet ≡ length form.fields → answered form tables sheet path value ≡ Ok after
    → length value ≤ 2000
answered_short form tables sheet path value after fit is =
    let filled = fills form tables sheet path value after fit (question form.fields path) refl is in
    let judged = filled.1 in
    let refusal_is = judged.4 in
    short_text value (last_of _ _ _ _ (bad_text value) refusal_is.2)

-- an answer that is taken has at most 2,000 bytes
pub filled_short : (tables : List NamedTable) (bytes : List ℕ) (sheet : List (List ℕ)) (path value : List ℕ)
    (after : List (List ℕ)) → filled_of tables bytes sheet path value ≡ Ok after → length value ≤ 2000
unfolding filled_of
filled_short tables bytes sheet path value after is = by (definition_of bytes) is
  where
    fitting : (form : FormDef) (fits : Bool) → fits_form form sheet ≡ fits
        → (if fits then answered form tables sheet path value else Err NoQuestion) ≡ Ok after → length value ≤ 2000
    fitting form true fit was = answered_short form tables sheet path value after (grind (arith, nat_tests, fit)) was
    fitting form false fit was = absurd (cc was)

    by : (o : Option FormDef) → option_map_or (filled_in tables sheet path value) o (Err NoQuestion) ≡ Ok after
        → length value ≤ 2000
    by None was = absurd (cc was)
    by (Some form) was = fitting form (fits_form form sheet) refl was
