-- The field with a control that a path names, and what is refused at it; what is answered, as the relations say it.
use Rattle.std.specs.Prelude.{ℕ, ◌<◌, ◌≡◌, Bool, true, false, not, List, length, slice_get, slice_set, Option, Some, None, Result, Ok, Err, option_map, if◌then◌else◌, position, refl}
use Rattle.std.specs.List.{position_or_len}
use Rattle.std.specs.Str.{bytes_eq}
use Rattle.std.proofs.Common.{ap, sym, ◌∙◌, subst, arith, get_or, length-set, inl, inr}
use Rattle.std.proofs.lemmas.Bool.{false≢true, cases_lt, not-false}
use Rattle.std.proofs.lemmas.List.Sums.{prefix_len_stops}
use Rattle.std.proofs.lemmas.Option.{same_Some, get_or_from_slice_get, slice_get_within, slice_get_cases}
use Rattle.std.proofs.lemmas.Slice.Eq.{bytes_eq-Decides}
use Rattle.field_text.specs.Finds.{◌>>=◌}
use Rattle.field_text.specs.Steps.{Tells}
use Rattle.field_text.specs.Tables.{NamedTable}
use Rattle.field_text.proofs.FindLemmas.{then_some}
use Rattle.form_def.specs.declared.field.Field.{Field}
use Rattle.form_def.specs.declared.form.FormDef.{FormDef}
use Rattle.form_def.specs.Fields.{PathsDiffer}
use Rattle.expr_values.proofs.Positions.{found_at, fails_at}
use Rattle.question_rules.specs.declared.answers.AnswerRefused.{AnswerRefused}
use Rattle.question_rules.specs.declared.answers.AnswerRefused.TheVariants.{NoQuestion, NotRelevant, ReadOnly, NotWhole, NotAChoice, TooLong, BadChar, NoMemory}
use Rattle.question_rules.specs.Settled.{IsSettled}
use Rattle.question_rules.specs.Along.{shown_marks, settled}
use Rattle.question_rules.specs.Answers.{is_question, bad_char, refusal, LacksQuestion, Judges, Refuses, Fills}
use Rattle.question_rules.specs.Answered.{asked, question, refusal_at, or_refused, answered_at, answered, fault_of}
use Rattle.question_rules.proofs.Making.{shown_is, settled_is}

-- the field at the position found has the path
pub has_path : (fields : List Field) (path : List ℕ) (number : ℕ) (field : Field) → Some number ≡ position (λ f. bytes_eq f.path path) fields → slice_get fields number ≡ Some field → field.path ≡ path
has_path fields path number field found at =
    let place = found_at (λ f. bytes_eq f.path path) fields number found in
    let here : get_or fields number field ≡ field = get_or_from_slice_get fields number field field at in
    let passes = prefix_len_stops (λ f. not (bytes_eq f.path path)) fields field place.0 in
    let e : bytes_eq field.path path ≡ true =
    not-false (bytes_eq field.path path) (ap (λ f. not (bytes_eq f.path path)) (sym here ∙ ap (λ n. get_or fields n field) place.1) ∙ passes) in
    (bytes_eq-Decides field.path path).0 e

pub within_fields : (fields : List Field) (path : List ℕ) (number : ℕ) → Some number ≡ position (λ f. bytes_eq f.path path) fields → slice_get fields number ≡ None → ⊥
within_fields fields path number found none =
    let place = found_at (λ f. bytes_eq f.path path) fields number found in
    let is : number ≡ position_or_len (λ f. bytes_eq f.path path) fields = place.1 in
    let low : position_or_len (λ f. bytes_eq f.path path) fields < length fields = place.0 in
    elim (slice_get_cases fields number).1 [ inl h ↦ let e : Some h.0 ≡ None = sym h.2 ∙ none in cc | inr h ↦ omega (arith, h.0) ]

pub no_path : (form : FormDef) (path : List ℕ) → None ≡ position (λ f. bytes_eq f.path path) form.fields → LacksQuestion form path
no_path form path none number field at same =
    let fails = fails_at (λ f. bytes_eq f.path path) form.fields none number field (slice_get_within form.fields number field at) in
    let off : bytes_eq field.path path ≡ false = ap (λ f. bytes_eq f.path path) (sym (get_or_from_slice_get form.fields number field field at)) ∙ fails in
    absurd (false≢true (sym off ∙ (bytes_eq-Decides field.path path).1 same))

path_at : (fields : List Field) (number : ℕ) (d field : Field) → slice_get fields number ≡ Some field → (get_or fields number d).path ≡ field.path
path_at fields number d field at = ap (λ f. f.path) (get_or_from_slice_get fields number field d at)

one_of_path : (fields : List Field) → PathsDiffer fields → (a b : ℕ) (f g : Field) → slice_get fields a ≡ Some f → slice_get fields b ≡ Some g → f.path ≡ g.path → a ≡ b
one_of_path fields differ a b f g at other same =
    let low : a < length fields = slice_get_within fields a f at in
    let high : b < length fields = slice_get_within fields b g other in
    elim (cases_lt a b) [
      | inl h ↦ absurd (differ a b f h high (path_at fields a f f at ∙ same ∙ sym (path_at fields b f g other)))
      | inr h ↦ elim (cases_lt b a) [
        | inl k ↦ absurd (differ b a f k low (path_at fields b f g other ∙ sym same ∙ sym (path_at fields a f f at)))
        | inr k ↦ omega arith
      ]
    ]

some_same : (f g : Field) → Some f ≡ Some g → f ≡ g
some_same f g e = cc

pub no_question : (form : FormDef) (path : List ℕ) (number : ℕ) (field : Field) → slice_get form.fields number ≡ Some field → field.path ≡ path → is_question field.kind ≡ false → LacksQuestion form path
no_question form path number field at has off k g there same =
    let e : number ≡ k = one_of_path form.fields form.paths_differ number k field g at there (has ∙ sym same) in
    ap (λ f. is_question f.kind) (some_same g field (sym there ∙ ap (slice_get form.fields) (sym e) ∙ at)) ∙ off

not_first : (a b c d e : Bool) (o : Option ℕ) → Some NoQuestion ≡ (if a then Some NotRelevant else if b then Some ReadOnly else if c then Some NotWhole else if d then Some NotAChoice else if e then Some TooLong else option_map BadChar o) → ⊥
not_first true b c d e o h = cc
not_first false true c d e o h = cc
not_first false false true d e o h = cc
not_first false false false true e o h = cc
not_first false false false false true o h = cc
not_first false false false false false None h = cc
not_first false false false false false (Some at) h = cc

pub refused_at : (form : FormDef) (tables : List NamedTable) (texts : List (List ℕ)) (path text : List ℕ) (number : ℕ) (why : AnswerRefused) → Judges form tables texts path text number (Some why)
    → Refuses form tables texts path text why
refused_at form tables texts path text number NoQuestion j = absurd (not_first _ _ _ _ _ (bad_char text) j.4.2)
refused_at form tables texts path text number NotRelevant j = (number, j)
refused_at form tables texts path text number ReadOnly j = (number, j)
refused_at form tables texts path text number NotWhole j = (number, j)
refused_at form tables texts path text number NotAChoice j = (number, j)
refused_at form tables texts path text number TooLong j = (number, j)
refused_at form tables texts path text number (BadChar at) j = (number, j)
refused_at form tables texts path text number NoMemory j = tt

asked_is : (b : Bool) (number other : ℕ) → (if b then Some number else None) ≡ Some other → (b ≡ true) × (number ≡ other)
asked_is true number other e = (refl, same_Some number other e)
asked_is false number other e = absurd cc

-- the field of a question that is found
pub question-found : (fields : List Field) (path : List ℕ) (number : ℕ) → question fields path ≡ Some number
    → (field : Field) × (slice_get fields number ≡ Some field) × (field.path ≡ path) × (is_question field.kind ≡ true)
question-found fields path number e =
    let at = then_some (position (λ f. bytes_eq f.path path) fields) _ number e in
    let there = then_some (slice_get fields at.0) _ number at.2 in
    let asks = asked_is (is_question there.0.kind) at.0 number there.2 in
    let here : slice_get fields number ≡ Some there.0 = ap (slice_get fields) (sym asks.1) ∙ there.1 in
    (there.0, here, has_path fields path at.0 there.0 (sym at.1) there.1, asks.0)

asks_nothing : (form : FormDef) (path : List ℕ) (number : ℕ) (field : Field) (b : Bool) → is_question field.kind ≡ b
    → Some number ≡ position (λ f. bytes_eq f.path path) form.fields → slice_get form.fields number ≡ Some field
    → (if b then Some number else None) ≡ None → LacksQuestion form path
asks_nothing form path number field true is found at e = absurd cc
asks_nothing form path number field false is found at e = no_question form path number field at (has_path form.fields path number field found at) is

lacks_at : (form : FormDef) (path : List ℕ) (number : ℕ) (o : Option Field) → Some number ≡ position (λ f. bytes_eq f.path path) form.fields
    → slice_get form.fields number ≡ o → (o >>= λ field. asked number field) ≡ None → LacksQuestion form path
lacks_at form path number None found at e = absurd (within_fields form.fields path number found at)
lacks_at form path number (Some field) found at e = asks_nothing form path number field (is_question field.kind) refl found at e

lacks_by : (form : FormDef) (path : List ℕ) (o : Option ℕ) → position (λ f. bytes_eq f.path path) form.fields ≡ o
    → (o >>= λ number. slice_get form.fields number >>= λ field. asked number field) ≡ None → LacksQuestion form path
lacks_by form path None is e = no_path form path (sym is)
lacks_by form path (Some number) is e = lacks_at form path number (slice_get form.fields number) (sym is) refl e

pub question-none : (form : FormDef) (path : List ℕ) → question form.fields path ≡ None → LacksQuestion form path
question-none form path e = lacks_by form path (position (λ f. bytes_eq f.path path) form.fields) refl e

-- what is refused first at a question, as the relation says it
pub judged : (form : FormDef) (tables : List NamedTable) (texts : List (List ℕ)) (path text : List ℕ) (number : ℕ) (why : Option AnswerRefused)
    → length texts ≡ length form.fields → question form.fields path ≡ Some number → refusal_at form tables texts number text ≡ why
    → Judges form tables texts path text number why
judged form tables texts path text number why long e is =
    let marks = shown_marks form tables texts in
    let q = question-found form.fields path number e in
    let told : refusal_at form tables texts number text ≡ refusal form tables texts marks number q.0 text =
    ap (λ o. o >>= λ field. refusal form tables texts marks number field text) q.1 in
    (q.0, q.1, q.2, q.3, (marks, shown_is form tables texts long, sym is ∙ told))

abbrev texts_or_why : Type 0
texts_or_why = Result (List (List ℕ)) AnswerRefused

same_Ok : (x y : List (List ℕ)) (a b : texts_or_why) → a ≡ b → a ≡ Ok x → b ≡ Ok y → x ≡ y
same_Ok x y a b e f g = cc

same_Err : (x y : AnswerRefused) (a b : texts_or_why) → a ≡ b → a ≡ Err x → b ≡ Err y → x ≡ y
same_Err x y a b e f g = cc

-- of texts that are told, or why they aren't
texts_told : (o : Option AnswerRefused) (texts after : List (List ℕ)) → or_refused o texts ≡ Ok after → (o ≡ None) × (texts ≡ after)
texts_told None texts after e = (refl, same_Ok texts after (Ok texts) (Ok after) e refl refl)
texts_told (Some why) texts after e = absurd cc

cause_told : (o : Option AnswerRefused) (texts : List (List ℕ)) (why : AnswerRefused) → or_refused o texts ≡ Err why → o ≡ Some why
cause_told None texts why e = absurd cc
cause_told (Some other) texts why e = ap Some (same_Err other why (Err other) (Err why) e refl refl)

pub fills : (form : FormDef) (tables : List NamedTable) (before : List (List ℕ)) (path text : List ℕ) (after : List (List ℕ))
    → length before ≡ length form.fields → (q : Option ℕ) → question form.fields path ≡ q
    → answered_at form tables before text q ≡ Ok after → Fills form tables before path text after
fills form tables before path text after long None is e = absurd cc
fills form tables before path text after long (Some number) is e =
    let put = slice_set before number text in
    let told = texts_told (refusal_at form tables before number text) (settled form tables put).texts after e in (
      number,
      judged form tables before path text number None long is told.0,
      subst (IsSettled form tables put) told.1 ((settled form tables put).marks, settled_is form tables put (length-set before number text ∙ long)),
    )

refuses_by : (form : FormDef) (tables : List NamedTable) (before : List (List ℕ)) (path text : List ℕ) (why : AnswerRefused)
    → length before ≡ length form.fields → (q : Option ℕ) → question form.fields path ≡ q
    → answered_at form tables before text q ≡ Err why → Refuses form tables before path text why
refuses_by form tables before path text why long None is e =
    subst (Refuses form tables before path text) (same_Err NoQuestion why (Err NoQuestion) (Err why) e refl refl) (question-none form path is)
refuses_by form tables before path text why long (Some number) is e =
    refused_at form tables before path text number why
    (judged form tables before path text number (Some why) long is (cause_told (refusal_at form tables before number text) _ why e))

pub refuses : (form : FormDef) (tables : List NamedTable) (before : List (List ℕ)) (path text : List ℕ) (why : AnswerRefused)
    → length before ≡ length form.fields → Tells (fault_of why) (answered form tables before path text) → Refuses form tables before path text why
refuses form tables before path text NoQuestion long e = refuses_by form tables before path text _ long (question form.fields path) refl e
refuses form tables before path text NotRelevant long e = refuses_by form tables before path text _ long (question form.fields path) refl e
refuses form tables before path text ReadOnly long e = refuses_by form tables before path text _ long (question form.fields path) refl e
refuses form tables before path text NotWhole long e = refuses_by form tables before path text _ long (question form.fields path) refl e
refuses form tables before path text NotAChoice long e = refuses_by form tables before path text _ long (question form.fields path) refl e
refuses form tables before path text TooLong long e = refuses_by form tables before path text _ long (question form.fields path) refl e
refuses form tables before path text (BadChar at) long e = refuses_by form tables before path text _ long (question form.fields path) refl e
refuses form tables before path text NoMemory long e = tt

-- a refusal is told by itself
pub tells_itself : (why : AnswerRefused) → Tells {B = List (List ℕ)} (fault_of why) (Err why)
tells_itself NoQuestion = refl
tells_itself NotRelevant = refl
tells_itself ReadOnly = refl
tells_itself NotWhole = refl
tells_itself NotAChoice = refl
tells_itself TooLong = refl
tells_itself (BadChar at) = refl
tells_itself NoMemory = tt

pub question-is : (fields : List Field) (path : List ℕ) (number : ℕ) (field : Field)
    → Some number ≡ position (λ f. bytes_eq f.path path) fields → slice_get fields number ≡ Some field → is_question field.kind ≡ true
    → Some number ≡ question fields path
question-is fields path number field found at asks = sym (
    ap (λ o. o >>= λ n. slice_get fields n >>= λ f. asked n f) (sym found)
    ∙ ap (λ o. o >>= λ f. asked number f) at
    ∙ ap (λ b. if b then Some number else None) asks)
