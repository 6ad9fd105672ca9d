-- What is computed from a definition that a document describes is what the document's own definition gives.
use Rattle.std.specs.Prelude.{ℕ, ◌≡◌, ◌≢◌, Bool, true, false, ◌==◌, if◌then◌else◌, List, [], length, map, Option, Some}
use Rattle.std.specs.Prelude.{None, Result, Ok, Err, refl}
use Rattle.std.specs.Option.{option_map_or}
use Rattle.std.specs.Result.{result_ok}
use Rattle.std.proofs.Common.{ap, sym, ◌∙◌, subst}
use Rattle.std.proofs.lemmas.Bool.{eqb-true}
use Rattle.std.proofs.lemmas.List.{length-map}
use Rattle.field_text.specs.Steps.{◌>>=◌, Tells}
use Rattle.field_text.specs.Tables.{NamedTable}
use Rattle.form_def.specs.declared.field.Field.{Field}
use Rattle.form_def.specs.declared.form.FormDef.{FormDef}
use Rattle.form_read.specs.declared.refusal.FormRefused.{FormRefused}
use Rattle.form_read.specs.declared.refusal.FormRefused.TheVariants.{Doc, NoPrimary, NoId, BadExpr, UnknownPath}
use Rattle.form_read.specs.declared.refusal.FormRefused.TheVariants.{UnknownControl, UnknownType}
use Rattle.form_read.specs.declared.refusal.FormRefused.TheVariants.{Cycle, UnknownList, TooManyFields, BadEntity}
use Rattle.form_read.specs.declared.refusal.FormRefused.TheVariants.{NoMemory}
use Rattle.form_read.specs.Forms.{Describes, Refuses}
use Rattle.question_rules.specs.declared.answers.AnswerRefused.{AnswerRefused}
use Rattle.question_rules.specs.declared.answers.AnswerRefused.TheVariants.{NoQuestion}
use Rattle.question_rules.specs.Along.{shown_marks, settled}
use Rattle.question_rules.specs.Answered.{answered}
use Rattle.question_rules.specs.Orders.{DifferInOrder}
use Rattle.question_rules.proofs.OrderLemmas.{same_marks, same_texts, same_answers}
use Rattle.kept_forms.specs.declared.lines.FieldLine.{FieldLine}
use Rattle.form_laws.specs.FormOf.{form_of}
use Rattle.kept_forms.specs.KeptForms.{auto_of, definition_of, filled_in, filled_of, fits_form, id_of, initial_in}
use Rattle.kept_forms.specs.KeptForms.{initial_of, kept_form, lines_from}
use Rattle.kept_forms.specs.KeptForms.{lines_in, lines_of, refusal_told, settled_in, settled_of, version_of}
use Rattle.form_laws.proofs.FormLaws.{described, refused}

-- a kept form's document is what it is seen as
pub described_as : (bytes value : List ℕ) (form : FormDef) → bytes ≡ value → Describes bytes form → Describes value form
described_as bytes value form same is = subst (λ d. Describes d form) same is

-- Reading.
pub read_gives : (bytes : List ℕ) (form : FormDef) → Describes bytes form → kept_form bytes ≡ Ok bytes
unfolding kept_form
read_gives bytes form is = ap (λ r. r >>= λ _. Ok bytes) (described bytes form is).1

refused_for : (bytes : List ℕ) (why : FormRefused) → Refuses bytes why → why ≢ NoMemory → kept_form bytes ≡ Err why
unfolding kept_form
refused_for bytes why is other = ap (λ r. r >>= λ _. Ok bytes) (refused bytes why is other)

pub read_tells : (bytes : List ℕ) (why : FormRefused) → Refuses bytes why → Tells (refusal_told why) (kept_form bytes)
read_tells bytes (Doc refusal) is = refused_for bytes (Doc refusal) is (λ e. absurd cc)
read_tells bytes NoPrimary is = refused_for bytes NoPrimary is (λ e. absurd cc)
read_tells bytes NoId is = refused_for bytes NoId is (λ e. absurd cc)
read_tells bytes (BadExpr path at) is = refused_for bytes (BadExpr path at) is (λ e. absurd cc)
read_tells bytes (UnknownPath path) is = refused_for bytes (UnknownPath path) is (λ e. absurd cc)
read_tells bytes (UnknownControl name) is = refused_for bytes (UnknownControl name) is (λ e. absurd cc)
read_tells bytes (UnknownType path) is = refused_for bytes (UnknownType path) is (λ e. absurd cc)
read_tells bytes (Cycle path) is = refused_for bytes (Cycle path) is (λ e. absurd cc)
read_tells bytes (UnknownList name) is = refused_for bytes (UnknownList name) is (λ e. absurd cc)
read_tells bytes (TooManyFields count) is = refused_for bytes (TooManyFields count) is (λ e. absurd cc)
read_tells bytes (BadEntity path) is = refused_for bytes (BadEntity path) is (λ e. absurd cc)
read_tells bytes NoMemory is = tt

-- What doesn't depend on the order is the same of the definition and of the document's own.
pub same_of : {A : Type 0} (compute : FormDef → A) (missing : A) (bytes : List ℕ) (form : FormDef) → Describes bytes form
    → ((f : FormDef) → DifferInOrder f form → compute f ≡ compute form)
    → compute form ≡ option_map_or compute (definition_of bytes) missing
unfolding definition_of
same_of compute missing bytes form is same =
    let f = described bytes form is in
    sym (ap (λ r. option_map_or compute (result_ok r) missing) f.1 ∙ same f.0 f.2)

pub same_id : (bytes : List ℕ) (form : FormDef) → Describes bytes form → form.id ≡ id_of bytes
unfolding id_of
same_id bytes form is = same_of (λ f. f.id) [] bytes form is (λ f d. d.id)

pub same_version : (bytes : List ℕ) (form : FormDef) → Describes bytes form → form.version ≡ version_of bytes
unfolding version_of
same_version bytes form is = same_of (λ f. f.version) [] bytes form is (λ f d. d.version)

pub same_auto : (bytes : List ℕ) (form : FormDef) → Describes bytes form → form.auto_send ≡ auto_of bytes
unfolding auto_of
same_auto bytes form is = same_of (λ f. f.auto_send) None bytes form is (λ f d. d.auto_send)

initial_differs : (tables : List NamedTable) (form f : FormDef) → DifferInOrder f form
    → initial_in tables f ≡ initial_in tables form
initial_differs tables form f d =
    same_texts f form tables (map (λ field. field.initial) f.fields) d (length-map f.fields (λ field. field.initial))
    ∙ ap (λ fields. (settled form tables (map (λ field. field.initial) fields)).texts) d.fields

pub same_initial : (tables : List NamedTable) (bytes : List ℕ) (form : FormDef) → Describes bytes form
    → initial_in tables form ≡ initial_of tables bytes
unfolding initial_of
same_initial tables bytes form is = same_of (initial_in tables) [] bytes form is (initial_differs tables form)

-- Of two that are equal where the sheet fits, the choice by whether it fits is equal.
where_it_fits : {A : Type 0} (count : ℕ) (sheet : List (List ℕ)) (b : Bool) → (count == length sheet) ≡ b
    → (one other otherwise : A)
    → (length sheet ≡ count → one ≡ other) → (if b then one else otherwise) ≡ (if b then other else otherwise)
where_it_fits count sheet true is one other otherwise same = same (sym (eqb-true count (length sheet) is))
where_it_fits count sheet false is one other otherwise same = refl

-- The choice for two forms with the same fields.
pub fits_differs : {A : Type 0} (sheet : List (List ℕ)) (f form : FormDef) → DifferInOrder f form
    → (one other otherwise : A)
    → (length sheet ≡ length f.fields → one ≡ other)
    → (if fits_form f sheet then one else otherwise) ≡ (if fits_form form sheet then other else otherwise)
fits_differs sheet f form d one other otherwise same =
    where_it_fits (length f.fields) sheet (fits_form f sheet) refl one other otherwise same
    ∙ ap (λ fields. if length fields == length sheet then other else otherwise) d.fields

pub same_settled : (tables : List NamedTable) (sheet : List (List ℕ)) (bytes : List ℕ) (form : FormDef)
    → Describes bytes form
    → settled_in tables sheet form ≡ settled_of tables bytes sheet
unfolding settled_of
same_settled tables sheet bytes form is = same_of (settled_in tables sheet) sheet bytes form is
    (λ f d. fits_differs sheet f form d (settled f tables sheet).texts (settled form tables sheet).texts sheet
    (same_texts f form tables sheet d))

pub same_filled : (tables : List NamedTable) (sheet : List (List ℕ)) (path value bytes : List ℕ) (form : FormDef)
    → Describes bytes form
    → filled_in tables sheet path value form ≡ filled_of tables bytes sheet path value
unfolding filled_of
same_filled tables sheet path value bytes form is = same_of (filled_in tables sheet path value)
    (Err NoQuestion) bytes form is
    (λ f d. fits_differs sheet f form d (answered f tables sheet path value) (answered form tables sheet path value)
    (Err NoQuestion)
    (same_answers f form tables sheet path value d))

lines_differ : (tables : List NamedTable) (sheet : List (List ℕ)) (f form : FormDef) → DifferInOrder f form
    → length sheet ≡ length f.fields
    → lines_from sheet (shown_marks f tables sheet) 0 f.fields
    ≡ lines_from sheet (shown_marks form tables sheet) 0 form.fields
lines_differ tables sheet f form d long =
    ap (λ marks. lines_from sheet marks 0 f.fields) (same_marks f form tables sheet d long)
    ∙ ap (lines_from sheet (shown_marks form tables sheet) 0) d.fields

pub same_lines : (tables : List NamedTable) (sheet : List (List ℕ)) (bytes : List ℕ) (form : FormDef)
    → Describes bytes form
    → lines_in tables sheet form ≡ lines_of tables bytes sheet
unfolding lines_of
same_lines tables sheet bytes form is = same_of (lines_in tables sheet) [] bytes form is
    (λ f d. fits_differs sheet f form d (lines_from sheet (shown_marks f tables sheet) 0 f.fields)
    (lines_from sheet (shown_marks form tables sheet) 0 form.fields) [] (lines_differ tables sheet f form d))
