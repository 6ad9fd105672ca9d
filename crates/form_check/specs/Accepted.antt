-- What is told of a form: its id and version, and for each field its path, what its control asks, and what its bind
-- says.
use Rattle.std.specs.Prelude.{ℕ, List, [], ◌∷◌, ◌++◌, codes, Bool, true, false, Option, is_some}
use Rattle.std.specs.List.{flat_map}
use Rattle.collect_text.specs.Printed.{printed_text}
use Rattle.form_def.specs.declared.field.Choices.{Choices}
use Rattle.form_def.specs.declared.field.Choices.TheVariants.{Nothing, Fixed, Rows}
use Rattle.form_def.specs.declared.field.Field.{Field}
use Rattle.form_def.specs.declared.field.Kind.{Kind}
use Rattle.form_def.specs.declared.field.Kind.TheVariants.{Words, Whole, One, Many, Group, Plain}
use Rattle.form_def.specs.declared.form.FormDef.{FormDef}

abbrev pub kind_word : Kind → List ℕ
kind_word Words = codes " text"
kind_word Whole = codes " whole"
kind_word One = codes " one"
kind_word Many = codes " many"
kind_word Group = codes " group"
kind_word Plain = codes " plain"

-- the word, if it is there
abbrev pub word_if : Bool → List ℕ → List ℕ
word_if true word = word
word_if false word = []

-- the words of the expressions that a field has
abbrev pub flags : Field → List ℕ
flags field = word_if (is_some field.relevant) (codes " relevant")
    ++ word_if (is_some field.required) (codes " required")
    ++ word_if (is_some field.readonly) (codes " readonly")
    ++ word_if (is_some field.constraint) (codes " constraint")
    ++ word_if (is_some field.calculate) (codes " calculate")

abbrev pub value_words : List (List ℕ) → List ℕ
value_words values = flat_map (λ value. 32 ∷ printed_text value) values

abbrev pub choices_words : Choices → List ℕ
choices_words Nothing = []
choices_words (Fixed values) = codes " of" ++ value_words values
choices_words (Rows table filter value) =
    codes " of rows " ++ printed_text table ++ word_if (is_some filter) (codes " filtered")

abbrev pub field_line : Field → List ℕ
field_line field =
    printed_text field.path ++ kind_word field.kind ++ choices_words field.choices ++ flags field ++ codes "\n"

abbrev pub head_line : FormDef → List ℕ
head_line form = codes "form " ++ printed_text form.id ++ codes " version " ++ printed_text form.version ++ codes "\n"

abbrev pub form_text : FormDef → List ℕ
form_text form = head_line form ++ flat_map field_line form.fields
