-- What is printed of values.
use Rattle.std.specs.Prelude.{ℕ, List, ◌++◌, codes, Bool, true, false}
use Rattle.std.specs.List.{flat_map}
use Rattle.std.specs.Fmt.{signed_decimal}
use Rattle.expr_values.specs.declared.value.Value.{Value}
use Rattle.expr_values.specs.declared.value.Value.TheVariants.{Truth, Number, NotANumber, Words}
use Rattle.rule_cases.specs.Forms.{value_printed as text_printed}

abbrev pub truth_printed : Bool → List ℕ
truth_printed true = codes "true"
truth_printed false = codes "false"

abbrev pub shown_word : Bool → List ℕ
shown_word true = codes "shown"
shown_word false = codes "hidden"

-- the kind of a value, and the value as a text
abbrev pub value_printed : Value → List ℕ
value_printed (Truth truth) = codes "truth " ++ truth_printed truth
value_printed (Number number) = codes "number " ++ signed_decimal number
value_printed NotANumber = codes "NaN"
value_printed (Words text) = codes "words " ++ text

-- the values that a question offers
abbrev pub offers_printed : List (List ℕ) → List ℕ
offers_printed values = codes "offers" ++ flat_map text_printed values
