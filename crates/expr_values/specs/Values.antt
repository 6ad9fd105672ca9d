-- Values (XPath 1.0, section 1, in a profile): truths, whole numbers of size at most 10^15, not a number, and texts;
-- and each of them as a truth, as a number and as a text (section 4).
use Rattle.std.specs.Prelude.{ℕ, ℤ, pos, unsigned_abs, Bool, true, false, not, ◌^◌, ◌==◌, nat_le, if◌then◌else◌, List}
use Rattle.std.specs.Prelude.{[], ◌∷◌, Option, Some, None, codes}
use Rattle.std.specs.Fmt.{signed_decimal}
use Rattle.expr_values.specs.declared.value.Value.{Value}
use Rattle.expr_values.specs.declared.value.Value.TheVariants.{Truth, Number, NotANumber, Words}
use Rattle.expr_values.specs.Numbers.{number_in}

-- the number, or not a number where it is too large
abbrev pub whole : ℤ → Value
whole n = if nat_le (unsigned_abs n) (10 ^ 15) then Number n else NotANumber

abbrev pub truth_of : Value → Bool
truth_of (Truth truth) = truth
truth_of (Number n) = not (unsigned_abs n == 0)
truth_of NotANumber = false
truth_of (Words []) = false
truth_of (Words (c ∷ cs)) = true

-- none is not a number
abbrev pub number_of : Value → Option ℤ
number_of (Truth true) = Some (pos 1)
number_of (Truth false) = Some (pos 0)
number_of (Number n) = Some n
number_of NotANumber = None
number_of (Words text) = number_in text

abbrev pub text_of : Value → List ℕ
text_of (Truth true) = codes "true"
text_of (Truth false) = codes "false"
text_of (Number n) = signed_decimal n
text_of NotANumber = codes "NaN"
text_of (Words text) = text

-- the text of a calculated field: that of its value, and none for not a number
abbrev pub calculated_text : Value → List ℕ
calculated_text NotANumber = []
calculated_text (Truth truth) = text_of (Truth truth)
calculated_text (Number n) = text_of (Number n)
calculated_text (Words text) = text
