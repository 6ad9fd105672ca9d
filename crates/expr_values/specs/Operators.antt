-- Operators between values (XPath 1.0, sections 3.4 and 3.5, in a profile).
use Rattle.std.specs.Prelude.{ℤ, neg_ℤ, ◌+ℤ◌, ◌-ℤ◌, ◌*ℤ◌, unsigned_abs, int_rem, int_lt, int_le, Bool, false, not}
use Rattle.std.specs.Prelude.{◌&&◌, ◌||◌, ◌==◌, if◌then◌else◌, Option, Some, None}
use Rattle.std.specs.Ordering.{int_eq}
use Rattle.std.specs.Str.{bytes_eq}
use Rattle.form_def.specs.declared.expr.Op.{Op}
use Rattle.form_def.specs.declared.expr.Op.TheVariants.{Or, And, Equal, NotEqual, Less, LessEqual, Greater}
use Rattle.form_def.specs.declared.expr.Op.TheVariants.{GreaterEqual, Add, Subtract, Multiply, Modulo}
use Rattle.expr_values.specs.declared.value.Value.{Value}
use Rattle.expr_values.specs.declared.value.Value.TheVariants.{Truth, Number, NotANumber, Words}
use Rattle.expr_values.specs.Values.{whole, truth_of, number_of}

abbrev pub same_truth : Bool → Bool → Bool
same_truth a b = if a then b else not b

-- a comparison of numbers: not a number stands in none
abbrev pub compared : (ℤ → ℤ → Bool) → Option ℤ → Option ℤ → Bool
compared test (Some a) (Some b) = test a b
compared test (Some a) None = false
compared test None b = false

abbrev pub equal_numbers : Value → Value → Bool
equal_numbers a b = compared int_eq (number_of a) (number_of b)

-- as truths where either is a truth, else as numbers where either is a number, else as texts
abbrev pub equal : Value → Value → Bool
equal (Truth a) b = same_truth a (truth_of b)
equal (Number a) (Truth b) = same_truth (truth_of (Number a)) b
equal (Number a) b = equal_numbers (Number a) b
equal NotANumber (Truth b) = same_truth false b
equal NotANumber b = false
equal (Words a) (Truth b) = same_truth (truth_of (Words a)) b
equal (Words a) (Words b) = bytes_eq a b
equal (Words a) b = equal_numbers (Words a) b

-- arithmetic of numbers: with not a number it gives that
abbrev pub computed : (ℤ → ℤ → Value) → Option ℤ → Option ℤ → Value
computed op (Some a) (Some b) = op a b
computed op (Some a) None = NotANumber
computed op None b = NotANumber

-- what is left over by division, with the sign of the left side
abbrev pub remainder : ℤ → ℤ → Value
remainder a b = if unsigned_abs b == 0 then NotANumber else whole (int_rem a b)

abbrev pub opposite : Option ℤ → Value
opposite (Some n) = whole (neg_ℤ n)
opposite None = NotANumber

abbrev pub negative : Value → Value
negative a = opposite (number_of a)

abbrev pub paired : Op → Value → Value → Value
paired Or a b = Truth (truth_of a || truth_of b)
paired And a b = Truth (truth_of a && truth_of b)
paired Equal a b = Truth (equal a b)
paired NotEqual a b = Truth (not (equal a b))
paired Less a b = Truth (compared int_lt (number_of a) (number_of b))
paired LessEqual a b = Truth (compared int_le (number_of a) (number_of b))
paired Greater a b = Truth (compared int_lt (number_of b) (number_of a))
paired GreaterEqual a b = Truth (compared int_le (number_of b) (number_of a))
paired Add a b = computed (λ n m. whole (n +ℤ m)) (number_of a) (number_of b)
paired Subtract a b = computed (λ n m. whole (n -ℤ m)) (number_of a) (number_of b)
paired Multiply a b = computed (λ n m. whole (n *ℤ m)) (number_of a) (number_of b)
paired Modulo a b = computed remainder (number_of a) (number_of b)
