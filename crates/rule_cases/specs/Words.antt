-- The words for functions, operators and kinds of fields.
use Rattle.std.specs.Prelude.{ℕ, List, codes}
use Rattle.form_def.specs.declared.expr.Func.{Func}
use Rattle.form_def.specs.declared.expr.Func.TheVariants.{Yes, No, Not, Selected, CountSelected, StringLength, Concat}
use Rattle.form_def.specs.declared.expr.Func.TheVariants.{Choose, Coalesce}
use Rattle.form_def.specs.declared.expr.Op.{Op}
use Rattle.form_def.specs.declared.expr.Op.TheVariants.{Or, And, Equal, NotEqual, Less, LessEqual, Greater, GreaterEqual}
use Rattle.form_def.specs.declared.expr.Op.TheVariants.{Add, Subtract, Multiply, Modulo}
use Rattle.form_def.specs.declared.field.Kind.{Kind}
use Rattle.form_def.specs.declared.field.Kind.TheVariants as kind

-- the name of a function in expressions
abbrev pub name_of : Func → List ℕ
name_of Yes = codes "true"
name_of No = codes "false"
name_of Not = codes "not"
name_of Selected = codes "selected"
name_of CountSelected = codes "count-selected"
name_of StringLength = codes "string-length"
name_of Concat = codes "concat"
name_of Choose = codes "if"
name_of Coalesce = codes "coalesce"

-- the sign or the word of an operator
abbrev pub sign_of : Op → List ℕ
sign_of Or = codes "or"
sign_of And = codes "and"
sign_of Equal = codes "="
sign_of NotEqual = codes "!="
sign_of Less = codes "<"
sign_of LessEqual = codes "<="
sign_of Greater = codes ">"
sign_of GreaterEqual = codes ">="
sign_of Add = codes "+"
sign_of Subtract = codes "-"
sign_of Multiply = codes "*"
sign_of Modulo = codes "mod"

abbrev pub kind_name : Kind → List ℕ
kind_name kind.Words = codes " words"
kind_name kind.Whole = codes " whole"
kind_name kind.One = codes " one"
kind_name kind.Many = codes " many"
kind_name kind.Group = codes " group"
kind_name kind.Plain = codes " plain"
