-- The words of expressions: operators, and functions with how many arguments they take.
use Rattle.std.specs.Prelude.{ℕ, ◌==◌, nat_lt, not, Bool, true, if◌then◌else◌, List, codes, Option, Some, None}
use Rattle.std.specs.Str.{bytes_eq}
use Rattle.form_def.specs.declared.expr.Func.{Func}
use Rattle.form_def.specs.declared.expr.Func.TheVariants.{Yes, No, Not, Selected, CountSelected, StringLength, Concat}
use Rattle.form_def.specs.declared.expr.Func.TheVariants.{Choose, Coalesce}
use Rattle.form_def.specs.declared.expr.Op.{Op}
use Rattle.form_def.specs.declared.expr.Op.TheVariants as op
use Rattle.form_tokens.specs.declared.token.Token.{Token}
use Rattle.form_tokens.specs.declared.token.Token.TheVariants as tok

abbrev pub named_operator : List ℕ → Option Op
named_operator name =
    if bytes_eq name (codes "or") then Some op.Or else
    if bytes_eq name (codes "and") then Some op.And else
    if bytes_eq name (codes "mod") then Some op.Modulo else None

-- the operator that a token is, behind an operand
abbrev pub operator_of : Token → Option Op
operator_of (tok.Name name) = named_operator name
operator_of tok.Equal = Some op.Equal
operator_of tok.NotEqual = Some op.NotEqual
operator_of tok.Less = Some op.Less
operator_of tok.LessEqual = Some op.LessEqual
operator_of tok.Greater = Some op.Greater
operator_of tok.GreaterEqual = Some op.GreaterEqual
operator_of tok.Plus = Some op.Add
operator_of tok.Minus = Some op.Subtract
operator_of tok.Star = Some op.Multiply
operator_of _ = None

unfoldable pub function_of : List ℕ → Option Func
function_of name =
    if bytes_eq name (codes "true") then Some Yes else
    if bytes_eq name (codes "false") then Some No else
    if bytes_eq name (codes "not") then Some Not else
    if bytes_eq name (codes "selected") then Some Selected else
    if bytes_eq name (codes "count-selected") then Some CountSelected else
    if bytes_eq name (codes "string-length") then Some StringLength else
    if bytes_eq name (codes "concat") then Some Concat else
    if bytes_eq name (codes "if") then Some Choose else
    if bytes_eq name (codes "coalesce") then Some Coalesce else None

-- how many arguments a function takes; as many as are given, from one on, where there is no number
abbrev pub arguments : Func → Option ℕ
arguments Yes = Some 0
arguments No = Some 0
arguments Not = Some 1
arguments Selected = Some 2
arguments CountSelected = Some 1
arguments StringLength = Some 1
arguments Concat = None
arguments Choose = Some 3
arguments Coalesce = Some 2

abbrev pub is_number_taken : Option ℕ → ℕ → Bool
is_number_taken None n = nat_lt 0 n
is_number_taken (Some k) n = n == k

abbrev pub is_more_taken : Option ℕ → ℕ → Bool
is_more_taken None n = true
is_more_taken (Some k) n = nat_lt n k

-- whether a function takes so many arguments
abbrev pub may_take : Func → ℕ → Bool
may_take func n = is_number_taken (arguments func) n

-- whether a function takes more arguments than so many
abbrev pub takes_more : Func → ℕ → Bool
takes_more func n = is_more_taken (arguments func) n

abbrev pub is_no_slash : ℕ → Bool
is_no_slash b = not (b == 47)
