-- What is printed of an expression: parentheses round every operator, and a semicolon behind each argument.
use Rattle.std.specs.Prelude.{ℕ, List, [], ◌++◌, codes, Option, Some, None}
use Rattle.std.specs.List.{flat_map}
use Rattle.std.specs.Fmt.{decimal, signed_decimal}
use Rattle.form_def.specs.declared.expr.Func.{Func}
use Rattle.form_def.specs.declared.expr.Op.{Op}
use Rattle.form_def.specs.declared.expr.Expr.{Expr, fold-Expr}
use Rattle.form_def.specs.declared.expr.Expr.TheOpen.{Expr-F}
use Rattle.form_expr.specs.declared.syntax.Syntax.{Syntax, fold-Syntax}
use Rattle.form_expr.specs.declared.syntax.Syntax.TheOpen.{Syntax-F}
use Rattle.form_expr.specs.declared.syntax.Itemset.{Itemset}
use Rattle.rule_cases.specs.Words.{name_of, sign_of}

abbrev pub item_printed : List ℕ → List ℕ → List ℕ → List ℕ
item_printed table filter column = table ++ codes "[" ++ filter ++ codes "]/" ++ column

abbrev pub argument_printed : List ℕ → List ℕ
argument_printed argument = argument ++ codes ";"

abbrev pub call_printed : Func → List ℕ → List ℕ
call_printed func arguments = name_of func ++ codes "(" ++ arguments ++ codes ")"

abbrev pub pair_printed : Op → List ℕ → List ℕ → List ℕ
pair_printed op left right = codes "(" ++ left ++ codes " " ++ sign_of op ++ codes " " ++ right ++ codes ")"

abbrev pub expr_with_parts : Expr-F (List ℕ) → List ℕ
expr_with_parts (Expr-F.Number n) = signed_decimal n
expr_with_parts (Expr-F.Words text) = codes "'" ++ text ++ codes "'"
expr_with_parts Expr-F.Own = codes "."
expr_with_parts (Expr-F.FieldAt number) = codes "#" ++ decimal number
expr_with_parts (Expr-F.Column column) = codes "@" ++ column
expr_with_parts (Expr-F.Item table filter column) = item_printed table filter column
expr_with_parts (Expr-F.Call func args) = call_printed func (flat_map argument_printed args)
expr_with_parts (Expr-F.Pair op left right) = pair_printed op left right
expr_with_parts (Expr-F.Negative operand) = codes "-" ++ operand

-- an expression of a form, whose fields are numbers
abbrev pub expr_printed : Expr → List ℕ
expr_printed = fold-Expr (List ℕ) expr_with_parts

abbrev pub syntax_with_parts : Syntax-F (List ℕ) → List ℕ
syntax_with_parts (Syntax-F.Number n) = signed_decimal n
syntax_with_parts (Syntax-F.Words text) = codes "'" ++ text ++ codes "'"
syntax_with_parts Syntax-F.Own = codes "."
syntax_with_parts (Syntax-F.Path path) = path
syntax_with_parts (Syntax-F.Column column) = codes "@" ++ column
syntax_with_parts (Syntax-F.Item table filter column) = item_printed table filter column
syntax_with_parts (Syntax-F.Call func args) = call_printed func (flat_map argument_printed args)
syntax_with_parts (Syntax-F.Pair op left right) = pair_printed op left right
syntax_with_parts (Syntax-F.Negative operand) = codes "-" ++ operand

-- an expression as it is written
abbrev pub syntax_printed : Syntax → List ℕ
syntax_printed = fold-Syntax (List ℕ) syntax_with_parts

abbrev pub itemset_filter_printed : Option Syntax → List ℕ
itemset_filter_printed (Some filter) = codes "[" ++ syntax_printed filter ++ codes "]"
itemset_filter_printed None = []

abbrev pub itemset_printed : Itemset → List ℕ
itemset_printed itemset = itemset.table ++ itemset_filter_printed itemset.filter
