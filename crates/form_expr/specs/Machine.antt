-- The reader's stack, token by token. Laws join it to the grammar.
use Rattle.std.specs.Prelude.{ℕ, ◌+◌, ◌==◌, nat_lt, nat_le, Bool, true, false, if◌then◌else◌, List, [], ◌∷◌, ◌++◌}
use Rattle.std.specs.Prelude.{codes, length, Option, Some, None}
use Rattle.std.specs.List.{list_all, list_any}
use Rattle.std.specs.Str.{bytes_eq}
use Rattle.rosa_pieces.specs.Reading.{◌>>=◌}
use Rattle.form_def.specs.declared.expr.Func.{Func}
use Rattle.form_def.specs.declared.expr.Op.{Op}
use Rattle.form_tokens.specs.declared.token.Token.{Token}
use Rattle.form_tokens.specs.declared.token.Token.TheVariants as tok
use Rattle.form_expr.specs.declared.syntax.Syntax.{Syntax}
use Rattle.form_expr.specs.declared.syntax.Syntax.TheVariants as syn
use Rattle.form_expr.specs.declared.syntax.Itemset.{Itemset}
use Rattle.form_expr.specs.declared.pending.Pending.{Pending}
use Rattle.form_expr.specs.declared.pending.Pending.TheVariants as pend
use Rattle.form_expr.specs.declared.expected.Expected.{Expected}
use Rattle.form_expr.specs.declared.expected.Expected.TheVariants as want
use Rattle.form_expr.specs.Words.{operator_of, function_of, may_take, takes_more, is_no_slash}
use Rattle.form_expr.specs.Precedence.{level}

-- what waits, the innermost first, and what comes next
pub record State : Type 0 where
  pub stack : List Pending
  pub expected : Expected

abbrev pub at : List Pending → Expected → State
at stack expected = record { stack = stack; expected = expected }

-- ---- what waits

abbrev pub is_open_pending : Pending → Bool
is_open_pending pend.Minus = false
is_open_pending (pend.Left left op) = false
is_open_pending pend.Group = true
is_open_pending (pend.Call func args) = true
is_open_pending (pend.Filter table) = true
is_open_pending pend.Itemset = false

-- how many parentheses and brackets are open
abbrev pub depth : List Pending → ℕ
depth [] = 0
depth (pending ∷ outer) = (if is_open_pending pending then 1 else 0) + depth outer

abbrev pub has_room : List Pending → Bool
has_room stack = nat_lt (depth stack) 32

abbrev pub is_filter : Pending → Bool
is_filter pend.Minus = false
is_filter (pend.Left left op) = false
is_filter pend.Group = false
is_filter (pend.Call func args) = false
is_filter (pend.Filter table) = true
is_filter pend.Itemset = false

-- whether a filter is being read
abbrev pub is_inside : List Pending → Bool
is_inside stack = list_any is_filter stack

-- how tightly what waits binds the operand behind it
abbrev pub tightness : Pending → ℕ
tightness pend.Minus = 7
tightness (pend.Left left op) = level op
tightness pend.Group = 0
tightness (pend.Call func args) = 0
tightness (pend.Filter table) = 0
tightness pend.Itemset = 0

-- the operand, with what binds it
abbrev pub bound : Pending → Syntax → Syntax
bound pend.Minus operand = syn.Negative operand
bound (pend.Left left op) operand = syn.Pair op left operand
bound pend.Group operand = operand
bound (pend.Call func args) operand = operand
bound (pend.Filter table) operand = operand
bound pend.Itemset operand = operand

-- the operand with all that binds it at least as tightly, and what waits round that
abbrev pub bound_by : ℕ → List Pending → Syntax → List Pending × Syntax
bound_by least [] operand = ([], operand)
bound_by least (pending ∷ outer) operand = if nat_le least (tightness pending)
    then bound_by least outer (bound pending operand) else (pending ∷ outer, operand)

abbrev pub signs : ℕ
signs = 7

abbrev pub all_operators : ℕ
all_operators = 1

-- ---- steps

abbrev pub behind_bound : List Pending × Syntax → State
behind_bound x = at x.0 (want.Operator x.1)

-- behind an operand, to which the minus signs before it apply
abbrev pub behind : List Pending → Syntax → State
behind stack operand = behind_bound (bound_by signs stack operand)

abbrev pub before_operand : Pending → List Pending → State
before_operand pending stack = at (pending ∷ stack) want.Operand

abbrev pub left_of : Op → List Pending × Syntax → State
left_of op x = before_operand (pend.Left x.1 op) x.0

abbrev pub with_operator : Op → List Pending → Syntax → State
with_operator op stack operand = left_of op (bound_by (level op) stack operand)

-- a call opens, and where it takes arguments the first one comes
abbrev pub opened_call : Func → List Pending → State
opened_call func stack =
    if may_take func 0 then at stack (want.CallClosing func) else before_operand (pend.Call func []) stack

-- a name that is no column
abbrev pub word_step : List Pending → List ℕ → Option State
word_step stack name = if bytes_eq name (codes "instance") then Some (at stack want.TableOpening)
    else (function_of name >>= λ func. Some (at stack (want.CallOpening func)))

abbrev pub name_step : List Pending → List ℕ → Option State
name_step stack name = if is_inside stack then Some (at stack (want.Named name))
    else if has_room stack then word_step stack name else None

-- an operand that can't stand in a filter
abbrev pub outside_step : List Pending → Syntax → Option State
outside_step stack operand = if is_inside stack then None else Some (behind stack operand)

abbrev pub group_step : List Pending → Option State
group_step stack = if has_room stack then Some (before_operand pend.Group stack) else None

abbrev pub operand_step : List Pending → Token → Option State
operand_step stack (tok.Digits n) = Some (behind stack (syn.Number n))
operand_step stack (tok.Quoted text) = Some (behind stack (syn.Words text))
operand_step stack (tok.Absolute path) = Some (behind stack (syn.Path path))
operand_step stack (tok.Relative path) = outside_step stack (syn.Path path)
operand_step stack tok.Dot = outside_step stack syn.Own
operand_step stack (tok.Name name) = name_step stack name
operand_step stack tok.Minus = Some (before_operand pend.Minus stack)
operand_step stack tok.Open = group_step stack
operand_step stack _ = None

-- what closes an expression, behind it

abbrev pub closed_call : List Pending → Func → List Syntax → Option State
closed_call outer func args = if may_take func (length args) then Some (behind outer (syn.Call func args)) else None

abbrev pub next_argument : List Pending → Func → List Syntax → Option State
next_argument outer func args =
    if takes_more func (length args) then Some (before_operand (pend.Call func args) outer) else None

abbrev pub close_step : List Pending × Syntax → Option State
close_step (pend.Group ∷ outer, whole) = Some (behind outer whole)
close_step (pend.Call func args ∷ outer, whole) = closed_call outer func (args ++ whole ∷ [])
close_step _ = None

abbrev pub comma_step : List Pending × Syntax → Option State
comma_step (pend.Call func args ∷ outer, whole) = next_argument outer func (args ++ whole ∷ [])
comma_step _ = None

abbrev pub bracket_step : List Pending × Syntax → Option State
bracket_step (pend.Filter table ∷ outer, whole) = Some (at outer (want.Value table whole))
bracket_step _ = None

abbrev pub end_step : Token → List Pending × Syntax → Option State
end_step tok.Close x = close_step x
end_step tok.Comma x = comma_step x
end_step tok.CloseBracket x = bracket_step x
end_step _ x = None

abbrev pub operator_or_end : Option Op → List Pending → Syntax → Token → Option State
operator_or_end (Some op) stack operand token = Some (with_operator op stack operand)
operator_or_end None stack operand token = end_step token (bound_by all_operators stack operand)

abbrev pub operator_step : List Pending → Syntax → Token → Option State
operator_step stack operand token = operator_or_end (operator_of token) stack operand token

-- behind a name in a filter

abbrev pub call_step : List Pending → List ℕ → Option State
call_step stack name = if has_room stack then (function_of name >>= λ func. Some (opened_call func stack)) else None

abbrev pub column_step : List Pending × Syntax → Token → Option State
column_step x token = operator_step x.0 x.1 token

abbrev pub named_step : List Pending → List ℕ → Token → Option State
named_step stack name tok.Open = call_step stack name
named_step stack name token = column_step (bound_by signs stack (syn.Column name)) token

-- the parts of a call without arguments, and of the rows of a table

abbrev pub when : {A : Type 0} → Bool → A → Option A
when wanted x = if wanted then Some x else None

abbrev pub is_open : Token → Bool
is_open tok.Open = true
is_open _ = false

abbrev pub is_close : Token → Bool
is_close tok.Close = true
is_close _ = false

abbrev pub is_open_bracket : Token → Bool
is_open_bracket tok.OpenBracket = true
is_open_bracket _ = false

abbrev pub is_instance : Token → Bool
is_instance (tok.Name name) = bytes_eq name (codes "instance")
is_instance _ = false

abbrev pub is_rows : Token → Bool
is_rows (tok.Absolute path) = bytes_eq path (codes "/root/item")
is_rows _ = false

abbrev pub table_step : List Pending → Token → Option State
table_step stack (tok.Quoted table) = Some (at stack (want.TableClosing table))
table_step stack _ = None

-- the column of a path of one name
abbrev pub column_of_path : List ℕ → Option (List ℕ)
column_of_path [] = None
column_of_path (slash ∷ name) = if slash == 47 then when (list_all is_no_slash name) name else None

abbrev pub column_of : Token → Option (List ℕ)
column_of (tok.Absolute path) = column_of_path path
column_of _ = None

abbrev pub is_itemset : Pending → Bool
is_itemset pend.Itemset = true
is_itemset _ = false

-- whether an itemset is read, and no filter in it
abbrev pub is_in_itemset : List Pending → Bool
is_in_itemset [] = false
is_in_itemset (pending ∷ outer) = is_itemset pending

abbrev pub value_step : List Pending → List ℕ → Syntax → Token → Option State
value_step stack table filter token = if is_in_itemset stack then None
    else (column_of token >>= λ column. Some (behind stack (syn.Item table filter column)))

abbrev pub step_at : Expected → List Pending → Token → Option State
step_at want.Operand stack token = operand_step stack token
step_at (want.Operator operand) stack token = operator_step stack operand token
step_at (want.Named name) stack token = named_step stack name token
step_at (want.CallOpening func) stack token = when (is_open token) (opened_call func stack)
step_at (want.CallClosing func) stack token = when (is_close token) (behind stack (syn.Call func []))
step_at want.Instance stack token = when (is_instance token) (at stack want.TableOpening)
step_at want.TableOpening stack token = when (is_open token) (at stack want.Table)
step_at want.Table stack token = table_step stack token
step_at (want.TableClosing table) stack token = when (is_close token) (at stack (want.Rows table))
step_at (want.Rows table) stack token = when (is_rows token) (at stack (want.FilterOpening table))
step_at (want.FilterOpening table) stack token = when (is_open_bracket token) (before_operand (pend.Filter table) stack)
step_at (want.Value table filter) stack token = value_step stack table filter token

unfoldable pub step : State → Token → Option State
step s token = step_at s.expected s.stack token

-- ---- beginning and end

abbrev pub expr_start : State
expr_start = at [] want.Operand

abbrev pub itemset_start : State
itemset_start = at (pend.Itemset ∷ []) want.Instance

abbrev pub when_alone : List Pending × Syntax → Option Syntax
when_alone ([], whole) = Some whole
when_alone (pending ∷ outer, whole) = None

-- the expression that ends here
abbrev pub expr_end_at : Expected → List Pending → Option Syntax
expr_end_at (want.Operator operand) stack = when_alone (bound_by all_operators stack operand)
expr_end_at _ stack = None

abbrev pub expr_end : State → Option Syntax
expr_end s = expr_end_at s.expected s.stack

-- the itemset that ends here
abbrev pub itemset_end_at : Expected → List Pending → Option Itemset
itemset_end_at (want.FilterOpening table) stack = when (is_in_itemset stack) (record { table = table; filter = None })
itemset_end_at (want.Value table filter) stack =
    when (is_in_itemset stack) (record { table = table; filter = Some filter })
itemset_end_at _ stack = None

abbrev pub itemset_end : State → Option Itemset
itemset_end s = itemset_end_at s.expected s.stack
