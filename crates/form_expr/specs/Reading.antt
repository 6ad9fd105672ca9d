-- What a text is read as: an expression or an itemset, or the place in bytes at which it stops being one.
use Rattle.std.specs.Prelude.{◌≡◌, ℕ, zero, suc, ◌-◌, nat_lt, if◌then◌else◌, List, [], ◌∷◌, length, reverse, Option}
use Rattle.std.specs.Prelude.{Some, None, Result, Ok, Err, encode_utf8_all}
use Rattle.std.specs.Str.{chars}
use Rattle.field_text.specs.Xml.{is_xml_space}
use Rattle.rosa_pieces.specs.Reading.{◌>>=◌, past}
use Rattle.form_tokens.specs.Tokens.{token_at}
use Rattle.form_expr.specs.declared.syntax.Syntax.{Syntax}
use Rattle.form_expr.specs.declared.syntax.Itemset.{Itemset}
use Rattle.form_expr.specs.declared.syntax.ExprFault.{ExprFault}
use Rattle.form_expr.specs.declared.syntax.ExprFault.TheVariants.{BadExpr, NoMemory}
use Rattle.form_expr.specs.declared.progress.Progress.{Progress}
use Rattle.form_expr.specs.Machine.{State, step, expr_start, expr_end, itemset_start, itemset_end}

-- the state behind the token at the front, and what follows the white space behind it
unfoldable pub taken : State → List ℕ → Option (State × List ℕ)
taken s cs = do
  token ← token_at cs
  next ← step s token.0
  Some (next, past is_xml_space token.1)

abbrev pub goes_on : (State → List ℕ → Result State (List ℕ)) → List ℕ → Option (State × List ℕ) → Result State (List ℕ)
goes_on others cs None = Err cs
goes_on others cs (Some x) = others x.0 x.1

-- the state behind all tokens, or the characters before which they stop; the number bounds that of the tokens
abbrev pub read_on : ℕ → State → List ℕ → Result State (List ℕ)
read_on zero s cs = Err cs
read_on (suc n) s [] = Ok s
read_on (suc n) s (c ∷ cs) = goes_on (λ next rest. read_on n next rest) (c ∷ cs) (taken s (c ∷ cs))

unfoldable pub read_from : State → List ℕ → Result State (List ℕ)
read_from s cs = read_on (suc (length cs)) s cs

-- the place in bytes of what stands at the end of a text
abbrev pub place_before : List ℕ → List ℕ → ℕ
place_before text cs = length text - length (encode_utf8_all cs)

abbrev pub longest_text : ℕ
longest_text = 2000

abbrev pub placed : List ℕ → Result State (List ℕ) → Result State ℕ
placed text (Ok s) = Ok s
placed text (Err cs) = Err (place_before text cs)

-- the state behind all tokens of a text, or the place at which they stop
unfoldable pub read_all : State → List ℕ → Result State ℕ
read_all start text = if nat_lt longest_text (length text) then Err longest_text
    else placed text (read_from start (past is_xml_space (chars text)))

abbrev pub or_place : {A : Type 0} → ℕ → Option A → Result A ℕ
or_place at (Some x) = Ok x
or_place at None = Err at

abbrev pub ended : {A : Type 0} → (State → Option A) → List ℕ → Result State ℕ → Result A ℕ
ended end text (Ok s) = or_place (length text) (end s)
ended end text (Err at) = Err at

unfoldable pub expr_of : List ℕ → Result Syntax ℕ
expr_of text = ended expr_end text (read_all expr_start text)

unfoldable pub itemset_of : List ℕ → Result Itemset ℕ
itemset_of text = ended itemset_end text (read_all itemset_start text)

-- What a function returned, seen by view, is this reading, unless memory ran out.
abbrev pub IsFault : {A : Type 0} → ExprFault → Result A ℕ → Type 0
IsFault (BadExpr at) reading = reading ≡ Err at
IsFault NoMemory reading = Unit {0}

abbrev pub Reads : {X A : Type 0} → (X → A) → Result X ExprFault → Result A ℕ → Type 0
Reads view (Ok x) reading = reading ≡ Ok (view x)
Reads view (Err fault) reading = IsFault fault reading

-- how far the code has read, with the innermost of what waits last
abbrev pub state_of : Progress → State
state_of progress = record { stack = reverse progress.stack; expected = progress.expected }

-- what the code read is this reading: all tokens, or those before the rest
abbrev pub IsReached : Result State (List ℕ) → Option Progress → List ℕ → Type 0
IsReached reading (Some progress) rest = reading ≡ Ok (state_of progress)
IsReached reading None rest = reading ≡ Err rest
