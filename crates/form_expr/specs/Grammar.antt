-- The grammar of expressions (XPath 1.0 in a profile), over tokens. `inside` tells whether the filter of an item is
-- being read: there a bare name is a column, and there is no `.`, no step and no call of `instance`. `room` is how
-- many parentheses and brackets may be open at one place.
use Rattle.std.specs.Prelude.{◌≡◌, ℤ, ℕ, suc, ◌+◌, Bool, true, false, List, [], ◌∷◌, ◌++◌, codes, length, Some, None}
use Rattle.std.specs.List.{list_all}
use Rattle.form_def.specs.declared.expr.Func.{Func}
use Rattle.form_def.specs.declared.expr.Op.{Op}
use Rattle.form_tokens.specs.declared.token.Token.{Token}
use Rattle.form_tokens.specs.declared.token.Token.TheVariants as tok
use Rattle.form_expr.specs.declared.syntax.Syntax.{Syntax}
use Rattle.form_expr.specs.declared.syntax.Syntax.TheVariants.{Number, Words, Own, Path, Column, Item, Call, Negative}
use Rattle.form_expr.specs.declared.syntax.Itemset.{Itemset}
use Rattle.form_expr.specs.Words.{operator_of, function_of, may_take, is_no_slash}
use Rattle.form_expr.specs.Precedence.{Link, IsTree}

-- `instance('table')/root/item`
abbrev pub rows_of : List ℕ → List Token
rows_of table =
    tok.Name (codes "instance") ∷ tok.Open ∷ tok.Quoted table ∷ tok.Close ∷ tok.Absolute (codes "/root/item") ∷ []

mutual
  -- one operand
  pub data IsOperand : Bool → ℕ → List Token → Syntax → Type 0 where
    number : (inside : Bool) (room : ℕ) (n : ℤ) → IsOperand inside room (tok.Digits n ∷ []) (Number n)
    text : (inside : Bool) (room : ℕ) (text : List ℕ) → IsOperand inside room (tok.Quoted text ∷ []) (Words text)
    period : (room : ℕ) → IsOperand false room (tok.Dot ∷ []) Own
    absolute : (inside : Bool) (room : ℕ) (path : List ℕ) → IsOperand inside room (tok.Absolute path ∷ []) (Path path)
    relative : (room : ℕ) (path : List ℕ) → IsOperand false room (tok.Relative path ∷ []) (Path path)
    column : (room : ℕ) (name : List ℕ) → IsOperand true room (tok.Name name ∷ []) (Column name)
    negative : (inside : Bool) (room : ℕ) (ts : List Token) (e : Syntax) → IsOperand inside room ts e
        → IsOperand inside room (tok.Minus ∷ ts) (Negative e)
    group : (inside : Bool) (room : ℕ) (ts : List Token) (e : Syntax) → IsExpr inside room ts e
        → IsOperand inside (suc room) (tok.Open ∷ (ts ++ tok.Close ∷ [])) e
    call_alone : (inside : Bool) (room : ℕ) (name : List ℕ) (func : Func) → function_of name ≡ Some func
        → may_take func 0 ≡ true → IsOperand inside (suc room) (tok.Name name ∷ tok.Open ∷ tok.Close ∷ [])
        (Call func [])
    call : (inside : Bool) (room : ℕ) (name : List ℕ) (func : Func) (ts : List Token) (args : List Syntax)
        (last : Syntax) → function_of name ≡ Some func → AreArgs inside room ts args last
        → may_take func (length args + 1) ≡ true → IsOperand inside (suc room)
        (tok.Name name ∷ tok.Open ∷ (ts ++ tok.Close ∷ [])) (Call func (args ++ last ∷ []))
    item : (room : ℕ) (table : List ℕ) (ts : List Token) (filter : Syntax) (column : List ℕ)
        → IsExpr true room ts filter → list_all is_no_slash column ≡ true
        → IsOperand false (suc room) (rows_of table ++ tok.OpenBracket
        ∷ (ts ++ tok.CloseBracket ∷ tok.Absolute (47 ∷ column) ∷ [])) (Item table filter column)

  -- arguments with commas between them, the last one by itself
  pub data AreArgs : Bool → ℕ → List Token → List Syntax → Syntax → Type 0 where
    first : (inside : Bool) (room : ℕ) (ts : List Token) (e : Syntax) → IsExpr inside room ts e
        → AreArgs inside room ts [] e
    next : (inside : Bool) (room : ℕ) (ts us : List Token) (args : List Syntax) (e last : Syntax)
        → AreArgs inside room ts args e → IsExpr inside room us last
        → AreArgs inside room (ts ++ tok.Comma ∷ us) (args ++ e ∷ []) last

  -- operands, each with the operator behind it
  pub data AreLinks : Bool → ℕ → List Token → List Link → Type 0 where
    none : (inside : Bool) (room : ℕ) → AreLinks inside room [] []
    link : (inside : Bool) (room : ℕ) (ts us : List Token) (links : List Link) (left : Syntax) (sign : Token)
        (op : Op) → AreLinks inside room ts links → IsOperand inside room us left
        → operator_of sign ≡ Some op → AreLinks inside room (ts ++ (us ++ sign ∷ []))
        (links ++ (record { left = left; op = op }) ∷ [])

  -- operands with operators between them, grouped by precedence
  pub data IsExpr : Bool → ℕ → List Token → Syntax → Type 0 where
    grouped : (inside : Bool) (room : ℕ) (ts us : List Token) (links : List Link) (last e : Syntax)
        → AreLinks inside room ts links → IsOperand inside room us last → IsTree links last e
        → IsExpr inside room (ts ++ us) e

-- the rows of a table, with or without a filter
pub data IsItemset : ℕ → List Token → Itemset → Type 0 where
  all_rows : (room : ℕ) (table : List ℕ) → IsItemset (suc room) (rows_of table)
      (record { table = table; filter = None })
  filtered : (room : ℕ) (table : List ℕ) (ts : List Token) (filter : Syntax) → IsExpr true room ts filter
      → IsItemset (suc room) (rows_of table ++ tok.OpenBracket ∷ (ts ++ tok.CloseBracket ∷ []))
      (record { table = table; filter = Some filter })

-- tokens that are an expression, or an itemset, in which at most 32 parentheses and brackets are open at one place
abbrev pub IsWholeExpr : List Token → Syntax → Type 0
IsWholeExpr ts e = IsExpr false 32 ts e

abbrev pub IsWholeItemset : List Token → Itemset → Type 0
IsWholeItemset ts set = IsItemset 32 ts set

-- something whole begins with these tokens
pub record Begins {A : Type 0} (IsWhole : List Token → A → Type 0) (ts : List Token) : Type 0 where
  pub more : List Token
  pub whole : A
  pub is_whole : IsWhole (ts ++ more) whole
