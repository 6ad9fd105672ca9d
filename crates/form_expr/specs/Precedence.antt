-- Precedence (XPath 1.0, section 3.5): operands with operators between them as one tree. The operator that applies
-- last is the last one of those that bind loosest, so operators of one level group to the left.
use Rattle.std.specs.Prelude.{◌≡◌, ℕ, nat_lt, nat_le, true, List, [], ◌∷◌, ◌++◌}
use Rattle.std.specs.List.{list_all}
use Rattle.form_def.specs.declared.expr.Op.{Op}
use Rattle.form_def.specs.declared.expr.Op.TheVariants.{Or, And, Equal, NotEqual, Less, LessEqual, Greater}
use Rattle.form_def.specs.declared.expr.Op.TheVariants.{GreaterEqual, Add, Subtract, Multiply, Modulo}
use Rattle.form_expr.specs.declared.syntax.Syntax.{Syntax}
use Rattle.form_expr.specs.declared.syntax.Syntax.TheVariants.{Pair}

-- the looser, the lower
abbrev pub level : Op → ℕ
level Or = 1
level And = 2
level Equal = 3
level NotEqual = 3
level Less = 4
level LessEqual = 4
level Greater = 4
level GreaterEqual = 4
level Add = 5
level Subtract = 5
level Multiply = 6
level Modulo = 6

-- an operand with the operator behind it
pub record Link : Type 0 where
  pub left : Syntax
  pub op : Op

-- operands, each with the operator behind it, and the last operand are this tree
pub data IsTree : List Link → Syntax → Syntax → Type 0 where
  alone : (operand : Syntax) → IsTree [] operand operand
  pair : (before after : List Link) (link : Link) (last left right : Syntax)
      → list_all (λ k. nat_le (level link.op) (level k.op)) before ≡ true
      → list_all (λ k. nat_lt (level link.op) (level k.op)) after ≡ true
      → IsTree before link.left left → IsTree after last right
      → IsTree (before ++ link ∷ after) last (Pair link.op left right)
