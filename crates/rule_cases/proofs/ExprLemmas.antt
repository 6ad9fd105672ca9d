-- What is printed of each kind of expression that has parts.
use Rattle.std.specs.Prelude.{ℕ, List, ◌≡◌, ◌++◌, codes}
use Rattle.std.specs.List.{flat_map}
use Rattle.std.proofs.Common.{ap, sym, ◌∙◌}
use Rattle.std.proofs.lemmas.List.Folds.{flat_map-map}
use Rattle.form_def.specs.declared.expr.Func.{Func}
use Rattle.form_def.specs.declared.expr.Op.{Op}
use Rattle.form_def.specs.declared.expr.Expr.{Expr, fold-roll-Expr}
use Rattle.form_def.specs.declared.expr.Expr.TheVariants.{Item, Call, Pair, Negative, rolls-Item, rolls-Call, rolls-Pair, rolls-Negative}
use Rattle.form_def.specs.declared.expr.Expr.TheOpen.{Expr-F}
use Rattle.rule_cases.specs.Expressions.{argument_printed, call_printed, item_printed, pair_printed, expr_printed, expr_with_parts}

pub expr_printed-Item : (table : List ℕ) (filter : Expr) (column : List ℕ) → expr_printed (Item table filter column) ≡ item_printed table (expr_printed filter) column
expr_printed-Item table filter column =
    ap expr_printed (sym (rolls-Item table filter column)) ∙ fold-roll-Expr (List ℕ) expr_with_parts (Expr-F.Item table filter column)

pub expr_printed-Call : (func : Func) (args : List Expr) → expr_printed (Call func args) ≡ call_printed func (flat_map (λ arg. argument_printed (expr_printed arg)) args)
expr_printed-Call func args =
    (ap expr_printed (sym (rolls-Call func args)) ∙ fold-roll-Expr (List ℕ) expr_with_parts (Expr-F.Call func args))
    ∙ ap (call_printed func) (flat_map-map argument_printed expr_printed args)

pub expr_printed-Pair : (op : Op) (left right : Expr) → expr_printed (Pair op left right) ≡ pair_printed op (expr_printed left) (expr_printed right)
expr_printed-Pair op left right =
    ap expr_printed (sym (rolls-Pair op left right)) ∙ fold-roll-Expr (List ℕ) expr_with_parts (Expr-F.Pair op left right)

pub expr_printed-Negative : (operand : Expr) → expr_printed (Negative operand) ≡ codes "-" ++ expr_printed operand
expr_printed-Negative operand =
    ap expr_printed (sym (rolls-Negative operand)) ∙ fold-roll-Expr (List ℕ) expr_with_parts (Expr-F.Negative operand)
