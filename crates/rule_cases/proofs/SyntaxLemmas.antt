-- What is printed of each kind of expression as it is written that has parts.
use Rattle.std.specs.Prelude.{ℕ, List, ◌≡◌, ◌++◌, codes}
use Rattle.std.specs.List.{flat_map}
use Rattle.std.proofs.Common.{ap, sym, ◌∙◌}
use Rattle.std.proofs.lemmas.List.Folds.{flat_map-map}
use Rattle.form_def.specs.declared.expr.Func.{Func}
use Rattle.form_def.specs.declared.expr.Op.{Op}
use Rattle.form_expr.specs.declared.syntax.Syntax.{Syntax, fold-roll-Syntax}
use Rattle.form_expr.specs.declared.syntax.Syntax.TheVariants.{Item, Call, Pair, Negative, rolls-Item, rolls-Call, rolls-Pair, rolls-Negative}
use Rattle.form_expr.specs.declared.syntax.Syntax.TheOpen.{Syntax-F}
use Rattle.rule_cases.specs.Expressions.{argument_printed, call_printed, item_printed, pair_printed, syntax_printed, syntax_with_parts}

pub syntax_printed-Item : (table : List ℕ) (filter : Syntax) (column : List ℕ) → syntax_printed (Item table filter column) ≡ item_printed table (syntax_printed filter) column
syntax_printed-Item table filter column =
    ap syntax_printed (sym (rolls-Item table filter column)) ∙ fold-roll-Syntax (List ℕ) syntax_with_parts (Syntax-F.Item table filter column)

pub syntax_printed-Call : (func : Func) (args : List Syntax) → syntax_printed (Call func args) ≡ call_printed func (flat_map (λ arg. argument_printed (syntax_printed arg)) args)
syntax_printed-Call func args =
    (ap syntax_printed (sym (rolls-Call func args)) ∙ fold-roll-Syntax (List ℕ) syntax_with_parts (Syntax-F.Call func args))
    ∙ ap (call_printed func) (flat_map-map argument_printed syntax_printed args)

pub syntax_printed-Pair : (op : Op) (left right : Syntax) → syntax_printed (Pair op left right) ≡ pair_printed op (syntax_printed left) (syntax_printed right)
syntax_printed-Pair op left right =
    ap syntax_printed (sym (rolls-Pair op left right)) ∙ fold-roll-Syntax (List ℕ) syntax_with_parts (Syntax-F.Pair op left right)

pub syntax_printed-Negative : (operand : Syntax) → syntax_printed (Negative operand) ≡ codes "-" ++ syntax_printed operand
syntax_printed-Negative operand =
    ap syntax_printed (sym (rolls-Negative operand)) ∙ fold-roll-Syntax (List ℕ) syntax_with_parts (Syntax-F.Negative operand)
