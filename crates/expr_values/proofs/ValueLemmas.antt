-- The value of each kind of expression.
use Rattle.std.specs.Prelude.{ℕ, List, [], ◌∷◌, ◌≡◌, map, refl}
use Rattle.std.proofs.Common.{ap, sym, ◌∙◌}
use Rattle.form_def.specs.declared.expr.Func.{Func}
use Rattle.form_def.specs.declared.expr.Expr.{Expr, fold-roll-Expr}
use Rattle.form_def.specs.declared.expr.Expr.TheVariants.{Item, Call, rolls-Item, rolls-Call}
use Rattle.form_def.specs.declared.expr.Expr.TheOpen.{Expr-F}
use Rattle.expr_values.specs.declared.value.Value.{Value}
use Rattle.expr_values.specs.declared.value.Value.TheVariants.{Words}
use Rattle.expr_values.specs.Functions.{called}
use Rattle.expr_values.specs.Rows.{Columns}
use Rattle.expr_values.specs.Evaluation.{Surroundings, value_with_parts, value_in, looked_up}

pub value_in-Item : (s : Surroundings) (table : List ℕ) (filter : Expr) (column : List ℕ) (row : Columns)
    → value_in s (Item table filter column) row ≡ Words (looked_up (value_in s filter) column (s.rows table))
value_in-Item s table filter column row =
    ap (λ v. v row) (ap (value_in s) (sym (rolls-Item table filter column)) ∙ fold-roll-Expr (Columns → Value) (value_with_parts s) (Expr-F.Item table filter column))

pub item_is : (s : Surroundings) (table column : List ℕ) (filter got : Expr) (row : Columns) (expr : Expr) (text : List ℕ)
    → expr ≡ Item table filter column → got ≡ filter → text ≡ looked_up (value_in s got) column (s.rows table) → Words text ≡ value_in s expr row
item_is s table column filter got row expr text is same found =
    ap Words (found ∙ ap (λ f. looked_up (value_in s f) column (s.rows table)) same) ∙ sym (ap (λ e. value_in s e row) is ∙ value_in-Item s table filter column row)

values_of-args : (s : Surroundings) (row : Columns) (args : List Expr) → map (λ arg. arg row) (map (value_in s) args) ≡ map (λ arg. value_in s arg row) args
values_of-args s row [] = refl
values_of-args s row (e ∷ es) = ap (λ vs. value_in s e row ∷ vs) (values_of-args s row es)

pub value_in-Call : (s : Surroundings) (func : Func) (args : List Expr) (row : Columns)
    → value_in s (Call func args) row ≡ called func (map (λ arg. value_in s arg row) args)
value_in-Call s func args row =
    ap (λ v. v row) (ap (value_in s) (sym (rolls-Call func args)) ∙ fold-roll-Expr (Columns → Value) (value_with_parts s) (Expr-F.Call func args))
    ∙ ap (called func) (values_of-args s row args)
