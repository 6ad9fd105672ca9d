-- What each kind of expression reads.
use Rattle.std.specs.Prelude.{ℕ, List, [], ◌∷◌, ◌++◌, ◌≡◌, map, refl}
use Rattle.std.specs.List.{concat, flat_map}
use Rattle.std.proofs.Common.{ap, sym, ◌∙◌}
use Rattle.form_def.specs.declared.expr.Func.{Func}
use Rattle.form_def.specs.declared.expr.Op.{Op}
use Rattle.form_def.specs.declared.expr.Expr.{Expr, fold-roll-Expr}
use Rattle.form_def.specs.declared.expr.Expr.TheVariants.{Own, FieldAt, Item, Call, Pair, Negative, rolls-Own, rolls-FieldAt, rolls-Item, rolls-Call, rolls-Pair, rolls-Negative}
use Rattle.form_def.specs.declared.expr.Expr.TheOpen.{Expr-F}
use Rattle.form_def.specs.Reads.{reads, reads_with_parts}

pub reads-Own : (own : ℕ) → reads own Own ≡ own ∷ []
reads-Own own = ap (reads own) (sym rolls-Own) ∙ fold-roll-Expr (List ℕ) (reads_with_parts own) Expr-F.Own

pub reads-FieldAt : (own number : ℕ) → reads own (FieldAt number) ≡ number ∷ []
reads-FieldAt own number = ap (reads own) (sym (rolls-FieldAt number)) ∙ fold-roll-Expr (List ℕ) (reads_with_parts own) (Expr-F.FieldAt number)

pub reads-Item : (own : ℕ) (table : List ℕ) (filter : Expr) (column : List ℕ) → reads own (Item table filter column) ≡ reads own filter
reads-Item own table filter column = ap (reads own) (sym (rolls-Item table filter column)) ∙ fold-roll-Expr (List ℕ) (reads_with_parts own) (Expr-F.Item table filter column)

reads-args : (own : ℕ) (args : List Expr) → concat (map (reads own) args) ≡ flat_map (reads own) args
reads-args own [] = refl
reads-args own (e ∷ es) = ap (λ r. reads own e ++ r) (reads-args own es)

pub reads-Call : (own : ℕ) (func : Func) (args : List Expr) → reads own (Call func args) ≡ flat_map (reads own) args
reads-Call own func args =
    (ap (reads own) (sym (rolls-Call func args)) ∙ fold-roll-Expr (List ℕ) (reads_with_parts own) (Expr-F.Call func args)) ∙ reads-args own args

pub reads-Pair : (own : ℕ) (op : Op) (left right : Expr) → reads own (Pair op left right) ≡ reads own left ++ reads own right
reads-Pair own op left right = ap (reads own) (sym (rolls-Pair op left right)) ∙ fold-roll-Expr (List ℕ) (reads_with_parts own) (Expr-F.Pair op left right)

pub reads-Negative : (own : ℕ) (negated : Expr) → reads own (Negative negated) ≡ reads own negated
reads-Negative own negated = ap (reads own) (sym (rolls-Negative negated)) ∙ fold-roll-Expr (List ℕ) (reads_with_parts own) (Expr-F.Negative negated)
