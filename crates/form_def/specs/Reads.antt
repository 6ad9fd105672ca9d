-- Which fields an expression reads. Of each kind of expression, with what its parts read in their places.
use Rattle.std.specs.Prelude.{ℕ, List, [], ◌∷◌, ◌++◌, Option, Some, None}
use Rattle.std.specs.List.{concat}
use Rattle.form_def.specs.declared.expr.Expr.{Expr, fold-Expr}
use Rattle.form_def.specs.declared.expr.Expr.TheOpen.{Expr-F}

-- `.` reads the field whose expression it is
abbrev pub reads_with_parts : ℕ → Expr-F (List ℕ) → List ℕ
reads_with_parts own (Expr-F.Number n) = []
reads_with_parts own (Expr-F.Words text) = []
reads_with_parts own Expr-F.Own = own ∷ []
reads_with_parts own (Expr-F.FieldAt number) = number ∷ []
reads_with_parts own (Expr-F.Column column) = []
reads_with_parts own (Expr-F.Item table filter column) = filter
reads_with_parts own (Expr-F.Call func args) = concat args
reads_with_parts own (Expr-F.Pair op left right) = left ++ right
reads_with_parts own (Expr-F.Negative negated) = negated

-- the numbers of the fields that an expression of the field `own` reads, in the order in which they stand in it
abbrev pub reads : ℕ → Expr → List ℕ
reads own = fold-Expr (List ℕ) (reads_with_parts own)

abbrev pub reads_of : ℕ → Option Expr → List ℕ
reads_of own None = []
reads_of own (Some expr) = reads own expr
