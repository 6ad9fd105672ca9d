-- The expression that a text stands for: its paths are looked up among the fields, and its tables among the secondary
-- instances.
use Rattle.std.specs.Prelude.{ℕ, Bool, false, if◌then◌else◌, List, [], ◌∷◌, Option, Some, None, Result, Ok, Err}
use Rattle.std.specs.List.{list_any}
use Rattle.std.specs.Str.{bytes_eq}
use Rattle.form_def.specs.declared.expr.Expr.{Expr}
use Rattle.form_def.specs.declared.expr.Expr.TheVariants as e
use Rattle.form_expr.specs.declared.syntax.Syntax.{Syntax, fold-Syntax}
use Rattle.form_expr.specs.declared.syntax.Syntax.TheOpen.{Syntax-F}
use Rattle.form_expr.specs.Reading.{expr_of}
use Rattle.form_outline.specs.declared.outline.ModelPart.{ModelPart}
use Rattle.form_outline.specs.declared.outline.ModelPart.TheVariants as part
use Rattle.form_read.specs.declared.refusal.FormRefused.{FormRefused}
use Rattle.form_read.specs.declared.refusal.FormRefused.TheVariants.{BadExpr, UnknownPath, UnknownList}
use Rattle.form_read.specs.declared.scope.Scope.{Scope}
use Rattle.form_read.specs.Refusals.{◌>>=◌}
use Rattle.form_read.specs.Paths.{field_read}

abbrev pub is_table : List ℕ → ModelPart → Bool
is_table name part.Primary = false
is_table name (part.Bind bind) = false
is_table name (part.Table table) = bytes_eq table.id name
is_table name (part.Submission auto_send) = false
is_table name (part.SetValue setvalue) = false
is_table name (part.Other element) = false

-- a secondary instance of this name is declared, wherever in the model
abbrev pub is_declared : Scope → List ℕ → Bool
is_declared scope name = list_any (is_table name) scope.model

abbrev pub read_or_refused : List ℕ → Option ℕ → Result Expr FormRefused
read_or_refused path (Some number) = Ok (e.FieldAt number)
read_or_refused path None = Err (UnknownPath path)

-- the refusal has the path as it is written
abbrev pub path_resolved : Scope → List ℕ → List ℕ → Result Expr FormRefused
path_resolved scope own path = read_or_refused path (field_read scope.slots own path)

abbrev pub all_resolved : List (Result Expr FormRefused) → Result (List Expr) FormRefused
all_resolved [] = Ok []
all_resolved (r ∷ rs) = do
  first ← r
  others ← all_resolved rs
  Ok (first ∷ others)

-- an expression by its parts, of which the first that is refused counts
abbrev pub resolved_with_parts : Scope → List ℕ → Syntax-F (Result Expr FormRefused) → Result Expr FormRefused
resolved_with_parts scope own (Syntax-F.Number n) = Ok (e.Number n)
resolved_with_parts scope own (Syntax-F.Words text) = Ok (e.Words text)
resolved_with_parts scope own Syntax-F.Own = Ok e.Own
resolved_with_parts scope own (Syntax-F.Path path) = path_resolved scope own path
resolved_with_parts scope own (Syntax-F.Column column) = Ok (e.Column column)
resolved_with_parts scope own (Syntax-F.Item table filter column) =
    if is_declared scope table then (filter >>= λ f. Ok (e.Item table f column)) else Err (UnknownList table)
resolved_with_parts scope own (Syntax-F.Call func args) = all_resolved args >>= λ es. Ok (e.Call func es)
resolved_with_parts scope own (Syntax-F.Pair op left right) = left >>= λ l. (right >>= λ r. Ok (e.Pair op l r))
resolved_with_parts scope own (Syntax-F.Negative negated) = negated >>= λ n. Ok (e.Negative n)

-- an expression of the field of the path `own`
unfoldable pub resolved : Scope → List ℕ → Syntax → Result Expr FormRefused
resolved scope own = fold-Syntax (Result Expr FormRefused) (resolved_with_parts scope own)

abbrev pub or_bad : {A : Type 0} → List ℕ → Result A ℕ → Result A FormRefused
or_bad path (Ok x) = Ok x
or_bad path (Err at) = Err (BadExpr path at)

-- the expression that a text is, in an attribute of the bind of this field
unfoldable pub expr_at : Scope → List ℕ → List ℕ → Result Expr FormRefused
expr_at scope own text = do
  syntax ← or_bad own (expr_of text)
  resolved scope own syntax

abbrev pub optional_at : Scope → List ℕ → Option (List ℕ) → Result (Option Expr) FormRefused
optional_at scope own None = Ok None
optional_at scope own (Some text) = expr_at scope own text >>= λ x. Ok (Some x)
