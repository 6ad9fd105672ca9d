-- The value of an expression, by its structure.
use Rattle.std.specs.Prelude.{ℕ, Bool, true, cond, if◌then◌else◌, List, [], ◌∷◌, map, find, flat_map, Option, Some}
use Rattle.std.specs.Prelude.{None}
use Rattle.std.specs.List.{slice_index_or, list_any}
use Rattle.std.specs.Option.{option_map_or}
use Rattle.std.specs.Str.{bytes_eq}
use Rattle.field_text.specs.Tables.{NamedTable}
use Rattle.form_def.specs.declared.expr.Expr.{Expr, fold-Expr}
use Rattle.form_def.specs.declared.expr.Expr.TheOpen.{Expr-F}
use Rattle.form_def.specs.declared.form.FormDef.{FormDef}
use Rattle.form_def.specs.Order.{is_marked}
use Rattle.expr_values.specs.declared.value.Value.{Value}
use Rattle.expr_values.specs.declared.value.Value.TheVariants.{Words}
use Rattle.expr_values.specs.Values.{whole, truth_of}
use Rattle.expr_values.specs.Operators.{negative, paired}
use Rattle.expr_values.specs.Functions.{called}
use Rattle.expr_values.specs.Rows.{Columns, rows_named}

-- what an expression is read against: what each field reads as, the rows of each table, and the number of its own field
pub record Surroundings : Type 0 where
  pub fields : ℕ → List ℕ
  pub rows : List ℕ → List Columns
  pub own : ℕ

-- the column of the first row for which the filter holds
abbrev pub looked_up : (Columns → Value) → List ℕ → List Columns → List ℕ
looked_up filter column rows = option_map_or (λ row. row column) (find (λ row. truth_of (filter row)) rows) []

-- of each kind of expression, with the values of its parts in their places, each a function of the row
abbrev pub value_with_parts : Surroundings → Expr-F (Columns → Value) → Columns → Value
value_with_parts s (Expr-F.Number n) row = whole n
value_with_parts s (Expr-F.Words text) row = Words text
value_with_parts s Expr-F.Own row = Words (s.fields s.own)
value_with_parts s (Expr-F.FieldAt number) row = Words (s.fields number)
value_with_parts s (Expr-F.Column column) row = Words (row column)
value_with_parts s (Expr-F.Item table filter column) row = Words (looked_up filter column (s.rows table))
value_with_parts s (Expr-F.Call func args) row = called func (map (λ arg. arg row) args)
value_with_parts s (Expr-F.Pair op left right) row = paired op (left row) (right row)
value_with_parts s (Expr-F.Negative negated) row = negative (negated row)

abbrev pub value_in : Surroundings → Expr → Columns → Value
value_in s = fold-Expr (Columns → Value) (value_with_parts s)

-- whether a filter holds in a row, as it does where there is none
abbrev pub row_holds : Surroundings → Option Expr → Columns → Bool
row_holds s None row = true
row_holds s (Some filter) row = truth_of (value_in s filter row)

-- what a row offers: its column, where the filter holds
abbrev pub offer : Surroundings → Option Expr → List ℕ → Columns → List (List ℕ)
offer s filter column row = if row_holds s filter row then row column ∷ [] else []

-- what the rows of a table offer
abbrev pub offers : Surroundings → Option Expr → List ℕ → List Columns → List (List ℕ)
offers s filter column rows = flat_map (offer s filter column) rows

-- whether a value is among those offered
abbrev pub is_offered : List (List ℕ) → List ℕ → Bool
is_offered values choice = list_any (λ value. bytes_eq value choice) values

-- the text of a field as expressions read it: none where the field isn't shown
abbrev pub text_read : List (List ℕ) → List Bool → ℕ → List ℕ
text_read texts marks number = cond (is_marked marks number) (slice_index_or texts number []) []

-- an expression of the field `own` of a form with these texts, of which the marked ones are shown
abbrev pub surroundings_of : FormDef → List NamedTable → List (List ℕ) → List Bool → ℕ → Surroundings
surroundings_of form tables texts marks own = record
    { fields = text_read texts marks; rows = rows_named form tables; own = own }
