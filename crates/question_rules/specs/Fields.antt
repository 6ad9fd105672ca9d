-- The expressions of a field, read with the texts of a form's fields, of which the marked ones are shown.
use Rattle.std.specs.Prelude.{ℕ, Bool, List, [], Option, Some, None}
use Rattle.std.specs.List.{slice_index_or}
use Rattle.field_text.specs.Tables.{NamedTable}
use Rattle.form_def.specs.declared.expr.Expr.{Expr}
use Rattle.form_def.specs.declared.form.FormDef.{FormDef}
use Rattle.expr_values.specs.declared.value.Value.{Value}
use Rattle.expr_values.specs.Values.{truth_of}
use Rattle.expr_values.specs.Rows.{no_columns}
use Rattle.expr_values.specs.Evaluation.{value_in, surroundings_of}

abbrev pub text_at : List (List ℕ) → ℕ → List ℕ
text_at texts number = slice_index_or texts number []

-- the value of an expression of the field `own`, outside any row
abbrev pub value_of : FormDef → List NamedTable → List (List ℕ) → List Bool → ℕ → Expr → Value
value_of form tables texts marks own expr = value_in (surroundings_of form tables texts marks own) expr no_columns

-- whether an expression holds, and what counts where it is absent
abbrev pub holds_or : Bool → FormDef → List NamedTable → List (List ℕ) → List Bool → ℕ → Option Expr → Bool
holds_or absent form tables texts marks own None = absent
holds_or absent form tables texts marks own (Some expr) = truth_of (value_of form tables texts marks own expr)
