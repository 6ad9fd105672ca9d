-- A path that doesn't begin with a slash has no column.
use Rattle.std.proofs.Common.{◌≡◌, ℕ, ◌==◌, List, [], ◌∷◌, None, refl, ap}
use Rattle.std.specs.List.{list_all}
use Rattle.std.proofs.lemmas.Bool.{eqb-true, cond-false, false_from_ne_true}
use Rattle.form_expr.specs.Words.{is_no_slash}
use Rattle.form_expr.specs.Machine.{when, column_of_path}

pub no_column : (path : List ℕ) → ((rest : List ℕ) → path ≡ 47 ∷ rest → ⊥) → column_of_path path ≡ None
no_column [] other = refl
no_column (slash ∷ name) other = cond-false (slash == 47) (when (list_all is_no_slash name) name) None (false_from_ne_true (slash == 47) (λ same. other name (ap (λ (c : ℕ). c ∷ name) (eqb-true slash 47 same))))
