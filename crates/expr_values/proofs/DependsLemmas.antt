-- The value of an expression depends only on the fields that it reads.
use Rattle.std.specs.Prelude.{ℕ, ◌≡◌, Bool, true, List, [], ◌∷◌, map, refl}
use Rattle.std.specs.List.{list_all, concat}
use Rattle.std.proofs.Common.{ap, sym, ◌∙◌, subst}
use Rattle.std.proofs.lemmas.Bool.{and_parts}
use Rattle.form_def.specs.declared.expr.Expr.{Expr, fold-roll-Expr, ind-Expr, roll-Expr, map-Expr}
use Rattle.form_def.specs.declared.expr.Expr.TheOpen.{Expr-F}
use Rattle.form_def.specs.Reads.{reads, reads_with_parts}
use Rattle.expr_values.specs.declared.value.Value.{Value}
use Rattle.expr_values.specs.declared.value.Value.TheVariants.{Words}
use Rattle.expr_values.specs.Operators.{negative, paired}
use Rattle.expr_values.specs.Functions.{called}
use Rattle.expr_values.specs.Rows.{Columns}
use Rattle.expr_values.specs.Evaluation.{Surroundings, value_with_parts, value_in, looked_up}
use Rattle.expr_values.proofs.Truths.{all-first, all-second}

abbrev pub with_fields : (ℕ → List ℕ) → (List ℕ → List Columns) → ℕ → Surroundings
with_fields f rows own = record { fields = f; rows = rows; own = own }

-- with these fields in place of those it has the same value, where they agree on all that it reads
abbrev pub IsSame : (ℕ → List ℕ) → (ℕ → List ℕ) → (List ℕ → List Columns) → ℕ → (ℕ → Bool) → Expr → Type 0
IsSame f g rows own ok e = list_all ok (reads own e) ≡ true → value_in (with_fields f rows own) e ≡ value_in (with_fields g rows own) e

value_roll : (s : Surroundings) (x : Expr-F Expr) → value_in s (roll-Expr x) ≡ value_with_parts s (map-Expr Expr (Columns → Value) (value_in s) x)
value_roll s x = fold-roll-Expr (Columns → Value) (value_with_parts s) x

reads_roll : (own : ℕ) (ok : ℕ → Bool) (x : Expr-F Expr) → list_all ok (reads own (roll-Expr x)) ≡ true → list_all ok (reads_with_parts own (map-Expr Expr (List ℕ) (reads own) x)) ≡ true
reads_roll own ok x h = ap (list_all ok) (sym (fold-roll-Expr (List ℕ) (reads_with_parts own) x)) ∙ h

same_args : (f g : ℕ → List ℕ) (rows : List ℕ → List Columns) (own : ℕ) (ok : ℕ → Bool) (E : Type 0) (at : E → Expr) → ((e : E) → IsSame f g rows own ok (at e))
    → (args : List E) → list_all ok (concat (map (reads own) (map at args))) ≡ true
    → map (value_in (with_fields f rows own)) (map at args) ≡ map (value_in (with_fields g rows own)) (map at args)
same_args f g rows own ok E at holds [] h = refl
same_args f g rows own ok E at holds (e ∷ es) h =
    let here = holds e (all-first ok (reads own (at e)) (concat (map (reads own) (map at es))) h) in
    let behind = same_args f g rows own ok E at holds es (all-second ok (reads own (at e)) (concat (map (reads own) (map at es))) h) in
    ap (λ v. v ∷ map (value_in (with_fields f rows own)) (map at es)) here ∙ ap (λ vs. value_in (with_fields g rows own) (at e) ∷ vs) behind

same_parts : (f g : ℕ → List ℕ) (rows : List ℕ → List Columns) (own : ℕ) (ok : ℕ → Bool) → ((k : ℕ) → ok k ≡ true → f k ≡ g k)
    → (E : Type 0) (at : E → Expr) → ((e : E) → IsSame f g rows own ok (at e)) → (y : Expr-F E)
    → list_all ok (reads_with_parts own (map-Expr Expr (List ℕ) (reads own) (map-Expr E Expr at y))) ≡ true
    → value_with_parts (with_fields f rows own) (map-Expr Expr (Columns → Value) (value_in (with_fields f rows own)) (map-Expr E Expr at y))
    ≡ value_with_parts (with_fields g rows own) (map-Expr Expr (Columns → Value) (value_in (with_fields g rows own)) (map-Expr E Expr at y))
same_parts f g rows own ok same E at holds (Expr-F.Number n) h = refl
same_parts f g rows own ok same E at holds (Expr-F.Words text) h = refl
same_parts f g rows own ok same E at holds Expr-F.Own h = ap (λ t row. Words t) (same own ((and_parts (ok own) true h).0))
same_parts f g rows own ok same E at holds (Expr-F.FieldAt number) h = ap (λ t row. Words t) (same number ((and_parts (ok number) true h).0))
same_parts f g rows own ok same E at holds (Expr-F.Column column) h = refl
same_parts f g rows own ok same E at holds (Expr-F.Item table filter column) h = ap (λ v row. Words (looked_up v column (rows table))) (holds filter h)
same_parts f g rows own ok same E at holds (Expr-F.Call func args) h = ap (λ vs row. called func (map (λ v. v row) vs)) (same_args f g rows own ok E at holds args h)
same_parts f g rows own ok same E at holds (Expr-F.Pair op left right) h =
    ap (λ v row. paired op (v row) (value_in (with_fields f rows own) (at right) row)) (holds left (all-first ok (reads own (at left)) (reads own (at right)) h))
    ∙ ap (λ v row. paired op (value_in (with_fields g rows own) (at left) row) (v row)) (holds right (all-second ok (reads own (at left)) (reads own (at right)) h))
same_parts f g rows own ok same E at holds (Expr-F.Negative negated) h = ap (λ v row. negative (v row)) (holds negated h)

same_layer : (f g : ℕ → List ℕ) (rows : List ℕ → List Columns) (own : ℕ) (ok : ℕ → Bool) → ((k : ℕ) → ok k ≡ true → f k ≡ g k)
    → (E : Type 0) (at : E → Expr) → ((e : E) → IsSame f g rows own ok (at e)) → (y : Expr-F E) → IsSame f g rows own ok (roll-Expr (map-Expr E Expr at y))
same_layer f g rows own ok same E at holds y h =
    value_roll (with_fields f rows own) (map-Expr E Expr at y)
    ∙ same_parts f g rows own ok same E at holds y (reads_roll own ok (map-Expr E Expr at y) h)
    ∙ sym (value_roll (with_fields g rows own) (map-Expr E Expr at y))

pub value_same : (f g : ℕ → List ℕ) (rows : List ℕ → List Columns) (own : ℕ) (ok : ℕ → Bool) → ((k : ℕ) → ok k ≡ true → f k ≡ g k)
    → (e : Expr) → IsSame f g rows own ok e
value_same f g rows own ok same = ind-Expr (IsSame f g rows own ok) (λ x y is. subst (λ z. IsSame f g rows own ok (roll-Expr z)) is (same_layer f g rows own ok same _ (λ e. e.0) (λ e. e.1) y))
