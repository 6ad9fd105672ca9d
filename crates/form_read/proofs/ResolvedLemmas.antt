-- What each kind of expression is resolved to.
use Rattle.std.specs.Prelude.{◌≡◌, ℕ, ℤ, true, false, if◌then◌else◌, List, Result, Ok, Err, map, refl}
use Rattle.std.proofs.Common.{ap, sym, ◌∙◌}
use Rattle.form_def.specs.declared.expr.Func.{Func}
use Rattle.form_def.specs.declared.expr.Op.{Op}
use Rattle.form_def.specs.declared.expr.Expr.{Expr}
use Rattle.form_def.specs.declared.expr.Expr.TheVariants as e
use Rattle.form_expr.specs.declared.syntax.Syntax.{Syntax, fold-roll-Syntax}
use Rattle.form_expr.specs.declared.syntax.Syntax.TheVariants.{Number, Words, Own, Path, Column, Item, Call, Pair, Negative, rolls-Number, rolls-Words, rolls-Own, rolls-Path, rolls-Column, rolls-Item, rolls-Call, rolls-Pair, rolls-Negative}
use Rattle.form_expr.specs.declared.syntax.Syntax.TheOpen.{Syntax-F}
use Rattle.form_read.specs.declared.refusal.FormRefused.{FormRefused}
use Rattle.form_read.specs.declared.refusal.FormRefused.TheVariants.{UnknownList}
use Rattle.form_read.specs.declared.scope.Scope.{Scope}
use Rattle.form_read.specs.Refusals.{Tells, ◌>>=◌}
use Rattle.form_read.specs.Expressions.{is_declared, path_resolved, all_resolved, resolved_with_parts, resolved}
use Rattle.form_read.proofs.TellingLemmas.{tells_then}

abbrev step : Scope → List ℕ → Syntax-F (Result Expr FormRefused) → Result Expr FormRefused
step scope own = resolved_with_parts scope own

pub resolved-Number : (scope : Scope) (own : List ℕ) (n : ℤ) → resolved scope own (Number n) ≡ Ok (e.Number n)
unfolding resolved
resolved-Number scope own n = ap (resolved scope own) (sym (rolls-Number n)) ∙ fold-roll-Syntax (Result Expr FormRefused) (step scope own) (Syntax-F.Number n)

pub resolved-Words : (scope : Scope) (own text : List ℕ) → resolved scope own (Words text) ≡ Ok (e.Words text)
unfolding resolved
resolved-Words scope own text = ap (resolved scope own) (sym (rolls-Words text)) ∙ fold-roll-Syntax (Result Expr FormRefused) (step scope own) (Syntax-F.Words text)

pub resolved-Own : (scope : Scope) (own : List ℕ) → resolved scope own Own ≡ Ok e.Own
unfolding resolved
resolved-Own scope own = ap (resolved scope own) (sym rolls-Own) ∙ fold-roll-Syntax (Result Expr FormRefused) (step scope own) Syntax-F.Own

pub resolved-Path : (scope : Scope) (own path : List ℕ) → resolved scope own (Path path) ≡ path_resolved scope own path
unfolding resolved
resolved-Path scope own path = ap (resolved scope own) (sym (rolls-Path path)) ∙ fold-roll-Syntax (Result Expr FormRefused) (step scope own) (Syntax-F.Path path)

pub resolved-Column : (scope : Scope) (own column : List ℕ) → resolved scope own (Column column) ≡ Ok (e.Column column)
unfolding resolved
resolved-Column scope own column = ap (resolved scope own) (sym (rolls-Column column)) ∙ fold-roll-Syntax (Result Expr FormRefused) (step scope own) (Syntax-F.Column column)

resolved-Item : (scope : Scope) (own table : List ℕ) (filter : Syntax) (column : List ℕ)
    → resolved scope own (Item table filter column) ≡ (if is_declared scope table then (resolved scope own filter >>= λ f. Ok (e.Item table f column)) else Err (UnknownList table))
unfolding resolved
resolved-Item scope own table filter column = ap (resolved scope own) (sym (rolls-Item table filter column)) ∙ fold-roll-Syntax (Result Expr FormRefused) (step scope own) (Syntax-F.Item table filter column)

resolved-Call : (scope : Scope) (own : List ℕ) (func : Func) (args : List Syntax) → resolved scope own (Call func args) ≡ (all_resolved (map (resolved scope own) args) >>= λ es. Ok (e.Call func es))
unfolding resolved
resolved-Call scope own func args = ap (resolved scope own) (sym (rolls-Call func args)) ∙ fold-roll-Syntax (Result Expr FormRefused) (step scope own) (Syntax-F.Call func args)

resolved-Pair : (scope : Scope) (own : List ℕ) (op : Op) (left right : Syntax)
    → resolved scope own (Pair op left right) ≡ (resolved scope own left >>= λ l. (resolved scope own right >>= λ r. Ok (e.Pair op l r)))
unfolding resolved
resolved-Pair scope own op left right = ap (resolved scope own) (sym (rolls-Pair op left right)) ∙ fold-roll-Syntax (Result Expr FormRefused) (step scope own) (Syntax-F.Pair op left right)

resolved-Negative : (scope : Scope) (own : List ℕ) (negated : Syntax) → resolved scope own (Negative negated) ≡ (resolved scope own negated >>= λ n. Ok (e.Negative n))
unfolding resolved
resolved-Negative scope own negated = ap (resolved scope own) (sym (rolls-Negative negated)) ∙ fold-roll-Syntax (Result Expr FormRefused) (step scope own) (Syntax-F.Negative negated)

pub item_unknown : (scope : Scope) (own table : List ℕ) (filter : Syntax) (column : List ℕ) → is_declared scope table ≡ false → resolved scope own (Item table filter column) ≡ Err (UnknownList table)
item_unknown scope own table filter column is = resolved-Item scope own table filter column ∙ (rw is refl)

pub item_refused : (scope : Scope) (own table : List ℕ) (filter : Syntax) (column : List ℕ) (q : FormRefused) → is_declared scope table ≡ true → Tells q (resolved scope own filter)
    → Tells q (resolved scope own (Item table filter column))
item_refused scope own table filter column q is t = rw (resolved-Item scope own table filter column, is) (tells_then q (resolved scope own filter) (λ f. Ok (e.Item table f column)) t)

pub item_resolved : (scope : Scope) (own table : List ℕ) (filter : Syntax) (column : List ℕ) (f : Expr) → is_declared scope table ≡ true → resolved scope own filter ≡ Ok f
    → resolved scope own (Item table filter column) ≡ Ok (e.Item table f column)
item_resolved scope own table filter column f is t = rw (resolved-Item scope own table filter column, is, t) refl

pub call_refused : (scope : Scope) (own : List ℕ) (func : Func) (args : List Syntax) (q : FormRefused) → Tells q (all_resolved (map (resolved scope own) args)) → Tells q (resolved scope own (Call func args))
call_refused scope own func args q t = rw (resolved-Call scope own func args) (tells_then q (all_resolved (map (resolved scope own) args)) (λ es. Ok (e.Call func es)) t)

pub call_resolved : (scope : Scope) (own : List ℕ) (func : Func) (args : List Syntax) (es : List Expr) → all_resolved (map (resolved scope own) args) ≡ Ok es → resolved scope own (Call func args) ≡ Ok (e.Call func es)
call_resolved scope own func args es t = rw (resolved-Call scope own func args, t) refl

pub left_refused : (scope : Scope) (own : List ℕ) (op : Op) (left right : Syntax) (q : FormRefused) → Tells q (resolved scope own left) → Tells q (resolved scope own (Pair op left right))
left_refused scope own op left right q t = rw (resolved-Pair scope own op left right) (tells_then q (resolved scope own left) (λ l. (resolved scope own right >>= λ r. Ok (e.Pair op l r))) t)

pub right_refused : (scope : Scope) (own : List ℕ) (op : Op) (left right : Syntax) (l : Expr) (q : FormRefused) → resolved scope own left ≡ Ok l → Tells q (resolved scope own right)
    → Tells q (resolved scope own (Pair op left right))
right_refused scope own op left right l q is t = rw (resolved-Pair scope own op left right, is) (tells_then q (resolved scope own right) (λ r. Ok (e.Pair op l r)) t)

pub pair_resolved : (scope : Scope) (own : List ℕ) (op : Op) (left right : Syntax) (l r : Expr) → resolved scope own left ≡ Ok l → resolved scope own right ≡ Ok r
    → resolved scope own (Pair op left right) ≡ Ok (e.Pair op l r)
pair_resolved scope own op left right l r is are = rw (resolved-Pair scope own op left right, is, are) refl

pub negative_refused : (scope : Scope) (own : List ℕ) (negated : Syntax) (q : FormRefused) → Tells q (resolved scope own negated) → Tells q (resolved scope own (Negative negated))
negative_refused scope own negated q t = rw (resolved-Negative scope own negated) (tells_then q (resolved scope own negated) (λ n. Ok (e.Negative n)) t)

pub negative_resolved : (scope : Scope) (own : List ℕ) (negated : Syntax) (n : Expr) → resolved scope own negated ≡ Ok n → resolved scope own (Negative negated) ≡ Ok (e.Negative n)
negative_resolved scope own negated n is = rw (resolved-Negative scope own negated, is) refl
