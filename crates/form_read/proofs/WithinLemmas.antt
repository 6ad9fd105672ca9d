-- An expression that is resolved reads fields of the form alone.
use Rattle.std.specs.Prelude.{◌≡◌, ℕ, ℤ, ◌<◌, Bool, true, false, cond, nat_lt, if◌then◌else◌, List, [], ◌∷◌, ◌++◌, Option, Some, None, Result, Ok, Err, IfOk, length, map, position, refl}
use Rattle.std.specs.List.{list_all, flat_map, position_or_len}
use Rattle.std.proofs.Common.{ap, sym, ◌∙◌, subst}
use Rattle.std.proofs.lemmas.Bool.{lt-ltb, ltb-true, and_from}
use Rattle.std.proofs.lemmas.Result.{IfOk-at_ok}
use Rattle.std.proofs.lemmas.List.Folds.{list_all-append}
use Rattle.form_def.specs.declared.expr.Op.{Op}
use Rattle.form_def.specs.declared.expr.Expr.{Expr, fold-roll-Expr}
use Rattle.form_def.specs.declared.expr.Expr.TheVariants as e
use Rattle.form_def.specs.declared.expr.Expr.TheVariants.{rolls-Number, rolls-Words, rolls-Column}
use Rattle.form_def.specs.declared.expr.Expr.TheOpen.{Expr-F}
use Rattle.form_def.specs.Reads.{reads, reads_with_parts}
use Rattle.form_def.proofs.ReadsLemmas.{reads-Own, reads-FieldAt, reads-Item, reads-Call, reads-Pair, reads-Negative}
use Rattle.form_outline.specs.declared.outline.PrimaryField.{PrimaryField}
use Rattle.form_expr.specs.declared.syntax.Syntax.{Syntax, fold-roll-Syntax, ind-Syntax, roll-Syntax, map-Syntax}
use Rattle.form_expr.specs.declared.syntax.Syntax.TheOpen.{Syntax-F}
use Rattle.form_read.specs.declared.refusal.FormRefused.{FormRefused}
use Rattle.form_read.specs.declared.refusal.FormRefused.TheVariants.{UnknownList}
use Rattle.form_read.specs.declared.scope.Scope.{Scope}
use Rattle.form_read.specs.Refusals.{◌>>=◌}
use Rattle.form_read.specs.Paths.{is_leaf_at, leaf_of, has_at_sign, read_from, path_from, field_read}
use Rattle.form_read.specs.Expressions.{is_declared, read_or_refused, path_resolved, all_resolved, resolved_with_parts, resolved}

abbrev pub AreWithin : ℕ → List ℕ → Type 0
AreWithin count ks = list_all (λ k. nat_lt k count) ks ≡ true

-- an expression of the field `number` reads fields below this count alone
abbrev pub IsWithin : ℕ → ℕ → Expr → Type 0
IsWithin count number x = AreWithin count (reads number x)

pub then_holds : {A B : Type 0} (P : A → Type 0) (Q : B → Type 0) (r : Result A FormRefused) (f : A → Result B FormRefused) → IfOk r P → ((x : A) → P x → IfOk (f x) Q) → IfOk (r >>= f) Q
then_holds P Q (Ok x) f p g = g x p
then_holds P Q (Err refusal) f p g = tt

pub both_within : (count : ℕ) (xs ys : List ℕ) → AreWithin count xs → AreWithin count ys → AreWithin count (xs ++ ys)
both_within count xs ys x y = list_all-append (λ k. nat_lt k count) xs ys ∙ and_from _ _ x y

one_within : (count k : ℕ) → k < count → AreWithin count (k ∷ [])
one_within count k h = and_from _ _ (lt-ltb k count h) refl

reads-Number : (own : ℕ) (n : ℤ) → reads own (e.Number n) ≡ []
reads-Number own n = ap (reads own) (sym (rolls-Number n)) ∙ fold-roll-Expr (List ℕ) (reads_with_parts own) (Expr-F.Number n)

reads-Words : (own : ℕ) (text : List ℕ) → reads own (e.Words text) ≡ []
reads-Words own text = ap (reads own) (sym (rolls-Words text)) ∙ fold-roll-Expr (List ℕ) (reads_with_parts own) (Expr-F.Words text)

reads-Column : (own : ℕ) (column : List ℕ) → reads own (e.Column column) ≡ []
reads-Column own column = ap (reads own) (sym (rolls-Column column)) ∙ fold-roll-Expr (List ℕ) (reads_with_parts own) (Expr-F.Column column)

-- the numbers that an expression reads are these
by_reads : (count number : ℕ) (x : Expr) (ks : List ℕ) → reads number x ≡ ks → AreWithin count ks → IsWithin count number x
by_reads count number x ks is h = ap (list_all (λ k. nat_lt k count)) is ∙ h

abbrev pub IsFound : ℕ → Option ℕ → Type 0
IsFound count None = Unit {0}
IsFound count (Some k) = k < count

found_if : (n count : ℕ) (b : Bool) → nat_lt n count ≡ b → IsFound count (cond b (Some n) None)
found_if n count true is = ltb-true n count is
found_if n count false is = tt

pub position_within : {A : Type 0} (p : A → Bool) (xs : List A) → IsFound (length xs) (position p xs)
position_within p xs = found_if (position_or_len p xs) (length xs) _ refl

readable_if : (count : ℕ) (b : Bool) (o : Option ℕ) → IsFound count o → IsFound count (if b then None else o)
readable_if count true o h = tt
readable_if count false o h = h

readable_within : (slots : List PrimaryField) (path : Option (List ℕ)) → IsFound (length slots) (read_from slots path)
readable_within slots None = tt
readable_within slots (Some path) = readable_if (length slots) (has_at_sign path) (leaf_of slots path) (position_within (is_leaf_at path) slots)

field_at_within : (count number : ℕ) (path : List ℕ) (o : Option ℕ) → IsFound count o → IfOk (read_or_refused path o) (IsWithin count number)
field_at_within count number path None h = tt
field_at_within count number path (Some k) h = by_reads count number (e.FieldAt k) (k ∷ []) (reads-FieldAt number k) (one_within count k h)

path_within : (scope : Scope) (own : List ℕ) (number : ℕ) (path : List ℕ) → IfOk (path_resolved scope own path) (IsWithin (length scope.slots) number)
path_within scope own number path = field_at_within (length scope.slots) number path (field_read scope.slots own path) (readable_within scope.slots (path_from own path))

item_if : (count number : ℕ) (b : Bool) (table column : List ℕ) (filter : Result Expr FormRefused) → IfOk filter (IsWithin count number)
    → IfOk (if b then (filter >>= λ f. Ok (e.Item table f column)) else Err (UnknownList table)) (IsWithin count number)
item_if count number true table column filter h = then_holds (IsWithin count number) (IsWithin count number) filter (λ f. Ok (e.Item table f column)) h (λ f is. by_reads count number (e.Item table f column) (reads number f) (reads-Item number table f column) is)
item_if count number false table column filter h = tt

abbrev AllWithin : ℕ → ℕ → List Expr → Type 0
AllWithin count number es = AreWithin count (flat_map (reads number) es)

args_within : (count number : ℕ) (f : Syntax → Result Expr FormRefused) (E : Type 0) (at : E → Syntax) → ((s : E) → IfOk (f (at s)) (IsWithin count number))
    → (args : List E) → IfOk (all_resolved (map f (map at args))) (AllWithin count number)
args_within count number f E at holds [] = refl
args_within count number f E at holds (s ∷ ss) =
    then_holds (IsWithin count number) (AllWithin count number) (f (at s)) _ (holds s)
    (λ x is. then_holds (AllWithin count number) (AllWithin count number) (all_resolved (map f (map at ss))) (λ es. Ok (x ∷ es)) (args_within count number f E at holds ss)
    (λ es are. both_within count (reads number x) (flat_map (reads number) es) is are))

pair_within : (count number : ℕ) (op : Op) (left right : Result Expr FormRefused) → IfOk left (IsWithin count number) → IfOk right (IsWithin count number)
    → IfOk (left >>= λ l. (right >>= λ r. Ok (e.Pair op l r))) (IsWithin count number)
pair_within count number op left right a b =
    then_holds (IsWithin count number) (IsWithin count number) left _ a
    (λ l is. then_holds (IsWithin count number) (IsWithin count number) right (λ r. Ok (e.Pair op l r)) b
    (λ r are. by_reads count number (e.Pair op l r) (reads number l ++ reads number r) (reads-Pair number op l r) (both_within count (reads number l) (reads number r) is are)))

-- an expression whose parts read fields of the form alone
parts_within : (scope : Scope) (own : List ℕ) (number : ℕ) → number < length scope.slots → (E : Type 0) (at : E → Syntax) → ((s : E) → IfOk (resolved scope own (at s)) (IsWithin (length scope.slots) number))
    → (y : Syntax-F E) → IfOk (resolved_with_parts scope own (map-Syntax Syntax (Result Expr FormRefused) (resolved scope own) (map-Syntax E Syntax at y))) (IsWithin (length scope.slots) number)
parts_within scope own number h E at holds (Syntax-F.Number n) = by_reads (length scope.slots) number (e.Number n) [] (reads-Number number n) refl
parts_within scope own number h E at holds (Syntax-F.Words text) = by_reads (length scope.slots) number (e.Words text) [] (reads-Words number text) refl
parts_within scope own number h E at holds Syntax-F.Own = by_reads (length scope.slots) number e.Own (number ∷ []) (reads-Own number) (one_within (length scope.slots) number h)
parts_within scope own number h E at holds (Syntax-F.Path path) = path_within scope own number path
parts_within scope own number h E at holds (Syntax-F.Column column) = by_reads (length scope.slots) number (e.Column column) [] (reads-Column number column) refl
parts_within scope own number h E at holds (Syntax-F.Item table filter column) = item_if (length scope.slots) number (is_declared scope table) table column (resolved scope own (at filter)) (holds filter)
parts_within scope own number h E at holds (Syntax-F.Call func args) =
    then_holds (AllWithin (length scope.slots) number) (IsWithin (length scope.slots) number) (all_resolved (map (resolved scope own) (map at args))) (λ es. Ok (e.Call func es))
    (args_within (length scope.slots) number (resolved scope own) E at holds args)
    (λ es are. by_reads (length scope.slots) number (e.Call func es) (flat_map (reads number) es) (reads-Call number func es) are)
parts_within scope own number h E at holds (Syntax-F.Pair op left right) = pair_within (length scope.slots) number op (resolved scope own (at left)) (resolved scope own (at right)) (holds left) (holds right)
parts_within scope own number h E at holds (Syntax-F.Negative negated) =
    then_holds (IsWithin (length scope.slots) number) (IsWithin (length scope.slots) number) (resolved scope own (at negated)) (λ n. Ok (e.Negative n)) (holds negated)
    (λ n is. by_reads (length scope.slots) number (e.Negative n) (reads number n) (reads-Negative number n) is)

abbrev Resolves : Scope → List ℕ → ℕ → Syntax → Type 0
Resolves scope own number syntax = IfOk (resolved scope own syntax) (IsWithin (length scope.slots) number)

resolved_roll : (scope : Scope) (own : List ℕ) (x : Syntax-F Syntax) → resolved scope own (roll-Syntax x) ≡ resolved_with_parts scope own (map-Syntax Syntax (Result Expr FormRefused) (resolved scope own) x)
unfolding resolved
resolved_roll scope own x = fold-roll-Syntax (Result Expr FormRefused) (resolved_with_parts scope own) x

layer_within : (scope : Scope) (own : List ℕ) (number : ℕ) → number < length scope.slots → (E : Type 0) (at : E → Syntax) → ((s : E) → Resolves scope own number (at s)) → (y : Syntax-F E) → Resolves scope own number (roll-Syntax (map-Syntax E Syntax at y))
layer_within scope own number h E at holds y =
    subst (λ r. IfOk r (IsWithin (length scope.slots) number)) (sym (resolved_roll scope own (map-Syntax E Syntax at y))) (parts_within scope own number h E at holds y)

pub resolves_within : (scope : Scope) (own : List ℕ) (number : ℕ) (syntax : Syntax) → number < length scope.slots → Resolves scope own number syntax
resolves_within scope own number syntax h = ind-Syntax (Resolves scope own number) (λ x y is. subst (λ z. Resolves scope own number (roll-Syntax z)) is (layer_within scope own number h _ (λ s. s.0) (λ s. s.1) y)) syntax

pub resolved_within : (scope : Scope) (own : List ℕ) (number : ℕ) (syntax : Syntax) (expr : Expr) → number < length scope.slots → resolved scope own syntax ≡ Ok expr
    → list_all (λ k. nat_lt k (length scope.slots)) (reads number expr) ≡ true
resolved_within scope own number syntax expr h is = IfOk-at_ok (IsWithin (length scope.slots) number) is (resolves_within scope own number syntax h)
