-- The rows of a form's fields.
use Rattle.std.specs.Prelude.{ℕ, zero, suc, ◌+◌, ◌<◌, ◌≡◌, Bool, true, false, nat_lt, List, [], ◌∷◌, ◌++◌, Option, Some, None, length, Contains, slice_get, position, cond, refl}
use Rattle.std.specs.List.{list_all, position_or_len}
use Rattle.std.specs.Option.{option_map_or, option_to_list}
use Rattle.std.proofs.Common.{ap, sym, subst, ◌∙◌, arith, eqb, eq-eqb, ltb-true, add-zero}
use Rattle.std.proofs.lemmas.List.Folds.{list_all-append}
use Rattle.form_def.specs.declared.field.Field.{Field}
use Rattle.form_def.specs.Reads.{reads_of}
use Rattle.form_def.specs.Fields.{parent_of, reads_of_choices, reads_below, are_within}
use Rattle.form_def.specs.Order.{dependencies, dependencies_at, are_ordered, is_order}
use Rattle.form_order.specs.Rows.{rows_from, rows_of, row, AreWithin}
use Rattle.form_order.specs.Cycles.{NoCycle, IsFirstCycle}
use Rattle.form_order.specs.Walks.{IsOrder}
use Rattle.form_order.proofs.LeadsLemmas.{leads-same}
use Rattle.form_order.proofs.ListLemmas.{and-first, and-second, and-both, passes}

row-rows_from : (all : List Field) (number : ℕ) (fs : List Field) (k : ℕ) → row (rows_from all number fs) k ≡ option_map_or (λ f. dependencies all (number + k) f) (slice_get fs k) []
row-rows_from all number [] k = refl
row-rows_from all number (f ∷ fs) zero = ap (λ n. dependencies all n f) (sym (add-zero number))
row-rows_from all number (f ∷ fs) (suc k) =
    row-rows_from all (number + 1) fs k ∙ ap (λ n. option_map_or (λ g. dependencies all n g) (slice_get fs k) []) (let same : number + 1 + k ≡ number + suc k = omega arith in same)

pub row-rows_of : (fields : List Field) (k : ℕ) → row (rows_of fields) k ≡ dependencies_at fields k
row-rows_of fields k = row-rows_from fields 0 fields k ∙ ap (λ n. option_map_or (λ f. dependencies fields n f) (slice_get fields k) []) (let same : 0 + k ≡ k = omega arith in same)

length-rows_from : (all : List Field) (number : ℕ) (fs : List Field) → length (rows_from all number fs) ≡ length fs
length-rows_from all number [] = refl
length-rows_from all number (f ∷ fs) = ap (λ n. suc n) (length-rows_from all (number + 1) fs)

pub length-rows_of : (fields : List Field) → length (rows_of fields) ≡ length fields
length-rows_of fields = length-rows_from fields 0 fields

below : ℕ → List ℕ → Bool
below count numbers = list_all (λ k. nat_lt k count) numbers

within_at : (count number : ℕ) (fs : List Field) (k : ℕ) (f : Field) → are_within count number fs ≡ true → slice_get fs k ≡ Some f → reads_below count (number + k) f ≡ true
within_at count number [] k f within at = absurd (cc)
within_at count number (g ∷ gs) zero f within at =
    let same : g ≡ f = cc in
    let here : reads_below count number g ≡ true = and-first (reads_below count number g) (are_within count (number + 1) gs) within in
    rw (add-zero number) (subst (λ (h : Field). reads_below count number h ≡ true) same here)
within_at count number (g ∷ gs) (suc k) f within at =
    let others : are_within count (number + 1) gs ≡ true = and-second (reads_below count number g) (are_within count (number + 1) gs) within in
    let there : reads_below count (number + 1 + k) f ≡ true = within_at count (number + 1) gs k f others at in
    let same : number + 1 + k ≡ number + suc k = omega arith in
    subst (λ (n : ℕ). reads_below count n f ≡ true) same there

front_below : (p : ℕ → Bool) (xs ys : List ℕ) → list_all p (xs ++ ys) ≡ true → list_all p xs ≡ true
front_below p xs ys all = and-first (list_all p xs) (list_all p ys) (sym (list_all-append p xs ys) ∙ all)

back_below : (p : ℕ → Bool) (xs ys : List ℕ) → list_all p (xs ++ ys) ≡ true → list_all p ys ≡ true
back_below p xs ys all = and-second (list_all p xs) (list_all p ys) (sym (list_all-append p xs ys) ∙ all)

both_below : (p : ℕ → Bool) (xs ys : List ℕ) → list_all p xs ≡ true → list_all p ys ≡ true → list_all p (xs ++ ys) ≡ true
both_below p xs ys front back = list_all-append p xs ys ∙ and-both (list_all p xs) (list_all p ys) front back

position_below : (p : Field → Bool) (fields : List Field) (k : ℕ) (b : Bool) → nat_lt (position_or_len p fields) (length fields) ≡ b
    → cond b (Some (position_or_len p fields)) None ≡ Some k → nat_lt k (length fields) ≡ true
position_below p fields k true low is = let same : position_or_len p fields ≡ k = cc in subst (λ (n : ℕ). nat_lt n (length fields) ≡ true) same low
position_below p fields k false high is = absurd (cc)

parent_below : (p : Field → Bool) (fields : List Field) (r : Option ℕ) → position p fields ≡ r → list_all (λ k. nat_lt k (length fields)) (option_to_list r) ≡ true
parent_below p fields None is = refl
parent_below p fields (Some k) is =
    and-both (nat_lt k (length fields)) true (position_below p fields k (nat_lt (position_or_len p fields) (length fields)) refl is) refl

dependencies_below : (fields : List Field) (number : ℕ) (f : Field) → reads_below (length fields) number f ≡ true → list_all (λ k. nat_lt k (length fields)) (dependencies fields number f) ≡ true
dependencies_below fields number f within =
    let p : ℕ → Bool = λ k. nat_lt k (length fields) in
    let relevant = reads_of number f.relevant in
    let constraint = reads_of number f.constraint in
    let required = reads_of number f.required in
    let readonly = reads_of number f.readonly in
    let calculate = reads_of number f.calculate in
    let choices = reads_of_choices number f.choices in
    let five = front_below p (relevant ++ constraint ++ required ++ readonly ++ calculate) choices within in
    let four = front_below p (relevant ++ constraint ++ required ++ readonly) calculate five in
    let three = front_below p (relevant ++ constraint ++ required) readonly four in
    let two = front_below p (relevant ++ constraint) required three in
    both_below p (option_to_list (parent_of fields f.path) ++ relevant) calculate
    (both_below p (option_to_list (parent_of fields f.path)) relevant (parent_below _ fields (parent_of fields f.path) refl) (front_below p relevant constraint two))
    (back_below p (relevant ++ constraint ++ required ++ readonly) calculate five)

at_below : (fields : List Field) (a b : ℕ) (r : Option Field) → are_within (length fields) 0 fields ≡ true → slice_get fields a ≡ r
    → Contains (option_map_or (λ f. dependencies fields a f) r []) b → nat_lt b (length fields) ≡ true
at_below fields a b None within at (k, inside, is) = absurd (omega arith)
at_below fields a b (Some f) within at needed =
    let here : reads_below (length fields) (0 + a) f ≡ true = within_at (length fields) 0 fields a f within at in
    let same : 0 + a ≡ a = omega arith in
    passes (λ k. nat_lt k (length fields)) (dependencies fields a f) b (dependencies_below fields a f (subst (λ (n : ℕ). reads_below (length fields) n f ≡ true) same here)) needed

pub rows_within : (fields : List Field) → are_within (length fields) 0 fields ≡ true → AreWithin (rows_of fields)
rows_within fields within = λ a b needed.
    let low : b < length fields = ltb-true b (length fields) (at_below fields a b (slice_get fields a) within refl (subst (λ (xs : List ℕ). Contains xs b) (row-rows_of fields a) needed)) in
    let long = length-rows_of fields in
    omega arith

are_ordered-same : (count : ℕ) (p q : ℕ → List ℕ) → ((k : ℕ) → p k ≡ q k) → (before xs : List ℕ) → are_ordered count p before xs ≡ are_ordered count q before xs
are_ordered-same count p q same before [] = refl
are_ordered-same count p q same before (x ∷ xs) = rw (same x, are_ordered-same count p q same (x ∷ before) xs) refl

-- what holds of the rows holds of the fields
pub order_of_fields : (fields : List Field) (rows : List (List ℕ)) (order : List ℕ) → rows ≡ rows_of fields → IsOrder (row rows) (length rows) order → is_order fields order ≡ true
order_of_fields fields rows order is ordered =
    let long : length rows ≡ length fields = ap length is ∙ length-rows_of fields in
    let all : length order ≡ length fields = ordered.long ∙ long in
    let same : (k : ℕ) → row rows k ≡ dependencies_at fields k = λ k. ap (λ r. row r k) is ∙ row-rows_of fields k in
    and-both (eqb (length order) (length fields)) (are_ordered (length fields) (dependencies_at fields) [] order) (eq-eqb (length order) (length fields) all)
    (sym (are_ordered-same (length fields) (row rows) (dependencies_at fields) same [] order) ∙ (ap (λ n. are_ordered n (row rows) [] order) (sym long) ∙ ordered.ordered))

pub no_cycle_of_fields : (fields : List Field) (rows : List (List ℕ)) (order : List ℕ) → rows ≡ rows_of fields → IsOrder (row rows) (length rows) order → NoCycle fields
no_cycle_of_fields fields rows order is ordered = λ k leads.
    ordered.no_cycle k (leads-same (dependencies_at fields) (row rows) (λ j. sym (ap (λ r. row r j) is ∙ row-rows_of fields j)) k k leads)

pub first_of_fields : (fields : List Field) (rows : List (List ℕ)) (number : ℕ) → rows ≡ rows_of fields → IsFirstCycle (row rows) (length rows) number
    → IsFirstCycle (dependencies_at fields) (length fields) number
first_of_fields fields rows number is (low, leads, none) =
    let long : length rows ≡ length fields = ap length is ∙ length-rows_of fields in
    let same : (k : ℕ) → row rows k ≡ dependencies_at fields k = λ k. ap (λ r. row r k) is ∙ row-rows_of fields k in (
      omega arith,
      leads-same (row rows) (dependencies_at fields) same number number leads,
      λ k before there. none k before (leads-same (dependencies_at fields) (row rows) (λ j. sym (same j)) k k there),
    )

pub within_of_fields : (fields : List Field) (rows : List (List ℕ)) → rows ≡ rows_of fields → are_within (length fields) 0 fields ≡ true → AreWithin rows
within_of_fields fields rows is within = subst (λ (r : List (List ℕ)). AreWithin r) (sym is) (rows_within fields within)
