-- An order places every field: so many different numbers below so many are all of them.
use Rattle.std.specs.Prelude.{ℕ, zero, suc, ◌+◌, ◌<◌, ◌≤◌, ◌≡◌, ◌==◌, Bool, true, false, not, ◌&&◌, nat_lt, List, [], ◌∷◌, length, slice_set, replicate, refl}
use Rattle.std.specs.List.{list_all}
use Rattle.std.proofs.Common.{ap, sym, ◌∙◌, arith, eqb-true, length-set}
use Rattle.std.proofs.lemmas.List.{length-replicate}
use Rattle.std.proofs.lemmas.Bool.{false≢true, and_parts, not-true}
use Rattle.form_def.specs.declared.field.Field.{Field}
use Rattle.form_def.specs.Order.{is_among, is_marked, may_come, are_ordered, is_order, dependencies_at}
use Rattle.form_def.proofs.FieldLemmas.{is_marked-set, may_come_within}

-- the numbers that are placed once these come behind those
abbrev pub placed_after : List ℕ → List ℕ → List ℕ
placed_after placed [] = placed
placed_after placed (number ∷ numbers) = placed_after (number ∷ placed) numbers

abbrev marked_count : List Bool → ℕ
marked_count [] = 0
marked_count (true ∷ marks) = suc (marked_count marks)
marked_count (false ∷ marks) = marked_count marks

marked_count-le : (marks : List Bool) → marked_count marks ≤ length marks
marked_count-le [] = omega arith
marked_count-le (true ∷ marks) = omega (arith, marked_count-le marks)
marked_count-le (false ∷ marks) = omega (arith, marked_count-le marks)

all_marked : (marks : List Bool) (number : ℕ) → marked_count marks ≡ length marks → number < length marks → is_marked marks number ≡ true
all_marked [] number full within = absurd (omega arith)
all_marked (true ∷ marks) zero full within = refl
all_marked (true ∷ marks) (suc number) full within = all_marked marks number (omega (arith, full)) (omega (arith, within))
all_marked (false ∷ marks) number full within = absurd (omega (arith, marked_count-le marks, full))

marked_count-set : (marks : List Bool) (number : ℕ) → number < length marks → is_marked marks number ≡ false → marked_count (slice_set marks number true) ≡ suc (marked_count marks)
marked_count-set [] number within off = absurd (omega arith)
marked_count-set (true ∷ marks) zero within off = absurd (false≢true (sym off))
marked_count-set (false ∷ marks) zero within off = refl
marked_count-set (true ∷ marks) (suc number) within off = ap suc (marked_count-set marks number (omega (arith, within)) off)
marked_count-set (false ∷ marks) (suc number) within off = marked_count-set marks number (omega (arith, within)) off

-- so many numbers of fields are placed, none twice
pub record Placing (count : ℕ) (placed : List ℕ) : Type 0 where
  marks : List Bool
  long : length marks ≡ count
  same : (j : ℕ) → is_marked marks j ≡ is_among placed j
  counted : marked_count marks ≡ length placed

unmarked_at : (count j : ℕ) → is_marked (replicate count false) j ≡ false
unmarked_at zero j = refl
unmarked_at (suc count) zero = refl
unmarked_at (suc count) (suc j) = unmarked_at count j

unmarked_count : (count : ℕ) → marked_count (replicate count false) ≡ 0
unmarked_count zero = refl
unmarked_count (suc count) = unmarked_count count

none_placed : (count : ℕ) → Placing count []
none_placed count = record { marks = replicate count false; long = length-replicate count false; same = unmarked_at count; counted = unmarked_count count }

-- what `may_come` says
pub is_new : (fields : List Field) (placed : List ℕ) (number : ℕ) → may_come (length fields) (dependencies_at fields) (is_among placed) number ≡ true → is_among placed number ≡ false
is_new fields placed number may = not-true (is_among placed number) (and_parts (nat_lt number (length fields)) (not (is_among placed number))
    (and_parts (nat_lt number (length fields) && not (is_among placed number))
    (list_all (is_among placed) (dependencies_at fields number)) may).0).1

pub has_before : (fields : List Field) (placed : List ℕ) (number : ℕ) → may_come (length fields) (dependencies_at fields) (is_among placed) number ≡ true → list_all (is_among placed) (dependencies_at fields number) ≡ true
has_before fields placed number may = (and_parts (nat_lt number (length fields) && not (is_among placed number)) (list_all (is_among placed) (dependencies_at fields number)) may).1

one_placed : (fields : List Field) (placed : List ℕ) (number : ℕ) → may_come (length fields) (dependencies_at fields) (is_among placed) number ≡ true → Placing (length fields) placed → Placing (length fields) (number ∷ placed)
one_placed fields placed number may p =
    let long : length p.marks ≡ length fields = p.long in
    let low : number < length fields = may_come_within (length fields) (dependencies_at fields) (is_among placed) number may in
    let within : number < length p.marks = omega arith in record {
      marks = slice_set p.marks number true;
      long = length-set p.marks number true ∙ long;
      same = is_marked-set p.marks number placed within p.same;
      counted = marked_count-set p.marks number within (p.same number ∙ is_new fields placed number may) ∙ ap suc p.counted;
    }

placed_along : (fields : List Field) (placed numbers : List ℕ) → are_ordered (length fields) (dependencies_at fields) placed numbers ≡ true → Placing (length fields) placed → Placing (length fields) (placed_after placed numbers)
placed_along fields placed [] ordered p = p
placed_along fields placed (number ∷ numbers) ordered p =
    let may = (and_parts (may_come (length fields) (dependencies_at fields) (is_among placed) number) (are_ordered (length fields) (dependencies_at fields) (number ∷ placed) numbers) ordered).0 in
    placed_along fields (number ∷ placed) numbers ((and_parts (may_come (length fields) (dependencies_at fields) (is_among placed) number) (are_ordered (length fields) (dependencies_at fields) (number ∷ placed) numbers) ordered).1)
    (one_placed fields placed number may p)

length-placed : (placed numbers : List ℕ) → length (placed_after placed numbers) ≡ length placed + length numbers
length-placed placed [] = omega arith
length-placed placed (number ∷ numbers) = omega (arith, length-placed (number ∷ placed) numbers)

pub order_along : (fields : List Field) (order : List ℕ) → is_order fields order ≡ true → are_ordered (length fields) (dependencies_at fields) [] order ≡ true
order_along fields order is = (and_parts (length order == length fields) (are_ordered (length fields) (dependencies_at fields) [] order) is).1

pub all_placed : (fields : List Field) (order : List ℕ) → is_order fields order ≡ true → (number : ℕ) → number < length fields → is_among (placed_after [] order) number ≡ true
all_placed fields order is number within =
    let p = placed_along fields [] order (order_along fields order is) (none_placed (length fields)) in
    let so_many : length order ≡ length fields = eqb-true _ _ ((and_parts (length order == length fields) (are_ordered (length fields) (dependencies_at fields) [] order) is).0) in
    let placed : length (placed_after [] order) ≡ 0 + length order = length-placed [] order in
    let long : length p.marks ≡ length fields = p.long in
    let counted : marked_count p.marks ≡ length (placed_after [] order) = p.counted in
    sym (p.same number) ∙ all_marked p.marks number (omega arith) (omega arith)
