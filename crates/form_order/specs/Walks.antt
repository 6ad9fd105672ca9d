-- A walk over rows: from each number to those that it needs, until these are placed.
use Rattle.std.specs.Prelude.{ℕ, ◌≡◌, ◌≢◌, ◌+◌, ◌<◌, Bool, true, false, List, [], ◌∷◌, ◌++◌, length, All, AllPairs}
use Rattle.std.specs.Prelude.{Contains, sum_by, slice_set, replicate}
use Rattle.std.specs.List.{slice_index_or}
use Rattle.form_def.specs.Order.{is_among, are_ordered}
use Rattle.form_order.specs.declared.walk.Mark.{Mark}
use Rattle.form_order.specs.declared.walk.Mark.TheVariants.{New, OnPath, Placed}
use Rattle.form_order.specs.declared.walk.Walk.{Walk}
use Rattle.form_order.specs.Cycles.{Leads}

abbrev pub mark_at : List Mark → ℕ → Mark
mark_at marks number = slice_index_or marks number New

abbrev pub is_placed : Mark → Bool
is_placed New = false
is_placed OnPath = false
is_placed Placed = true

abbrev pub is_placed_at : List Mark → List ℕ → ℕ → Bool
is_placed_at marks numbers place = is_placed (mark_at marks (slice_index_or numbers place 0))

-- before the first turn
abbrev pub unwalked : ℕ → Walk
unwalked count = record { marks = replicate count New; path = []; order = []; passed = replicate count 0 }

abbrev pub entered : Walk → ℕ → Walk
entered w number = record {
  marks = slice_set w.marks number OnPath;
  path = w.path ++ number ∷ [];
  order = w.order;
  passed = w.passed;
}

abbrev pub placed : Walk → ℕ → Walk
placed w number = record {
  marks = slice_set w.marks number Placed;
  path = w.path;
  order = w.order ++ number ∷ [];
  passed = w.passed;
}

abbrev pub with_last : Walk → ℕ → Walk
with_last w number = record { marks = w.marks; path = w.path ++ number ∷ []; order = w.order; passed = w.passed }

-- the steps that are left with a number
abbrev pub steps_left : Mark → ℕ
steps_left New = 2
steps_left OnPath = 1
steps_left Placed = 0

-- 1 for a number that is to be placed yet
abbrev pub unplaced : Mark → ℕ
unplaced New = 1
unplaced OnPath = 1
unplaced Placed = 0

-- what holds between two turns of a walk over so many numbers
pub record IsWalk (needs : ℕ → List ℕ) (count : ℕ) (w : Walk) : Type 0 where
  pub marked : length w.marks ≡ count
  pub placed_are : (k : ℕ) → is_placed (mark_at w.marks k) ≡ is_among w.order k
  pub counted : length w.order + sum_by unplaced w.marks ≡ count
  pub ordered : are_ordered count needs [] w.order ≡ true
  pub on_path : (k : ℕ) → mark_at w.marks k ≡ OnPath → Contains w.path k
  pub path_marked : All (λ k. mark_at w.marks k ≡ OnPath) w.path
  pub path_within : All (λ k. k < count) w.path
  pub path_leads : AllPairs (λ a b. Leads needs a b) w.path
  pub path_differs : AllPairs (λ a b. a ≢ b) w.path
  pub passed_long : length w.passed ≡ count
  -- of those that a number needs, so many from the front are placed
  pub passed_are : (a k : ℕ) → k < slice_index_or w.passed a 0 → k < length (needs a)
      → is_placed_at w.marks (needs a) k ≡ true

abbrev pub HasCycle : (ℕ → List ℕ) → Type 0
HasCycle needs = (number : ℕ) × Leads needs number number

-- no number is new again
abbrev pub Keeps : Walk → Walk → Type 0
Keeps old new = (k : ℕ) → mark_at new.marks k ≡ New → mark_at old.marks k ≡ New

pub record TakesTurn (needs : ℕ → List ℕ) (count : ℕ) (old new : Walk) : Type 0 where
  pub walk : IsWalk needs count new
  pub keeps : Keeps old new
  pub fewer : sum_by steps_left new.marks < sum_by steps_left old.marks

pub record Finishes (needs : ℕ → List ℕ) (count : ℕ) (old new : Walk) : Type 0 where
  pub walk : IsWalk needs count new
  pub keeps : Keeps old new
  pub no_path : new.path ≡ []

-- finishes with this number placed, as any that isn't new
pub record Visits (needs : ℕ → List ℕ) (count number : ℕ) (old new : Walk) : Type 0 where
  pub finishes : Finishes needs count old new
  pub visited : mark_at new.marks number ≢ New

-- an order of all numbers below the count, and none of them leads to itself
pub record IsOrder (needs : ℕ → List ℕ) (count : ℕ) (order : List ℕ) : Type 0 where
  pub long : length order ≡ count
  pub ordered : are_ordered count needs [] order ≡ true
  pub no_cycle : (k : ℕ) → ¬ (Leads needs k k)
