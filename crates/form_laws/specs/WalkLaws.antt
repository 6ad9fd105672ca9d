-- Proofs that a walk over rows orders their numbers or meets one that leads to itself, and no definitions: what a
-- definition rests on may stand in this folder alone.
use Rattle.std.specs.Prelude.{◌≡◌, ◌≢◌, ◌⊎◌, ℕ, zero, suc, ◌<◌, ◌≤◌, true, false, List, [], ◌∷◌, ◌++◌}
use Rattle.std.specs.Prelude.{length, All, Contains, sum_by, replicate, refl}
use Rattle.std.specs.List.{slice_index_or}
use Rattle.std.proofs.Common.{inl, inr, ap, sym, subst, ◌∙◌, arith, get_or-set_same, get_or-set_other, eqb, eqb-true}
use Rattle.std.proofs.lemmas.Bool.{cases_lt, cases_Bool, eqb-false}
use Rattle.std.proofs.lemmas.List.{length-replicate}
use Rattle.std.proofs.lemmas.List.Elements.{All-nil}
use Rattle.std.proofs.lemmas.List.Folds.{sum_by-replicate}
use Rattle.form_order.specs.declared.walk.Mark.{Mark}
use Rattle.form_order.specs.declared.walk.Mark.TheVariants.{New, OnPath, Placed}
use Rattle.form_order.specs.declared.walk.Walk.{Walk}
use Rattle.form_order.specs.Cycles.{Leads}
use Rattle.form_order.specs.Rows.{row, AreWithin}
use Rattle.form_order.specs.Walks.{mark_at, is_placed, is_placed_at, unwalked, entered, placed, with_last, steps_left}
use Rattle.form_order.specs.Walks.{unplaced, IsWalk, HasCycle, Keeps, TakesTurn, Finishes, Visits, IsOrder}
use Rattle.form_order.proofs.WalkLemmas.{walk-entered, takes_turn-entered, takes_turn-placed, meets_cycle}
use Rattle.form_order.proofs.WalkLemmas.{is_order-finished}

-- ---- a turn

no_new_on_path : New ≡ OnPath → ⊥
no_new_on_path same = absurd cc

on_path_or_not : (m : Mark) → (m ≡ OnPath) ⊎ (m ≢ OnPath)
on_path_or_not New = inr no_new_on_path
on_path_or_not OnPath = inl refl
on_path_or_not Placed = inr (λ (same : Placed ≡ OnPath). absurd cc)

new_or_not : (m : Mark) → (m ≡ New) ⊎ (m ≢ New)
new_or_not New = inl refl
new_or_not OnPath = inr (λ (same : OnPath ≡ New). absurd cc)
new_or_not Placed = inr (λ (same : Placed ≡ New). absurd cc)

abbrev IsOpen : List Mark → List ℕ → Type 0
IsOpen marks numbers = (next : ℕ) × Contains numbers next × (is_placed (mark_at marks next) ≡ false)

abbrev AllPlaced : List Mark → List ℕ → Type 0
AllPlaced marks numbers = (k : ℕ) → k < length numbers → is_placed_at marks numbers k ≡ true

placed_more : (marks : List Mark) (n : ℕ) (ns : List ℕ) → is_placed (mark_at marks n) ≡ true → AllPlaced marks ns
    → AllPlaced marks (n ∷ ns)
placed_more marks n ns on all zero within = on
placed_more marks n ns on all (suc k) within = all k (omega arith)

contains_more : (n next : ℕ) (ns : List ℕ) → Contains ns next → Contains (n ∷ ns) next
contains_more n next ns (k, within, is) = (suc k, omega arith, is)

-- one of the numbers isn't placed, or all are
open_or_placed : (marks : List Mark) (numbers : List ℕ) → IsOpen marks numbers ⊎ AllPlaced marks numbers
open_or_placed marks [] = inr (λ k within. absurd (omega arith))
open_or_placed marks (n ∷ ns) = elim (cases_Bool (is_placed (mark_at marks n))) [
  | inl on ↦ elim (open_or_placed marks ns) [
    | inl found ↦ inl (found.0, contains_more n found.0 ns found.1, found.2)
    | inr all ↦ inr (placed_more marks n ns on all)
  ]
  | inr off ↦ inl (n, (0, omega arith, refl), off)
]

abbrev Turns : List (List ℕ) → Walk → Type 0
Turns rows w = HasCycle (row rows) ⊎ ((new : Walk) × TakesTurn (row rows) (length rows) w new)

turn : (rows : List (List ℕ)) → AreWithin rows → (number : ℕ) (w : Walk)
    → IsWalk (row rows) (length rows) (with_last w number) → Turns rows w
turn rows within number w walk = elim (open_or_placed w.marks (row rows number)) [
  | inl found ↦ elim (on_path_or_not (mark_at w.marks found.0)) [
    | inl here ↦ inl (meets_cycle rows number found.0 w walk found.1 here)
    | inr other ↦ inr (
      entered (with_last w number) found.0,
      takes_turn-entered rows number found.0 w within walk found.1 found.2 other,
    )
  ]
  | inr all ↦ inr (placed w number, takes_turn-placed rows number w walk (λ k from inside. all k inside))
]

-- ---- turns until no path is left

abbrev HasLast : List ℕ → Type 0
HasLast xs = (front : List ℕ) × (last : ℕ) × (xs ≡ front ++ last ∷ [])

last_or_none : (xs : List ℕ) → (xs ≡ []) ⊎ HasLast xs
last_or_none [] = inl refl
last_or_none (x ∷ xs) = elim (last_or_none xs) [
  | inl none ↦ inr ([], x, ap (λ (t : List ℕ). x ∷ t) none)
  | inr some ↦ inr (x ∷ some.0, some.1, ap (λ (t : List ℕ). x ∷ t) some.2)
]

abbrev Ends : List (List ℕ) → Walk → Type 0
Ends rows w = HasCycle (row rows) ⊎ ((new : Walk) × Finishes (row rows) (length rows) w new)

abbrev with_path : Walk → List ℕ → Walk
with_path w path = record { marks = w.marks; path = path; order = w.order; passed = w.passed }

finish_behind : (rows : List (List ℕ)) (w new : Walk) → Keeps w new → Ends rows new → Ends rows w
finish_behind rows w new keeps (inl cycle) = inl cycle
finish_behind rows w new keeps (inr (end, finishes)) = inr (
  end,
  record { walk = finishes.walk; keeps = λ k h. keeps k (finishes.keeps k h); no_path = finishes.no_path },
)

-- where a walk with fewer steps left ends, one with a turn more does
finish_with : (rows : List (List ℕ)) → AreWithin rows → (w : Walk) → IsWalk (row rows) (length rows) w
    → ((new : Walk) → IsWalk (row rows) (length rows) new
    → sum_by steps_left new.marks < sum_by steps_left w.marks → Ends rows new)
    → Ends rows w
finish_with rows within w walk others = elim (last_or_none w.path) [
  | inl none ↦ inr (w, record { walk = walk; keeps = λ k h. h; no_path = none })
  | inr some ↦
      let before : Walk = with_path w some.0 in
      let here : IsWalk (row rows) (length rows) (with_last before some.1) =
      subst (λ (path : List ℕ). IsWalk (row rows) (length rows) (with_path w path)) some.2 walk in
      elim (turn rows within some.1 before here) [
        | inl cycle ↦ inl cycle
        | inr t ↦ finish_behind rows w t.0 t.1.keeps (others t.0 t.1.walk t.1.fewer)
      ]
]

finish : (n : ℕ) (rows : List (List ℕ)) → AreWithin rows → (w : Walk) → IsWalk (row rows) (length rows) w
    → sum_by steps_left w.marks ≤ n → Ends rows w
finish zero rows within w walk le =
    finish_with rows within w walk (λ new is fewer. absurd (omega (arith, fewer, le)))
finish (suc n) rows within w walk le =
    finish_with rows within w walk (λ new is fewer. finish n rows within new is (omega (arith, fewer, le)))

-- ---- from each number

keeps_entered : (number : ℕ) (w : Walk) → mark_at w.marks number ≡ New → Keeps w (entered w number)
keeps_entered number w new k here = elim (cases_Bool (eqb number k)) [
  | inl same ↦ subst (λ (j : ℕ). mark_at w.marks j ≡ New) (eqb-true number k same) new
  | inr other ↦
      let apart : k ≢ number = λ (same : k ≡ number). eqb-false number k other (sym same) in
      sym (get_or-set_other w.marks number k OnPath New apart) ∙ here
]

visited : (number : ℕ) (w end : Walk) → number < length w.marks → Keeps (entered w number) end
    → mark_at end.marks number ≢ New
visited number w end low keeps new =
    no_new_on_path (sym (keeps number new) ∙ get_or-set_same w.marks number OnPath New low)

abbrev Arrives : List (List ℕ) → ℕ → Walk → Type 0
Arrives rows number w = HasCycle (row rows) ⊎ ((new : Walk) × Visits (row rows) (length rows) number w new)

arrives : (rows : List (List ℕ)) (number : ℕ) (w : Walk) → mark_at w.marks number ≡ New → number < length w.marks
    → Ends rows (entered w number) → Arrives rows number w
arrives rows number w new low (inl cycle) = inl cycle
arrives rows number w new low (inr (end, finishes)) = inr (
  end,
  record {
    finishes = record {
      walk = finishes.walk;
      keeps = λ k h. keeps_entered number w new k (finishes.keeps k h);
      no_path = finishes.no_path;
    };
    visited = visited number w end low finishes.keeps;
  },
)

visit : (rows : List (List ℕ)) → AreWithin rows → (number : ℕ) → number < length rows → (w : Walk)
    → IsWalk (row rows) (length rows) w → w.path ≡ [] → Arrives rows number w
visit rows within number inside w walk none = elim (new_or_not (mark_at w.marks number)) [
  | inl new ↦
      let long = walk.marked in
      let low : number < length w.marks = omega (arith, long, inside) in
      let leads = subst (λ (path : List ℕ). All (λ k. Leads (row rows) k number) path) (sym none) (All-nil _) in
      let start = walk-entered (row rows) (length rows) number w walk new inside leads in
      arrives rows number w new low
      (finish (sum_by steps_left (entered w number).marks) rows within (entered w number) start (omega arith))
  | inr other ↦ inr (
    w,
    record { finishes = record { walk = walk; keeps = λ k h. h; no_path = none }; visited = other },
  )
]

-- ---- from all numbers

all_alike : {A : Type 0} (count k : ℕ) (x : A) → slice_index_or (replicate count x) k x ≡ x
all_alike zero k x = refl
all_alike (suc n) zero x = refl
all_alike (suc n) (suc k) x = all_alike n k x

walk-unwalked : (needs : ℕ → List ℕ) (count : ℕ) → IsWalk needs count (unwalked count)
walk-unwalked needs count = record {
  marked = length-replicate count New;
  placed_are = λ k. ap is_placed (all_alike count k New);
  counted = let sum = sum_by-replicate unplaced count New in omega (arith, sum);
  ordered = refl;
  on_path = λ k here. absurd (no_new_on_path (sym (all_alike count k New) ∙ here));
  path_marked = All-nil _;
  path_within = All-nil _;
  path_leads = λ i j d before within. absurd (omega (arith, within));
  path_differs = λ i j d before within. absurd (omega (arith, within));
  passed_long = length-replicate count 0;
  passed_are = λ a k before inside.
      let zeros : List ℕ = replicate count 0 in
      let none : slice_index_or zeros a 0 ≡ zero = all_alike count a 0 in absurd (omega (arith, none, before));
}

-- a walk that stands on no path and has visited the numbers below this one
record HasVisited (rows : List (List ℕ)) (number : ℕ) : Type 0 where
  walked : Walk
  walk : IsWalk (row rows) (length rows) walked
  no_path : walked.path ≡ []
  old : (k : ℕ) → k < number → mark_at walked.marks k ≢ New

visited_more : (rows : List (List ℕ)) (number : ℕ) (so_far : HasVisited rows number) → Arrives rows number so_far.walked
    → HasCycle (row rows) ⊎ HasVisited rows (suc number)
visited_more rows number so_far (inl cycle) = inl cycle
visited_more rows number so_far (inr (new, visits)) = inr (record {
  walked = new;
  walk = visits.finishes.walk;
  no_path = visits.finishes.no_path;
  old = λ k low is. elim (cases_lt k number) [
    | inl before ↦ so_far.old k before (visits.finishes.keeps k is)
    | inr behind ↦
        let same : k ≡ number = omega (arith, low, behind) in
        visits.visited (subst (λ (j : ℕ). mark_at new.marks j ≡ New) same is)
  ];
})

visit_all : (rows : List (List ℕ)) → AreWithin rows → (number : ℕ) → number ≤ length rows
    → HasCycle (row rows) ⊎ HasVisited rows number
visit_all rows within zero le = inr (record {
  walked = unwalked (length rows);
  walk = walk-unwalked (row rows) (length rows);
  no_path = refl;
  old = λ k low is. absurd (omega (arith, low));
})
visit_all rows within (suc number) le = elim (visit_all rows within number (omega (arith, le))) [
  | inl cycle ↦ inl cycle
  | inr so_far ↦ visited_more rows number so_far
      (visit rows within number (omega (arith, le)) so_far.walked so_far.walk so_far.no_path)
]

-- rows have an order, or a number of theirs leads to itself
pub walk_all : (rows : List (List ℕ)) → AreWithin rows
    → HasCycle (row rows) ⊎ ((order : List ℕ) × IsOrder (row rows) (length rows) order)
walk_all rows within = elim (visit_all rows within (length rows) (omega arith)) [
  | inl cycle ↦ inl cycle
  | inr all ↦ inr (all.walked.order, is_order-finished rows all.walked all.walk all.no_path all.old)
]
