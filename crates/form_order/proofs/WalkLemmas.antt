-- What a turn of a walk does to its marks, its path and its order.
use Rattle.std.specs.Prelude.{ℕ, suc, ◌+◌, ◌<◌, ◌≤◌, ◌≡◌, ◌≢◌, Bool, true, false, not, ◌&&◌, nat_lt, List, [], ◌∷◌, ◌++◌, length, All, Contains, sum_by, slice_set, refl}
use Rattle.std.specs.List.{list_all, slice_index_or}
use Rattle.std.proofs.Common.{ap, sym, subst, ◌∙◌, arith, eqb, inl, inr, eqb-true, eq-eqb, length-append, length-set, get_or-set_same, get_or-set_other, lt-ltb}
use Rattle.std.proofs.lemmas.Bool.{false≢true, eqb-false, ne_eqb}
use Rattle.std.proofs.lemmas.List.Elements.{All-contains, All-push, All-weaker, All-get_or, Contains-push, Contains-push_cases, Contains-append_left}
use Rattle.std.proofs.lemmas.List.Quantifiers.{all_pairs_push}
use Rattle.std.proofs.lemmas.List.Sums.{sum_by-set}
use Rattle.form_def.specs.Order.{is_among}
use Rattle.form_order.specs.declared.walk.Mark.{Mark}
use Rattle.form_order.specs.declared.walk.Mark.TheVariants.{New, OnPath, Placed}
use Rattle.form_order.specs.declared.walk.Walk.{Walk}
use Rattle.form_order.specs.Cycles.{Leads}
use Rattle.form_order.specs.Rows.{row, AreWithin}
use Rattle.form_order.specs.Walks.{mark_at, is_placed, is_placed_at, entered, placed, with_last, steps_left, unplaced, IsWalk, HasCycle, TakesTurn, IsOrder}
use Rattle.form_order.proofs.ListLemmas.{and-both, not-true, or-none, pairs_front, pairs_last, all_front, all_last, list_all-at, by_bound, is_among-push, or-true, all_both}
use Rattle.form_order.proofs.LeadsLemmas.{all_lead, leads_within}
use Rattle.form_order.proofs.OrderLemmas.{are_ordered-push, no_cycle_among}

set_same : (marks : List Mark) (number : ℕ) (m : Mark) → number < length marks → mark_at (slice_set marks number m) number ≡ m
set_same marks number m within = get_or-set_same marks number m New within

set_other : (marks : List Mark) (number : ℕ) (m : Mark) (k : ℕ) → k ≢ number → mark_at (slice_set marks number m) k ≡ mark_at marks k
set_other marks number m k other = get_or-set_other marks number k m New other

-- of any number, what is said of the one whose mark was set, and of each other one
by_number : (P : ℕ → Type 0) (number : ℕ) → P number → ((k : ℕ) → k ≢ number → P k) → (k : ℕ) → P k
by_number P number here others k = by_number_at k (eqb number k) refl
  where
    by_number_at : (j : ℕ) (t : Bool) → eqb number j ≡ t → P j
    by_number_at j true e = subst P (eqb-true number j e) here
    by_number_at j false e = others j (λ h. eqb-false number j e (sym h))

-- a number that is placed stays so
stays_placed : (marks : List Mark) (number : ℕ) (m : Mark) → number < length marks → (is_placed (mark_at marks number) ≡ true → is_placed m ≡ true)
    → (k : ℕ) → is_placed (mark_at marks k) ≡ true → is_placed (mark_at (slice_set marks number m) k) ≡ true
stays_placed marks number m low stays =
    by_number (λ k. is_placed (mark_at marks k) ≡ true → is_placed (mark_at (slice_set marks number m) k) ≡ true) number
    (λ on. ap is_placed (set_same marks number m low) ∙ stays on)
    (λ k other on. ap is_placed (set_other marks number m k other) ∙ on)

New≢OnPath : New ≢ OnPath
New≢OnPath same = absurd (cc)

Placed≢OnPath : Placed ≢ OnPath
Placed≢OnPath same = absurd (cc)

Placed≢New : Placed ≢ New
Placed≢New same = absurd (cc)

-- numbers with two marks are two
other_mark : (marks : List Mark) (number k : ℕ) (m n : Mark) → mark_at marks number ≡ m → mark_at marks k ≡ n → m ≢ n → k ≢ number
other_mark marks number k m n here there differ same = differ (sym here ∙ (ap (λ j. mark_at marks j) (sym same) ∙ there))

new_within : (marks : List Mark) (count number : ℕ) → length marks ≡ count → number < count → number < length marks
new_within marks count number long within = omega arith

pub walk-entered : (needs : ℕ → List ℕ) (count number : ℕ) (w : Walk) → IsWalk needs count w → mark_at w.marks number ≡ New → number < count
    → All (λ k. Leads needs k number) w.path → IsWalk needs count (entered w number)
walk-entered needs count number w walk new within leads =
    let low : number < length w.marks = new_within w.marks count number walk.marked within in
    let others = All-weaker (λ k. mark_at w.marks k ≡ OnPath) (λ k. k ≢ number) (λ k here. other_mark w.marks number k New OnPath new here New≢OnPath) w.path walk.path_marked in
    record {
      marked = length-set w.marks number OnPath ∙ walk.marked;
      placed_are = by_number (λ k. is_placed (mark_at (slice_set w.marks number OnPath) k) ≡ is_among w.order k) number
          (ap is_placed (set_same w.marks number OnPath low) ∙ (sym (ap is_placed new) ∙ walk.placed_are number))
          (λ k other. ap is_placed (set_other w.marks number OnPath k other) ∙ walk.placed_are k);
      counted = let change = sum_by-set unplaced w.marks number OnPath New low in let was : unplaced (mark_at w.marks number) ≡ 1 = ap unplaced new in let before = walk.counted in omega arith;
      ordered = walk.ordered;
      on_path = by_number (λ k. mark_at (slice_set w.marks number OnPath) k ≡ OnPath → Contains (w.path ++ number ∷ []) k) number
          (λ _. Contains-push w.path number)
          (λ k other here. Contains-append_left w.path (number ∷ []) k (walk.on_path k (sym (set_other w.marks number OnPath k other) ∙ here)));
      path_marked = All-push (λ k. mark_at (slice_set w.marks number OnPath) k ≡ OnPath) w.path number (All-weaker (λ k. mark_at w.marks k ≡ OnPath) (λ k. mark_at (slice_set w.marks number OnPath) k ≡ OnPath) (λ k here. set_other w.marks number OnPath k (other_mark w.marks number k New OnPath new here New≢OnPath) ∙ here) w.path walk.path_marked) (set_same w.marks number OnPath low);
      path_within = All-push (λ k. k < count) w.path number walk.path_within within;
      path_leads = all_pairs_push (λ a b. Leads needs a b) w.path number walk.path_leads (λ k d inside. All-get_or (λ j. Leads needs j number) w.path k d inside leads);
      path_differs = all_pairs_push (λ a b. a ≢ b) w.path number walk.path_differs (λ k d inside. All-get_or (λ j. j ≢ number) w.path k d inside others);
      passed_long = walk.passed_long;
      passed_are = λ a k before inside. stays_placed w.marks number OnPath low (λ on. absurd (false≢true (sym (ap is_placed new) ∙ on))) (slice_index_or (needs a) k 0) (walk.passed_are a k before inside);
    }

unplaced_mark : (m : Mark) → is_placed m ≡ false → m ≢ OnPath → m ≡ New
unplaced_mark New off other = refl
unplaced_mark OnPath off other = absurd (other refl)
unplaced_mark Placed off other = absurd (false≢true (sym off))

pub takes_turn-entered : (rows : List (List ℕ)) (number next : ℕ) (w : Walk) → AreWithin rows → IsWalk (row rows) (length rows) (with_last w number)
    → Contains (row rows number) next → is_placed (mark_at w.marks next) ≡ false → mark_at w.marks next ≢ OnPath
    → TakesTurn (row rows) (length rows) w (entered (with_last w number) next)
takes_turn-entered rows number next w within walk needed off other =
    let new : mark_at w.marks next ≡ New = unplaced_mark (mark_at w.marks next) off other in
    let low : next < length rows = within number next needed in
    let inside : next < length w.marks = new_within w.marks (length rows) next walk.marked low in
    record {
      walk = walk-entered (row rows) (length rows) next (with_last w number) walk new low (all_lead (row rows) w.path number next walk.path_leads needed);
      keeps = by_number (λ k. mark_at (slice_set w.marks next OnPath) k ≡ New → mark_at w.marks k ≡ New) next
          (λ _. new)
          (λ k apart here. sym (set_other w.marks next OnPath k apart) ∙ here);
      fewer = let change = sum_by-set steps_left w.marks next OnPath New inside in let was : steps_left (mark_at w.marks next) ≡ 2 = ap steps_left new in omega arith;
    }

pub meets_cycle : (rows : List (List ℕ)) (number next : ℕ) (w : Walk) → IsWalk (row rows) (length rows) (with_last w number)
    → Contains (row rows number) next → mark_at w.marks next ≡ OnPath → HasCycle (row rows)
meets_cycle rows number next w walk needed here =
    (next, All-contains (λ k. Leads (row rows) k next) (w.path ++ number ∷ []) next (all_lead (row rows) w.path number next walk.path_leads needed) (walk.on_path next here))

push_cases : (xs : List ℕ) (y x : ℕ) → x ≢ y → Contains (xs ++ y ∷ []) x → Contains xs x
push_cases xs y x other h = elim (Contains-push_cases xs y x h) [ inl here ↦ here | inr same ↦ absurd (other (sym same)) ]

pub walk-placed : (needs : ℕ → List ℕ) (count number : ℕ) (w : Walk) → IsWalk needs count (with_last w number)
    → list_all (λ k. is_placed (mark_at w.marks k)) (needs number) ≡ true → IsWalk needs count (placed w number)
walk-placed needs count number w walk done =
    let here : mark_at w.marks number ≡ OnPath = all_last (λ k. mark_at w.marks k ≡ OnPath) w.path number walk.path_marked in
    let within : number < count = all_last (λ k. k < count) w.path number walk.path_within in
    let low : number < length w.marks = new_within w.marks count number walk.marked within in
    let apart = pairs_last (λ a b. a ≢ b) w.path number walk.path_differs in
    let marked = all_front (λ k. mark_at w.marks k ≡ OnPath) w.path number walk.path_marked in
    let new : is_placed (mark_at w.marks number) ≡ false = ap is_placed here in
    record {
      marked = length-set w.marks number Placed ∙ walk.marked;
      placed_are = by_number (λ k. is_placed (mark_at (slice_set w.marks number Placed) k) ≡ is_among (w.order ++ number ∷ []) k) number
          (ap is_placed (set_same w.marks number Placed low) ∙ sym (is_among-push w.order number number ∙ rw (eq-eqb number number refl) (or-true (is_among w.order number))))
          (λ k other. ap is_placed (set_other w.marks number Placed k other) ∙ (walk.placed_are k ∙ sym (is_among-push w.order number k ∙ rw (ne_eqb number k (λ same. other (sym same))) (or-none (is_among w.order k)))));
      counted =
          let change = sum_by-set unplaced w.marks number Placed New low in
          let was : unplaced (mark_at w.marks number) ≡ 1 = ap unplaced here in
          let before = walk.counted in
          let long : length (w.order ++ number ∷ []) ≡ length w.order + 1 = length-append w.order (number ∷ []) in
          omega arith;
      ordered = are_ordered-push count needs (λ k. is_placed (mark_at w.marks k)) number
          (and-both (nat_lt number count && not (is_placed (mark_at w.marks number))) (list_all (λ k. is_placed (mark_at w.marks k)) (needs number))
          (and-both (nat_lt number count) (not (is_placed (mark_at w.marks number))) (lt-ltb number count within) (not-true (is_placed (mark_at w.marks number)) new)) done)
          w.order [] walk.placed_are walk.ordered;
      on_path = by_number (λ k. mark_at (slice_set w.marks number Placed) k ≡ OnPath → Contains w.path k) number
          (λ h. absurd (Placed≢OnPath (sym (set_same w.marks number Placed low) ∙ h)))
          (λ k other h. push_cases w.path number k other (walk.on_path k (sym (set_other w.marks number Placed k other) ∙ h)));
      path_marked = all_both (λ k. mark_at w.marks k ≡ OnPath) (λ k. k ≢ number) (λ k. mark_at (slice_set w.marks number Placed) k ≡ OnPath)
          (λ k h other. set_other w.marks number Placed k other ∙ h) w.path marked apart;
      path_within = all_front (λ k. k < count) w.path number walk.path_within;
      path_leads = pairs_front (λ a b. Leads needs a b) w.path number walk.path_leads;
      path_differs = pairs_front (λ a b. a ≢ b) w.path number walk.path_differs;
      passed_long = walk.passed_long;
      passed_are = λ a k before inside. stays_placed w.marks number Placed low (λ _. refl) (slice_index_or (needs a) k 0) (walk.passed_are a k before inside);
    }

pub open_none : (marks m : List Mark) (numbers n : List ℕ) (from f : ℕ) → m ≡ marks → n ≡ numbers → f ≡ from
    → ((k : ℕ) → f ≤ k → k < length n → is_placed_at m n k ≡ true) → (k : ℕ) → from ≤ k → k < length numbers → is_placed_at marks numbers k ≡ true
open_none marks m numbers n from f marks_are numbers_are from_is none = rw (← marks_are, ← numbers_are, ← from_is) none

pub takes_turn-placed : (rows : List (List ℕ)) (number : ℕ) (w : Walk) → IsWalk (row rows) (length rows) (with_last w number)
    → ((k : ℕ) → slice_index_or w.passed number 0 ≤ k → k < length (row rows number) → is_placed_at w.marks (row rows number) k ≡ true)
    → TakesTurn (row rows) (length rows) w (placed w number)
takes_turn-placed rows number w walk others =
    let here : mark_at w.marks number ≡ OnPath = all_last (λ k. mark_at w.marks k ≡ OnPath) w.path number walk.path_marked in
    let within : number < length rows = all_last (λ k. k < length rows) w.path number walk.path_within in
    let low : number < length w.marks = new_within w.marks (length rows) number walk.marked within in
    let done = list_all-at (λ k. is_placed (mark_at w.marks k)) (row rows number)
    (λ k inside. by_bound k (slice_index_or w.passed number 0) (λ before. walk.passed_are number k before inside) (λ behind. others k behind inside)) in
    record {
      walk = walk-placed (row rows) (length rows) number w walk done;
      keeps = by_number (λ k. mark_at (slice_set w.marks number Placed) k ≡ New → mark_at w.marks k ≡ New) number
          (λ h. absurd (Placed≢New (sym (set_same w.marks number Placed low) ∙ h)))
          (λ k other h. sym (set_other w.marks number Placed k other) ∙ h);
      fewer = let change = sum_by-set steps_left w.marks number Placed New low in let was : steps_left (mark_at w.marks number) ≡ 1 = ap steps_left here in omega arith;
    }

-- at the end of the path each number that isn't new is placed
placed_mark : (m : Mark) → m ≢ New → m ≢ OnPath → is_placed m ≡ true
placed_mark New new other = absurd (new refl)
placed_mark OnPath new other = absurd (other refl)
placed_mark Placed new other = refl

off_path : (needs : ℕ → List ℕ) (count : ℕ) (w : Walk) → IsWalk needs count w → w.path ≡ [] → (k : ℕ) → mark_at w.marks k ≢ OnPath
off_path needs count w walk none k here =
    let (i, within, is) = subst (λ (p : List ℕ). Contains p k) none (walk.on_path k here) in absurd (omega arith)

unplaced_none : (m : Mark) → is_placed m ≡ true → unplaced m ≡ 0
unplaced_none New on = absurd (false≢true on)
unplaced_none OnPath on = absurd (false≢true on)
unplaced_none Placed on = refl

sum_by-none : (marks : List Mark) → ((k : ℕ) → k < length marks → unplaced (mark_at marks k) ≡ 0) → sum_by unplaced marks ≡ 0
sum_by-none [] none = refl
sum_by-none (m ∷ ms) none = rw (none 0 (omega arith), sum_by-none ms (λ k within. none (suc k) (omega arith))) refl

pub is_order-finished : (rows : List (List ℕ)) (w : Walk) → IsWalk (row rows) (length rows) w → w.path ≡ [] → ((k : ℕ) → k < length rows → mark_at w.marks k ≢ New)
    → IsOrder (row rows) (length rows) w.order
is_order-finished rows w walk none all =
    let done : (k : ℕ) → k < length rows → is_placed (mark_at w.marks k) ≡ true =
    λ k within. placed_mark (mark_at w.marks k) (all k within) (off_path (row rows) (length rows) w walk none k) in
    let long = walk.marked in
    record {
      long = let left : sum_by unplaced w.marks ≡ 0 = sum_by-none w.marks (λ k within. unplaced_none (mark_at w.marks k) (done k (omega arith))) in let counted = walk.counted in omega arith;
      ordered = walk.ordered;
      no_cycle = λ k leads. no_cycle_among (length rows) (row rows) w.order walk.ordered k (sym (walk.placed_are k) ∙ done k (leads_within rows k k leads)) leads;
    }
