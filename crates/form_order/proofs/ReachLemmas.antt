-- What is found from a number.
use Rattle.std.specs.Prelude.{ℕ, zero, suc, ◌+◌, ◌<◌, ◌≤◌, ◌≡◌, ◌≢◌, ◌↔◌, IsTrue, Bool, true, false, ◌||◌, cond, List, [], ◌∷◌, ◌++◌, length, All, Contains, sum_by, slice_get, slice_set, Some, replicate, nat_lt, refl}
use Rattle.std.proofs.Common.{ap, sym, subst, ◌∙◌, arith, eqb, get_or, eq-eqb, length-append, length-set, ltb-true, ltb-false, eqb-true}
use Rattle.std.proofs.Math.ListN.{get_or-append}
use Rattle.std.proofs.lemmas.List.{length-replicate}
use Rattle.std.proofs.lemmas.List.Elements.{All-contains, All-push, All-weaker, All-nil, All-cons, All-head, All-tail, All-get_or, All-contains_itself}
use Rattle.std.proofs.lemmas.List.Sums.{sum_by-set}
use Rattle.std.proofs.lemmas.List.Folds.{sum_by-replicate}
use Rattle.std.proofs.lemmas.Bool.{false≢true}
use Rattle.form_def.specs.Order.{is_among, is_marked}
use Rattle.form_def.proofs.FieldLemmas.{is_marked-set}
use Rattle.form_order.specs.declared.reach.Reach.{Reach}
use Rattle.form_order.specs.Cycles.{Leads, at_once}
use Rattle.form_order.specs.Rows.{row, AreWithin}
use Rattle.form_order.specs.Reached.{unreached, with_found, with_all_found}
use Rattle.form_order.proofs.ListLemmas.{is_among-push, or-true}
use Rattle.form_order.proofs.LeadsLemmas.{leads_then, leads_into}

-- 1 for a number that isn't found
abbrev pub unfound : Bool → ℕ
unfound b = cond b 0 1

-- numbers below the count were found, each once
pub record IsReach (count : ℕ) (r : Reach) : Type 0 where
  pub marked : length r.marks ≡ count
  pub found_are : (k : ℕ) → is_marked r.marks k ≡ is_among r.found k
  pub counted : length r.found + sum_by unfound r.marks ≡ count

-- these were added
pub record Adds (count : ℕ) (numbers : List ℕ) (old new : Reach) : Type 0 where
  pub reach : IsReach count new
  pub grows : (k : ℕ) → is_among old.found k ≡ true → is_among new.found k ≡ true
  pub longer : length old.found ≤ length new.found
  pub kept : (i : ℕ) → i < length old.found → get_or new.found i 0 ≡ get_or old.found i 0
  pub found : All (λ k. is_among new.found k ≡ true) numbers

abbrev pushed : Reach → ℕ → Reach
pushed r number = record { marks = slice_set r.marks number true; found = r.found ++ number ∷ [] }

or-comm : (a b : Bool) → (a || b) ≡ (b || a)
or-comm true b = sym (or-true b)
or-comm false true = refl
or-comm false false = refl

reach_pushed : (count number : ℕ) (r : Reach) → IsReach count r → is_marked r.marks number ≡ false → number < count → IsReach count (pushed r number)
reach_pushed count number r reach off within =
    let long = reach.marked in
    let low : number < length r.marks = omega arith in record {
      marked = length-set r.marks number true ∙ reach.marked;
      found_are = λ k. is_marked-set r.marks number r.found low reach.found_are k ∙ (or-comm (eqb number k) (is_among r.found k) ∙ sym (is_among-push r.found number k));
      counted =
          let change = sum_by-set unfound r.marks number true false low in
          let was : unfound (get_or r.marks number false) ≡ 1 = ap unfound off in
          let counted = reach.counted in
          let longer : length (r.found ++ number ∷ []) ≡ length r.found + 1 = length-append r.found (number ∷ []) in
          omega arith;
    }

adds_pushed : (count number : ℕ) (r : Reach) → IsReach count r → is_marked r.marks number ≡ false → number < count → Adds count (number ∷ []) r (pushed r number)
adds_pushed count number r reach off within = record {
  reach = reach_pushed count number r reach off within;
  grows = λ k among. is_among-push r.found number k ∙ ap (λ b. b || eqb number k) among;
  longer = let longer : length (r.found ++ number ∷ []) ≡ length r.found + 1 = length-append r.found (number ∷ []) in omega arith;
  kept = λ i inside. get_or-append r.found (number ∷ []) 0 i inside;
  found = All-cons (λ k. is_among (r.found ++ number ∷ []) k ≡ true) number [] (is_among-push r.found number number ∙ rw (eq-eqb number number refl) (or-true (is_among r.found number))) (All-nil _);
}

adds_known : (count number : ℕ) (r : Reach) → IsReach count r → is_marked r.marks number ≡ true → Adds count (number ∷ []) r r
adds_known count number r reach on = record {
  reach = reach;
  grows = λ k among. among;
  longer = omega arith;
  kept = λ i inside. refl;
  found = All-cons (λ k. is_among r.found k ≡ true) number [] (sym (reach.found_are number) ∙ on) (All-nil _);
}

adds_one : (count number : ℕ) (r : Reach) (b : Bool) → is_marked r.marks number ≡ b → IsReach count r → number < count → Adds count (number ∷ []) r (cond b r (pushed r number))
adds_one count number r true on reach within = adds_known count number r reach on
adds_one count number r false off reach within = adds_pushed count number r reach off within

adds_then : (count number : ℕ) (numbers : List ℕ) (first second third : Reach) → Adds count (number ∷ []) first second → Adds count numbers second third → Adds count (number ∷ numbers) first third
adds_then count number numbers first second third one others = record {
  reach = others.reach;
  grows = λ k among. others.grows k (one.grows k among);
  longer = let a = one.longer in let b = others.longer in omega arith;
  kept = λ i inside. others.kept i (let a = one.longer in omega arith) ∙ one.kept i inside;
  found = All-cons (λ k. is_among third.found k ≡ true) number numbers (others.grows number (All-head (λ k. is_among second.found k ≡ true) number [] one.found)) others.found;
}

pub adds_all : (count : ℕ) (numbers : List ℕ) (r : Reach) → IsReach count r → All (λ k. k < count) numbers → Adds count numbers r (with_all_found r numbers)
adds_all count [] r reach within = record { reach = reach; grows = λ k among. among; longer = omega arith; kept = λ i inside. refl; found = All-nil _ }
adds_all count (k ∷ ks) r reach within =
    let one = adds_one count k r (is_marked r.marks k) refl reach (All-head (λ j. j < count) k ks within) in
    adds_then count k ks r (with_found r k) (with_all_found (with_found r k) ks) one (adds_all count ks (with_found r k) one.reach (All-tail (λ j. j < count) k ks within))

-- what holds of all that was found, and of what is added, holds of all that is found then
pub found_all : (P : ℕ → Type 0) (numbers : List ℕ) (r : Reach) → All P r.found → All P numbers → All P (with_all_found r numbers).found
found_all P [] r all new = all
found_all P (k ∷ ks) r all new = found_all P ks (with_found r k) (found_one (is_marked r.marks k)) (All-tail P k ks new)
  where
    found_one : (b : Bool) → All P (cond b r (pushed r k)).found
    found_one true = all
    found_one false = All-push P r.found k all (All-head P k ks new)

-- what holds of the numbers found from one, of which so many have had theirs added
pub record Reaches (rows : List (List ℕ)) (from next : ℕ) (r : Reach) : Type 0 where
  pub reach : IsReach (length rows) r
  pub leads : All (λ k. Leads (row rows) from k) r.found
  pub first : (k : ℕ) → Contains (row rows from) k → is_among r.found k ≡ true
  pub closed : (i : ℕ) → i < next → (k : ℕ) → Contains (row rows (get_or r.found i 0)) k → is_among r.found k ≡ true
  pub inside : next ≤ length r.found

unmarked : (count k : ℕ) → is_marked (replicate count false) k ≡ false
unmarked zero k = refl
unmarked (suc n) zero = refl
unmarked (suc n) (suc k) = unmarked n k

reach_none : (count : ℕ) → IsReach count (unreached count)
reach_none count = record {
  marked = length-replicate count false;
  found_are = unmarked count;
  counted = let sum = sum_by-replicate unfound count false in omega arith;
}

pub row_within : (rows : List (List ℕ)) → AreWithin rows → (a : ℕ) → All (λ k. k < length rows) (row rows a)
row_within rows within a = All-weaker (Contains (row rows a)) (λ k. k < length rows) (λ k h. within a k h) (row rows a) (All-contains_itself (row rows a))

pub reaches_start : (rows : List (List ℕ)) (from : ℕ) → AreWithin rows → Reaches rows from 0 (with_all_found (unreached (length rows)) (row rows from))
reaches_start rows from within =
    let adds = adds_all (length rows) (row rows from) (unreached (length rows)) (reach_none (length rows)) (row_within rows within from) in record {
      reach = adds.reach;
      leads = found_all (λ k. Leads (row rows) from k) (row rows from) (unreached (length rows)) (All-nil _)
          (All-weaker (Contains (row rows from)) (λ k. Leads (row rows) from k) (λ k h. at_once from k h) (row rows from) (All-contains_itself (row rows from)));
      first = λ k h. All-contains (λ j. is_among (with_all_found (unreached (length rows)) (row rows from)).found j ≡ true) (row rows from) k adds.found h;
      closed = λ i none. absurd (omega arith);
      inside = omega arith;
    }

pub reaches_more : (rows : List (List ℕ)) (from next found : ℕ) (r : Reach) → AreWithin rows → Reaches rows from next r → next < length r.found → get_or r.found next 0 ≡ found
    → Reaches rows from (next + 1) (with_all_found r (row rows found))
reaches_more rows from next found r within reaches inside is =
    let adds = adds_all (length rows) (row rows found) r reaches.reach (row_within rows within found) in
    let here : Leads (row rows) from found = subst (λ (k : ℕ). Leads (row rows) from k) is (All-get_or (λ k. Leads (row rows) from k) r.found next 0 inside reaches.leads) in
    let after = with_all_found r (row rows found) in record {
      reach = adds.reach;
      leads = found_all (λ k. Leads (row rows) from k) (row rows found) r reaches.leads
          (All-weaker (Contains (row rows found)) (λ k. Leads (row rows) from k) (λ k h. leads_then (row rows) from found k here h) (row rows found) (All-contains_itself (row rows found)));
      first = λ k h. adds.grows k (reaches.first k h);
      closed = λ i low k h.
          closed_at rows r after found next i (nat_lt i next) refl low reaches.closed adds.grows (adds.kept i (omega arith)) is
          (λ j needed. All-contains (λ j. is_among after.found j ≡ true) (row rows found) j adds.found needed) k h;
      inside = let a = adds.longer in omega arith;
    }
  where
    closed_at : (rows : List (List ℕ)) (r after : Reach) (found next i : ℕ) (b : Bool) → nat_lt i next ≡ b → i < next + 1
        → ((i : ℕ) → i < next → (k : ℕ) → Contains (row rows (get_or r.found i 0)) k → is_among r.found k ≡ true)
        → ((k : ℕ) → is_among r.found k ≡ true → is_among after.found k ≡ true)
        → get_or after.found i 0 ≡ get_or r.found i 0 → get_or r.found next 0 ≡ found
        → ((k : ℕ) → Contains (row rows found) k → is_among after.found k ≡ true)
        → (k : ℕ) → Contains (row rows (get_or after.found i 0)) k → is_among after.found k ≡ true
    closed_at rows r after found next i true e low closed grows same is new k h =
        grows k (closed i (ltb-true i next e) k (subst (λ (a : ℕ). Contains (row rows a) k) same h))
    closed_at rows r after found next i false e low closed grows same is new k h =
        let last : i ≡ next = let past = ltb-false i next e in omega arith in
        new k (subst (λ (a : ℕ). Contains (row rows a) k) (same ∙ (ap (λ n. get_or r.found n 0) last ∙ is)) h)

among_cons : (x k : ℕ) (xs : List ℕ) (b : Bool) → eqb x k ≡ b → (b || is_among xs k) ≡ true
    → (is_among xs k ≡ true → (i : ℕ) × (i < length xs) × (get_or xs i 0 ≡ k)) → (i : ℕ) × (i < length (x ∷ xs)) × (get_or (x ∷ xs) i 0 ≡ k)
among_cons x k xs true e among others = (0, omega arith, eqb-true x k e)
among_cons x k xs false e among others = let (i, within, is) = others among in (suc i, omega arith, is)

among_at : (xs : List ℕ) (k : ℕ) → is_among xs k ≡ true → (i : ℕ) × (i < length xs) × (get_or xs i 0 ≡ k)
among_at [] k among = absurd (false≢true among)
among_at (x ∷ xs) k among = among_cons x k xs (eqb x k) refl among (λ h. among_at xs k h)

pub reaches_end : (rows : List (List ℕ)) (from next : ℕ) (r : Reach) → Reaches rows from next r → length r.found ≤ next
    → IsTrue (is_marked r.marks from) ↔ Leads (row rows) from from
reaches_end rows from next r reaches past = (
  λ on.
      let (i, within, is) = among_at r.found from (sym (reaches.reach.found_are from) ∙ on) in
      subst (λ (k : ℕ). Leads (row rows) from k) is (All-get_or (λ k. Leads (row rows) from k) r.found i 0 within reaches.leads),
  λ leads.
      reaches.reach.found_are from ∙ leads_into (row rows) r.found
      (λ a b among needed.
      let (i, within, is) = among_at r.found a among in
      reaches.closed i (omega arith) b (subst (λ (k : ℕ). Contains (row rows k) b) (sym is) needed))
      from from reaches.first leads,
)

-- the row of a number has only numbers below the count of rows
pub row_below : (rows : List (List ℕ)) (a : ℕ) (numbers : List ℕ) (count : ℕ) → AreWithin rows → numbers ≡ row rows a → count ≡ length rows → All (λ k. k < count) numbers
row_below rows a numbers count within is long = rw (is, long) (row_within rows within a)

pub slice_get_within : (xs : List ℕ) (i x : ℕ) → slice_get xs i ≡ Some x → i < length xs
slice_get_within [] i x e = absurd (cc)
slice_get_within (y ∷ ys) zero x e = omega arith
slice_get_within (y ∷ ys) (suc i) x e = let behind = slice_get_within ys i x e in omega arith

pub slice_get_past : (xs : List ℕ) (i : ℕ) → ((x : ℕ) → slice_get xs i ≢ Some x) → length xs ≤ i
slice_get_past [] i none = omega arith
slice_get_past (y ∷ ys) zero none = absurd (none y refl)
slice_get_past (y ∷ ys) (suc i) none = let behind = slice_get_past ys i none in omega arith
