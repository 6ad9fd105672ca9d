-- How the entries that a crash may leave grow.
use Rattle.std.proofs.Common.{◌≡◌, ◌⊎◌, inl, inr, ⊎_elim, ℕ, zero, suc, ◌+◌, ◌<◌, ◌≤◌, List, [], ◌∷◌, ◌++◌, length, map, Some, refl, sym, ◌∙◌, ap, subst, arith, length-append}
use Rattle.std.specs.Prelude.{slice_get}
use Rattle.std.specs.List.{AllByRecursion}
use Rattle.std.proofs.lemmas.List.{append-nil, take-append-le, take_all}
use Rattle.entry_form.specs.declared.entry.Entry.{Entry}
use Rattle.entry_codec.specs.Spelling.{Fits, spelling}
use Rattle.device_journal.specs.Frames.{HasFrames}
use Rattle.device_journal.specs.Moments.{LeavesOnly, LeavesFrom}
use Rattle.device_journal.specs.Sound.{IsBeforeOrAfter}
use Rattle.device_rules.specs.declared.trail.Marked.{Marked}
use Rattle.device_core.specs.Crash.{HasAtLeast, Crash, AddsOnly}
use Rattle.device_core.specs.CrashLaws.{at_least_more}
use Rattle.device_core.specs.Images.{StandsFor, payloads_of}
use Rattle.device_core.specs.Replay.{IsSpelledBy}
use Rattle.device_rules.specs.Trail.{entries_of, marked_at}
use Rattle.device_core.proofs.Payloads.{fit-push, payloads-push}
use Rattle.device_rules.proofs.Replays.{entries-push}

pub length-entries : (marked : List Marked) → length (entries_of marked) ≡ length marked
length-entries [] = refl
length-entries (m ∷ marked) = let e = length-entries marked in omega (arith, e)

pub at_least_all : (entries : List Entry) (least : ℕ) (c : List ℕ) → least ≤ length entries → StandsFor c entries → HasAtLeast entries least c
at_least_all entries least c le stands = record {
  count = length entries;
  enough = le;
  within = omega arith;
  stands = subst (StandsFor c) (sym (take_all (length entries) entries (omega arith))) stands;
}

-- what stands before an append or after it
pub before_or_after : (entries : List Entry) (entry : Entry) (least : ℕ) (c : List ℕ) → AllByRecursion Fits entries → Fits entry → least ≤ length entries → IsBeforeOrAfter (payloads_of entries) (spelling entry) c → HasAtLeast (entries ++ entry ∷ []) least c
before_or_after entries entry least c fit one le (inl before) = at_least_more entries (entry ∷ []) least c (at_least_all entries least c le record { fit = fit; frames = before })
before_or_after entries entry least c fit one le (inr after) =
    at_least_all (entries ++ entry ∷ []) least c (omega (arith, le, length-append entries (entry ∷ [])))
    record { fit = fit-push entries entry fit one; frames = subst (λ (l : List (List ℕ)). HasFrames c l) (sym (payloads-push entries entry)) after }

pub leaves_then : {D : Type 0} (clock : D → ℕ) (since : D → ℕ → List ℕ → Type 0) (old mid new : D) (t : ℕ) (P Q R : List ℕ → Type 0) → LeavesFrom clock since old mid t P → AddsOnly since clock mid new Q
    → ((c : List ℕ) → P c → R c) → ((c : List ℕ) → Q c → R c) → LeavesFrom clock since old new t R
leaves_then clock since old mid new t P Q R first second p q = record {
  begins = first.begins;
  ends = omega (arith, first.ends, second.0);
  each = λ c left. ⊎_elim (λ was. p c (first.each c was)) (λ h. q c h) (second.1 t c first.ends left);
  before = λ u c le left. ⊎_elim (λ was. ⊎_elim (λ w. inl w) (λ h. inr (p c h)) (first.before u c le was)) (λ h. inr (q c h)) (second.1 u c (omega (arith, le, first.begins, first.ends)) left);
}

slice_get-push : {X : Type 0} (xs : List X) (x y : X) (i : ℕ) → slice_get (xs ++ x ∷ []) i ≡ Some y → (slice_get xs i ≡ Some y) ⊎ ((i ≡ length xs) × (y ≡ x))
slice_get-push [] x y zero is = inr (refl, cc (is))
slice_get-push [] x y (suc i) is = absurd (cc (is))
slice_get-push (z ∷ xs) x y zero is = inl is
slice_get-push (z ∷ xs) x y (suc i) is = ⊎_elim (λ a. inl a) (λ b. inr (omega (arith, b.0), b.1)) (slice_get-push xs x y i is)

slice_get-within : {X : Type 0} (xs : List X) (i : ℕ) (y : X) → slice_get xs i ≡ Some y → i < length xs
slice_get-within [] i y is = absurd (cc (is))
slice_get-within (x ∷ xs) zero y is = omega arith
slice_get-within (x ∷ xs) (suc i) y is = let h = slice_get-within xs i y is in omega (arith, h)

module _ {D : Type 0} (since : D → ℕ → List ℕ → Type 0) (clock : D → ℕ) (old new : D) (opened found : ℕ) (marked : List Marked) (entry : Entry)
    (crash : Crash since clock old opened found marked []) (fit : AllByRecursion Fits (entries_of marked)) (one : Fits entry)
    (leaves : LeavesOnly clock since old new (IsBeforeOrAfter (payloads_of (entries_of marked)) (spelling entry))) where
  grown : (t least : ℕ) (c : List ℕ) → t ≤ clock old → least ≤ length marked → (since old t c → HasAtLeast (entries_of marked ++ []) least c) → since new t c → HasAtLeast (entries_of marked ++ entry ∷ []) least c
  grown t least c le few was left =
      ⊎_elim (λ before. at_least_more (entries_of marked) (entry ∷ []) least c (subst (λ (l : List Entry). HasAtLeast l least c) (append-nil (entries_of marked)) (was before)))
      (λ now. before_or_after (entries_of marked) entry least c fit one (omega (arith, few, length-entries marked)) now) (leaves.before t c le left)

  -- an append that met a fault
  pub crash_failed : Crash since clock new opened found marked (entry ∷ [])
  crash_failed = record {
    all = λ c left. grown opened found c crash.begun crash.within (crash.all c) left;
    each = λ i m is c left. let within = slice_get-within marked i m is in grown m.moment (i + 1) c (crash.past i m is) (omega (arith, within)) (crash.each i m is c) left;
    first = crash.first;
    past = λ i m is. omega (arith, crash.past i m is, leaves.later);
    begun = omega (arith, crash.begun, leaves.later);
    within = crash.within;
  }

  -- at each moment of an append
  pub adds_grown : AddsOnly since clock old new (HasAtLeast (entries_of marked ++ entry ∷ []) (length marked))
  adds_grown = (leaves.later, λ t c le left. ⊎_elim (λ was. inl was) (λ now. inr (before_or_after (entries_of marked) entry (length marked) c fit one (let e = length-entries marked in omega (arith, e)) now)) (leaves.before t c le left))

  -- an append that was done
  pub crash_grown : (moment : ℕ) → moment ≡ clock new → ((c : List ℕ) → since new moment c → HasFrames c (payloads_of (entries_of marked) ++ spelling entry ∷ [])) → Crash since clock new opened found (marked ++ marked_at moment entry ∷ []) []
  crash_grown moment now durable = record {
    all = λ c left. to found c (grown opened found c crash.begun crash.within (crash.all c) left);
    each = λ i m is c left. ⊎_elim (λ was. let within = slice_get-within marked i m was in to (i + 1) c (grown m.moment (i + 1) c (crash.past i m was) (omega (arith, within)) (crash.each i m was c) left))
        (λ last. newest i m c last left) (slice_get-push marked (marked_at moment entry) m i is);
    first = λ i m less is. ⊎_elim (λ was. crash.first i m less was) (λ last. absurd (omega (arith, less, last.0, crash.within))) (slice_get-push marked (marked_at moment entry) m i is);
    past = λ i m is. ⊎_elim (λ was. omega (arith, crash.past i m was, leaves.later)) (λ last. omega (arith, now, ap (λ (k : Marked). k.moment) last.1)) (slice_get-push marked (marked_at moment entry) m i is);
    begun = omega (arith, crash.begun, leaves.later);
    within = omega (arith, crash.within, length-append marked (marked_at moment entry ∷ []));
  }
    where
      same : entries_of marked ++ entry ∷ [] ≡ entries_of (marked ++ marked_at moment entry ∷ []) ++ []
      same = sym (entries-push marked (marked_at moment entry)) ∙ sym (append-nil (entries_of (marked ++ marked_at moment entry ∷ [])))

      to : (least : ℕ) (c : List ℕ) → HasAtLeast (entries_of marked ++ entry ∷ []) least c → HasAtLeast (entries_of (marked ++ marked_at moment entry ∷ []) ++ []) least c
      to least c has = subst (λ (l : List Entry). HasAtLeast l least c) same has

      newest : (i : ℕ) (m : Marked) (c : List ℕ) → (i ≡ length marked) × (m ≡ marked_at moment entry) → since new m.moment c → HasAtLeast (entries_of (marked ++ marked_at moment entry ∷ []) ++ []) (i + 1) c
      newest i m c last left =
          let frames = durable c (subst (λ (t : ℕ). since new t c) (ap (λ (k : Marked). k.moment) last.1) left) in
          to (i + 1) c (at_least_all (entries_of marked ++ entry ∷ []) (i + 1) c (omega (arith, last.0, length-entries marked, length-append (entries_of marked) (entry ∷ [])))
          record { fit = fit-push (entries_of marked) entry fit one; frames = subst (λ (l : List (List ℕ)). HasFrames c l) (sym (payloads-push (entries_of marked) entry)) frames })

-- what an append answered lasts
pub lasts : {D : Type 0} (since : D → ℕ → List ℕ → Type 0) (clock : D → ℕ) (new : D) (marked : List Marked) (entry : Entry) → AllByRecursion Fits (entries_of marked) → Fits entry → (moment : ℕ) → moment ≡ clock new → ((c : List ℕ) → since new moment c → HasFrames c (payloads_of (entries_of marked) ++ spelling entry ∷ []))
    → (now : List Marked) → now ≡ marked ++ marked_at moment entry ∷ [] → (c : List ℕ) → since new (clock new) c → HasAtLeast (entries_of now) (length now) c
lasts since clock new marked entry fit one moment at durable now is c left =
    let frames = durable c (subst (λ (t : ℕ). since new t c) (sym at) left) in
    let entries : entries_of now ≡ entries_of marked ++ entry ∷ [] = ap entries_of is ∙ entries-push marked (marked_at moment entry) in
    at_least_all (entries_of now) (length now) c (let e = length-entries now in omega (arith, e))
    (subst (StandsFor c) (sym entries) record { fit = fit-push (entries_of marked) entry fit one; frames = subst (λ (l : List (List ℕ)). HasFrames c l) (sym (payloads-push (entries_of marked) entry)) frames })

-- what an opening read
pub leaves_found : {D : Type 0} (clock : D → ℕ) (since : D → ℕ → List ℕ → Type 0) (old new : D) (t : ℕ) (payloads : List (List ℕ)) (entries : List Entry) (found : ℕ) → IsSpelledBy payloads entries → found ≤ length entries
    → LeavesFrom clock since old new t (λ c. HasFrames c payloads) → LeavesFrom clock since old new t (HasAtLeast entries found)
leaves_found clock since old new t payloads entries found spelled le leaves = record {
  begins = leaves.begins;
  ends = leaves.ends;
  each = λ c left. has c (leaves.each c left);
  before = λ u c few left. ⊎_elim (λ was. inl was) (λ frames. inr (has c frames)) (leaves.before u c few left);
}
  where
    has : (c : List ℕ) → HasFrames c payloads → HasAtLeast entries found c
    has c frames = at_least_all entries found c le record { fit = spelled.fit; frames = subst (λ (l : List (List ℕ)). HasFrames c l) spelled.spelled frames }

-- what an opening found
pub crash_found : {D : Type 0} (since : D → ℕ → List ℕ → Type 0) (clock : D → ℕ) (old new : D) (opened : ℕ) (marked : List Marked) → AllByRecursion Fits (entries_of marked)
    → marked ≡ map (marked_at opened) (entries_of marked) → LeavesFrom clock since old new opened (λ c. HasFrames c (payloads_of (entries_of marked))) → Crash since clock new opened (length marked) marked []
crash_found since clock old new opened marked fit moments leaves = record {
  all = λ c left. has (length marked) c (omega arith) left;
  each = λ i m is c left. has (i + 1) c (let within = slice_get-within marked i m is in omega (arith, within)) (subst (λ (t : ℕ). since new t c) (at_opening i m is) left);
  first = λ i m less is. at_opening i m is;
  past = λ i m is. omega (arith, leaves.ends, at_opening i m is);
  begun = leaves.ends;
  within = omega arith;
}
  where
    moment_of : (entries : List Entry) (i : ℕ) (m : Marked) → slice_get (map (marked_at opened) entries) i ≡ Some m → m.moment ≡ opened
    moment_of [] i m is = absurd (cc (is))
    moment_of (e ∷ entries) zero m is = let same : m ≡ marked_at opened e = cc (is) in ap (λ (k : Marked). k.moment) same
    moment_of (e ∷ entries) (suc i) m is = moment_of entries i m is

    at_opening : (i : ℕ) (m : Marked) → slice_get marked i ≡ Some m → m.moment ≡ opened
    at_opening i m is = moment_of (entries_of marked) i m (sym (ap (λ (l : List Marked). slice_get l i) moments) ∙ is)

    has : (least : ℕ) (c : List ℕ) → least ≤ length marked → since new opened c → HasAtLeast (entries_of marked ++ []) least c
    has least c le left =
        subst (λ (l : List Entry). HasAtLeast l least c) (sym (append-nil (entries_of marked)))
        (at_least_all (entries_of marked) least c (omega (arith, le, length-entries marked)) record { fit = fit; frames = leaves.each c left })
