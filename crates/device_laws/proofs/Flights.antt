-- Lists of sends in flight, and elements that pass a test.
use Rattle.std.proofs.Common.{◌≡◌, ◌≢◌, ℕ, zero, suc, List, [], ◌∷◌, ◌++◌, Bool, true, false, Some}
use Rattle.std.proofs.Common.{refl, arith, sym, ap, subst, get_or}
use Rattle.std.specs.Prelude.{◌||◌, not, position, remove, slice_get}
use Rattle.std.specs.List.{AllByRecursion, list_any}
use Rattle.std.proofs.lemmas.Bool.{and_parts, eqb-true}
use Rattle.std.proofs.lemmas.Bool.Decides.{nat_tests}
use Rattle.std.proofs.lemmas.List.Quantifiers.{position-Some}
use Rattle.std.proofs.lemmas.Option.{same_Some, slice_get-get_or}
use Rattle.device_state.specs.declared.flight.Flight.{Flight}
use Rattle.device_state.specs.Flights.{has_flight, is_by, is_flight, is_sending}
use Rattle.entry_form.specs.declared.hand.Hand.{Hand}
use Rattle.device_laws.specs.Finals.{DoDiffer, sent_numbers}
use Rattle.device_laws.proofs.Lists.{all_joined, all_removed, among_at, one_of}

-- ---- tests

pub both_false : (a b : Bool) → (a || b) ≡ false → (a ≡ false) × (b ≡ false)
both_false true b is = absurd (cc is)
both_false false b is = (refl, is)

pub not_so : (b : Bool) → not b ≡ true → b ≡ false
not_so true is = absurd (cc is)
not_so false is = refl

-- an element that passes, with what holds of all
module _ {T : Type 0} (test : T → Bool) (P : T → Type 0) where
  pub record Passes : Type 0 where
    pub one : T
    pub passes : test one ≡ true
    pub holds : P one

  one_of_two : (b : Bool) (x : T) (xs : List T) → test x ≡ b → (b || list_any test xs) ≡ true → P x
      → (list_any test xs ≡ true → Passes) → Passes
  one_of_two true x xs is any here rest = record { one = x; passes = is; holds = here }
  one_of_two false x xs is any here rest = rest any

  pub one_passes : (xs : List T) → list_any test xs ≡ true → AllByRecursion P xs → Passes
  one_passes [] any all = absurd (cc any)
  one_passes (x ∷ xs) any (here, there) =
      one_of_two (test x) x xs refl any here (λ more. one_passes xs more there)

-- the element at the first place that passes
pub record IsFirst {T : Type 0} (test : T → Bool) (xs : List T) (place : ℕ) : Type 0 where
  pub one : T
  pub at : slice_get xs place ≡ Some one
  pub passes : test one ≡ true

pub first_at : {T : Type 0} (test : T → Bool) (xs : List T) (place : ℕ) → position test xs ≡ Some place
    → IsFirst test xs place
first_at test [] place is = absurd (cc is)
first_at test (x ∷ xs) place is =
    let found = position-Some test (x ∷ xs) place x is in
    record {
      one = get_or (x ∷ xs) place x;
      at = slice_get-get_or (x ∷ xs) place x found.0;
      passes = found.1;
    }

-- ---- numbers

pub flight_number : (hand : Hand) (number : ℕ) (f : Flight) → is_flight hand number f ≡ true → f.number ≡ number
flight_number hand number f is = eqb-true f.number number (and_parts (is_by hand f) (is_sending number f) is).1

other_flight : (number : ℕ) (f : Flight) → is_sending number f ≡ false → number ≢ f.number
other_flight number f fails same = absurd (grind (arith, nat_tests, fails, same))

pub none_sent : (number : ℕ) (flights : List Flight) → has_flight number flights ≡ false
    → AllByRecursion (λ m. number ≢ m) (sent_numbers flights)
none_sent number [] none = tt
none_sent number (f ∷ fs) none =
    let parts = both_false (is_sending number f) (has_flight number fs) none in
    (other_flight number f parts.0, none_sent number fs parts.1)

pub all_sent : (P : ℕ → Type 0) (flights : List Flight) → AllByRecursion P (sent_numbers flights)
    → AllByRecursion (λ (f : Flight). P f.number) flights
all_sent P [] all = tt
all_sent P (f ∷ fs) (here, there) = (here, all_sent P fs there)

-- ---- one more, one gone

differ_joined : (ns : List ℕ) (n : ℕ) → DoDiffer ns → AllByRecursion (λ m. n ≢ m) ns → DoDiffer (ns ++ n ∷ [])
differ_joined [] n differ off = (tt, tt)
differ_joined (m ∷ ms) n (here, there) (off, rest) =
    (all_joined (λ k. k ≢ m) ms (n ∷ []) here (off, tt), differ_joined ms n there rest)

sent_joined : (flights : List Flight) (f : Flight)
    → sent_numbers (flights ++ f ∷ []) ≡ sent_numbers flights ++ f.number ∷ []
sent_joined [] f = refl
sent_joined (g ∷ gs) f = ap (λ ns. g.number ∷ ns) (sent_joined gs f)

pub begun_differ : (flights : List Flight) (f : Flight) → has_flight f.number flights ≡ false
    → DoDiffer (sent_numbers flights) → DoDiffer (sent_numbers (flights ++ f ∷ []))
begun_differ flights f none differ = subst DoDiffer (sym (sent_joined flights f))
    (differ_joined (sent_numbers flights) f.number differ (none_sent f.number flights none))

differ_removed : (ns : List ℕ) (place : ℕ) → DoDiffer ns → DoDiffer (remove ns place)
differ_removed [] zero differ = tt
differ_removed [] (suc place) differ = tt
differ_removed (n ∷ ns) zero (here, there) = there
differ_removed (n ∷ ns) (suc place) (here, there) =
    (all_removed (λ m. m ≢ n) ns place here, differ_removed ns place there)

sent_removed : (flights : List Flight) (place : ℕ)
    → sent_numbers (remove flights place) ≡ remove (sent_numbers flights) place
sent_removed [] zero = refl
sent_removed [] (suc place) = refl
sent_removed (f ∷ fs) zero = refl
sent_removed (f ∷ fs) (suc place) = ap (λ ns. f.number ∷ ns) (sent_removed fs place)

pub ended_differ : (flights : List Flight) (place : ℕ) → DoDiffer (sent_numbers flights)
    → DoDiffer (sent_numbers (remove flights place))
ended_differ flights place differ =
    subst DoDiffer (sym (sent_removed flights place)) (differ_removed (sent_numbers flights) place differ)

-- the others are of other numbers
pub others_left : (flights : List Flight) (place : ℕ) (f : Flight) → slice_get flights place ≡ Some f
    → DoDiffer (sent_numbers flights) → AllByRecursion (λ (g : Flight). g.number ≢ f.number) (remove flights place)
others_left [] place f at differ = absurd (cc at)
others_left (g ∷ gs) zero f at (off, differ) =
    subst (λ n. AllByRecursion (λ (h : Flight). h.number ≢ n) gs)
    (ap (λ (h : Flight). h.number) (same_Some g f at)) (all_sent (λ m. m ≢ g.number) gs off)
others_left (g ∷ gs) (suc place) f at (off, differ) = (
  λ same. one_of (λ (h : Flight). h.number ≢ g.number) gs f (among_at gs place f at)
      (all_sent (λ m. m ≢ g.number) gs off) (sym same),
  others_left gs place f at differ,
)
