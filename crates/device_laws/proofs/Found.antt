-- The instance that is found by its number, where numbers rise.
use Rattle.std.proofs.Common.{◌≡◌, inl, inr, ℕ, ◌<◌, List, [], ◌∷◌, Bool, true, false, Option, Some, None, Ok}
use Rattle.std.proofs.Common.{refl, arith, sym, ◌∙◌, ap}
use Rattle.std.specs.Prelude.{not, option_map, slice_get}
use Rattle.std.specs.List.{AllByRecursion}
use Rattle.std.specs.Option.{option_and_then}
use Rattle.std.proofs.lemmas.Bool.{eqb-true}
use Rattle.std.proofs.lemmas.Bool.Decides.{nat_tests}
use Rattle.std.proofs.lemmas.Option.{same_Some}
use Rattle.device_rules.specs.declared.refused.Refused.{Refused}
use Rattle.device_rules.specs.declared.refused.Refused.TheVariants.{WrongStatus}
use Rattle.device_rules.specs.Start.{has_status, right_status, status_allows}
use Rattle.device_rules.specs.Tests.{refused_if}
use Rattle.device_state.specs.declared.state.State.{State}
use Rattle.instance_store.proofs.Places.{place-Some}
use Rattle.instance_store.specs.Instances.{has_number, place_of}
use Rattle.instance_store.specs.declared.records.InstanceRec.{InstanceRec}
use Rattle.savepoints.specs.declared.keys.KeyBase.{KeyBase}
use Rattle.savepoints.specs.declared.keys.KeyBase.TheVariants.{Blank, Draft, Edit}
use Rattle.savepoints.specs.Savepoints.{base_on}
use Rattle.device_laws.specs.Finals.{DoRise, IsRightBase, numbers_of}
use Rattle.device_laws.proofs.Lists.{IsAmong, all_elements, all_then, among_at, none_passes, one_of}

-- ---- one instance a number

pub all_numbers : (P : ℕ → Type 0) (kept : List InstanceRec) → AllByRecursion P (numbers_of kept)
    → AllByRecursion (λ (k : InstanceRec). P k.number) kept
all_numbers P [] all = tt
all_numbers P (k ∷ ks) (here, there) = (here, all_numbers P ks there)

pub one_each : (kept : List InstanceRec) (i : InstanceRec) → DoRise (numbers_of kept) → IsAmong kept i
    → AllByRecursion (λ (k : InstanceRec). k.number ≡ i.number → k ≡ i) kept
one_each [] i rise among = absurd among
one_each (k ∷ ks) i (below, rise) (inl here) = (
  λ same. here,
  all_then ks (λ (other : InstanceRec) (less : k.number < other.number) (same : other.number ≡ i.number).
      absurd (let number : k.number ≡ i.number = ap (λ (x : InstanceRec). x.number) here in
      omega (arith, less, same, number)))
      (all_numbers (λ m. k.number < m) ks below),
)
one_each (k ∷ ks) i (below, rise) (inr there) = (
  λ same. let less : k.number < i.number =
      one_of (λ (x : InstanceRec). k.number < x.number) ks i there (all_numbers (λ m. k.number < m) ks below) in
      absurd (omega (arith, less, same)),
  one_each ks i rise there,
)

-- ---- what is found

found_in : (kept : List InstanceRec) (number : ℕ) (i : InstanceRec) (o : Option ℕ) → place_of number kept ≡ o
    → option_and_then (slice_get kept) o ≡ Some i → IsAmong kept i × (i.number ≡ number)
found_in kept number i None is at = absurd (cc at)
found_in kept number i (Some place) is at = (
  among_at kept place i at,
  same_Some i.number number
      (sym (ap (option_map (λ (k : InstanceRec). k.number)) at) ∙ (place-Some number kept place is).1),
)

pub found_at : (kept : List InstanceRec) (number : ℕ) (i : InstanceRec)
    → option_and_then (slice_get kept) (place_of number kept) ≡ Some i → IsAmong kept i × (i.number ≡ number)
found_at kept number i at = found_in kept number i (place_of number kept) refl at

-- ---- the status that a questionnaire's base must have

pub allowed : (b : Bool) (why : Refused) (t : Unit {0}) → refused_if (not b) why ≡ Ok t → b ≡ true
allowed true why t is = refl
allowed false why t is = absurd (cc is)

abbrev HasStatus : KeyBase → ℕ → InstanceRec → Type 0
HasStatus base number k = k.number ≡ number → has_status base k.status ≡ true

other_number : (number : ℕ) (k : InstanceRec) → has_number number k ≡ false → k.number ≡ number → ⊥
other_number number k fails same = absurd (grind (arith, nat_tests, fails, same))

status_at : (kept : List InstanceRec) (base : KeyBase) (number place : ℕ) (t : Unit {0}) (o : Option InstanceRec)
    → slice_get kept place ≡ o → option_map (λ (k : InstanceRec). k.number) o ≡ Some number
    → DoRise (numbers_of kept) → status_allows base o ≡ Ok t → AllByRecursion (HasStatus base number) kept
status_at kept base number place t None at is rise allows = absurd (cc is)
status_at kept base number place t (Some i) at is rise allows =
    let same : i.number ≡ number = same_Some i.number number is in
    let right : has_status base i.status ≡ true = allowed (has_status base i.status) (WrongStatus i.status) t allows in
    all_then kept (λ (k : InstanceRec) (one : k.number ≡ i.number → k ≡ i) (is : k.number ≡ number).
    ap (λ (x : InstanceRec). has_status base x.status) (one (is ∙ sym same)) ∙ right)
    (one_each kept i rise (among_at kept place i at))

status_in : (kept : List InstanceRec) (base : KeyBase) (number : ℕ) (t : Unit {0}) (o : Option ℕ)
    → place_of number kept ≡ o → DoRise (numbers_of kept)
    → status_allows base (option_and_then (slice_get kept) o) ≡ Ok t → AllByRecursion (HasStatus base number) kept
status_in kept base number t None is rise allows =
    all_then kept (λ (k : InstanceRec) (fails : has_number number k ≡ false) (same : k.number ≡ number).
    absurd (other_number number k fails same))
    (none_passes (has_number number) kept is)
status_in kept base number t (Some place) is rise allows =
    status_at kept base number place t (slice_get kept place) refl (place-Some number kept place is).1 rise allows

on_number : (base : KeyBase) (number : ℕ) (kept : List InstanceRec)
    → ((k : InstanceRec) → base_on k.number base ≡ true → k.number ≡ number)
    → AllByRecursion (HasStatus base number) kept → AllByRecursion (IsRightBase base) kept
on_number base number kept says all = all_then kept (λ k has on. has (says k on)) all

-- what a questionnaire may begin from is what it stands on rightly
pub right_base : (state : State) (base : KeyBase) (t : Unit {0}) → DoRise (numbers_of state.instances.items)
    → right_status state base ≡ Ok t → AllByRecursion (IsRightBase base) state.instances.items
right_base state Blank t rise allows = all_elements state.instances.items (λ k among on. absurd (cc on))
right_base state (Draft number) t rise allows =
    on_number (Draft number) number state.instances.items (λ k on. sym (eqb-true number k.number on))
    (status_in state.instances.items (Draft number) number t (place_of number state.instances.items) refl rise allows)
right_base state (Edit number) t rise allows =
    on_number (Edit number) number state.instances.items (λ k on. sym (eqb-true number k.number on))
    (status_in state.instances.items (Edit number) number t (place_of number state.instances.items) refl rise allows)
