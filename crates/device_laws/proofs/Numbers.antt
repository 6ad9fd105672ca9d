-- The numbers of instances, as each change of the list leaves them.
use Rattle.std.proofs.Common.{◌≡◌, ℕ, zero, suc, ◌+◌, ◌<◌, List, [], ◌∷◌, ◌++◌, Bool, true, false, Option, Some, None}
use Rattle.std.proofs.Common.{refl, arith, sym, ◌∙◌, ap, subst}
use Rattle.std.specs.Prelude.{if◌then◌else◌, option_map, remove, slice_get, slice_set}
use Rattle.std.specs.List.{AllByRecursion}
use Rattle.std.specs.Option.{option_map_or}
use Rattle.std.proofs.lemmas.Option.{same_Some}
use Rattle.device_state.specs.declared.entry.OpenEntry.{OpenEntry}
use Rattle.device_state.specs.Numbered.{added, can_add, dropped, each_replaced, replaced_by}
use Rattle.instance_store.proofs.Places.{place-Some}
use Rattle.instance_store.specs.Instances.{place_of}
use Rattle.instance_store.specs.declared.records.InstanceRec.{InstanceRec}
use Rattle.device_laws.specs.Finals.{AreOrderly, DoRise, numbers_of}
use Rattle.device_laws.proofs.Lists.{all_joined, all_removed, all_then}

-- ---- one more

rise_joined : (ns : List ℕ) (n : ℕ) → DoRise ns → AllByRecursion (λ m. m < n) ns → DoRise (ns ++ n ∷ [])
rise_joined [] n rise below = (tt, tt)
rise_joined (m ∷ ms) n (here, there) (less, below) =
    (all_joined (λ k. m < k) ms (n ∷ []) here (less, tt), rise_joined ms n there below)

pub numbers_joined : (kept : List InstanceRec) (item : InstanceRec)
    → numbers_of (kept ++ item ∷ []) ≡ numbers_of kept ++ item.number ∷ []
numbers_joined [] item = refl
numbers_joined (k ∷ ks) item = ap (λ ns. k.number ∷ ns) (numbers_joined ks item)

joined_below : (ns : List ℕ) (n next : ℕ) → n ≡ next → AllByRecursion (λ m. m < next) ns
    → AllByRecursion (λ m. m < next + 1) (ns ++ n ∷ [])
joined_below ns n next is below =
    all_joined (λ m. m < next + 1) ns (n ∷ []) (all_then ns (λ m less. omega (arith, less)) below)
    (omega (arith, is), tt)

added_so : (b : Bool) (item : InstanceRec) (kept : List InstanceRec) (next : ℕ) (entry : Option OpenEntry)
    → item.number ≡ next → AreOrderly kept next entry
    → AreOrderly (if b then kept ++ item ∷ [] else kept) (next + 1) None
added_so true item kept next entry is orderly = record {
  rise = subst DoRise (sym (numbers_joined kept item)) (rise_joined (numbers_of kept) item.number orderly.rise
      (subst (λ n. AllByRecursion (λ m. m < n) (numbers_of kept)) (sym is) orderly.below));
  below = subst (AllByRecursion (λ m. m < next + 1)) (sym (numbers_joined kept item))
      (joined_below (numbers_of kept) item.number next is orderly.below);
  base = tt;
}
added_so false item kept next entry is orderly = record {
  rise = orderly.rise;
  below = all_then (numbers_of kept) (λ m less. omega (arith, less)) orderly.below;
  base = tt;
}

pub added_orderly : (item : InstanceRec) (kept : List InstanceRec) (next : ℕ) (entry : Option OpenEntry)
    → item.number ≡ next → AreOrderly kept next entry → AreOrderly (added item kept) (next + 1) None
added_orderly item kept next entry is orderly = added_so (can_add item.number kept) item kept next entry is orderly

-- ---- others in their places

pub numbers_set : (kept : List InstanceRec) (place : ℕ) (item : InstanceRec)
    → option_map (λ (k : InstanceRec). k.number) (slice_get kept place) ≡ Some item.number
    → numbers_of (slice_set kept place item) ≡ numbers_of kept
numbers_set [] place item at = refl
numbers_set (k ∷ ks) zero item at = ap (λ n. n ∷ numbers_of ks) (sym (same_Some k.number item.number at))
numbers_set (k ∷ ks) (suc place) item at = ap (λ ns. k.number ∷ ns) (numbers_set ks place item at)

numbers_at : (item : InstanceRec) (kept : List InstanceRec) (o : Option ℕ) → place_of item.number kept ≡ o
    → numbers_of (option_map_or (λ place. slice_set kept place item) o kept) ≡ numbers_of kept
numbers_at item kept None is = refl
numbers_at item kept (Some place) is = numbers_set kept place item (place-Some item.number kept place is).1

pub numbers_replaced : (item : InstanceRec) (kept : List InstanceRec) → numbers_of (replaced_by item kept) ≡ numbers_of kept
numbers_replaced item kept = numbers_at item kept (place_of item.number kept) refl

pub numbers_each : (items kept : List InstanceRec) → numbers_of (each_replaced items kept) ≡ numbers_of kept
numbers_each [] kept = refl
numbers_each (item ∷ items) kept = numbers_each items (replaced_by item kept) ∙ numbers_replaced item kept

pub each_rise : (items kept : List InstanceRec) → DoRise (numbers_of kept)
    → DoRise (numbers_of (each_replaced items kept))
each_rise items kept rise = subst DoRise (sym (numbers_each items kept)) rise

pub each_below : (items kept : List InstanceRec) (next : ℕ) → AllByRecursion (λ m. m < next) (numbers_of kept)
    → AllByRecursion (λ m. m < next) (numbers_of (each_replaced items kept))
each_below items kept next below = subst (AllByRecursion (λ m. m < next)) (sym (numbers_each items kept)) below

-- ---- one gone

rise_removed : (ns : List ℕ) (place : ℕ) → DoRise ns → DoRise (remove ns place)
rise_removed [] zero rise = tt
rise_removed [] (suc place) rise = tt
rise_removed (n ∷ ns) zero (here, there) = there
rise_removed (n ∷ ns) (suc place) (here, there) =
    (all_removed (λ m. n < m) ns place here, rise_removed ns place there)

pub numbers_removed : (kept : List InstanceRec) (place : ℕ)
    → numbers_of (remove kept place) ≡ remove (numbers_of kept) place
numbers_removed [] zero = refl
numbers_removed [] (suc place) = refl
numbers_removed (k ∷ ks) zero = refl
numbers_removed (k ∷ ks) (suc place) = ap (λ ns. k.number ∷ ns) (numbers_removed ks place)

dropped_rise_at : (kept : List InstanceRec) (o : Option ℕ) → DoRise (numbers_of kept)
    → DoRise (numbers_of (option_map_or (λ place. remove kept place) o kept))
dropped_rise_at kept None rise = rise
dropped_rise_at kept (Some place) rise =
    subst DoRise (sym (numbers_removed kept place)) (rise_removed (numbers_of kept) place rise)

pub dropped_rise : (number : ℕ) (kept : List InstanceRec) → DoRise (numbers_of kept)
    → DoRise (numbers_of (dropped number kept))
dropped_rise number kept rise = dropped_rise_at kept (place_of number kept) rise

dropped_below_at : (kept : List InstanceRec) (next : ℕ) (o : Option ℕ)
    → AllByRecursion (λ m. m < next) (numbers_of kept)
    → AllByRecursion (λ m. m < next) (numbers_of (option_map_or (λ place. remove kept place) o kept))
dropped_below_at kept next None below = below
dropped_below_at kept next (Some place) below =
    subst (AllByRecursion (λ m. m < next)) (sym (numbers_removed kept place))
    (all_removed (λ m. m < next) (numbers_of kept) place below)

pub dropped_below : (number : ℕ) (kept : List InstanceRec) (next : ℕ)
    → AllByRecursion (λ m. m < next) (numbers_of kept)
    → AllByRecursion (λ m. m < next) (numbers_of (dropped number kept))
dropped_below number kept next below = dropped_below_at kept next (place_of number kept) below
