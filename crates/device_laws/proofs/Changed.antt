-- The instances once one of them is changed by its number.
use Rattle.std.proofs.Common.{◌≡◌, ◌≢◌, ℕ, zero, suc, ◌<◌, List, [], ◌∷◌, false, Option}
use Rattle.std.proofs.Common.{Some, None, refl, arith, sym, ◌∙◌, ap, subst}
use Rattle.std.specs.Prelude.{option_map, slice_get, slice_set}
use Rattle.std.specs.List.{AllByRecursion}
use Rattle.std.specs.Option.{option_map_or}
use Rattle.std.proofs.lemmas.Bool.Decides.{nat_tests}
use Rattle.std.proofs.lemmas.Option.{same_Some}
use Rattle.device_state.specs.Numbered.{changed_at}
use Rattle.field_rows.specs.Edited.{edited}
use Rattle.instance_store.proofs.Places.{place-Some}
use Rattle.instance_store.specs.Instances.{has_number, place_of}
use Rattle.instance_store.specs.declared.records.InstanceRec.{InstanceRec}
use Rattle.device_laws.specs.Finals.{DoRise, numbers_of}
use Rattle.device_laws.proofs.Found.{all_numbers}
use Rattle.device_laws.proofs.Lists.{all_among, all_set, among_at, none_passes, one_of}
use Rattle.device_laws.proofs.Numbers.{numbers_set}

module _ (f : InstanceRec → InstanceRec) (number : ℕ) where
  -- ---- what each change keeps

  module _ (P : InstanceRec → Type 0) (keeps : (i : InstanceRec) → P i → P (f i)) where
    edited_here : (kept : List InstanceRec) (place : ℕ) (o : Option InstanceRec) → slice_get kept place ≡ o
        → AllByRecursion P kept → AllByRecursion P (option_map_or (λ r. slice_set kept place (f r)) o kept)
    edited_here kept place None at all = all
    edited_here kept place (Some i) at all =
        all_set P kept place (f i) (keeps i (one_of P kept i (among_at kept place i at) all)) all

    changed_here : (kept : List InstanceRec) (o : Option ℕ) → AllByRecursion P kept
        → AllByRecursion P (option_map_or (λ place. edited f place kept) o kept)
    changed_here kept None all = all
    changed_here kept (Some place) all = edited_here kept place (slice_get kept place) refl all

    pub all_changed : (kept : List InstanceRec) → AllByRecursion P kept → AllByRecursion P (changed_at f number kept)
    all_changed kept all = changed_here kept (place_of number kept) all

  -- ---- numbers

  module _ (same : (i : InstanceRec) → (f i).number ≡ i.number) where
    numbers_edited : (kept : List InstanceRec) (place : ℕ) (o : Option InstanceRec) → slice_get kept place ≡ o
        → numbers_of (option_map_or (λ r. slice_set kept place (f r)) o kept) ≡ numbers_of kept
    numbers_edited kept place None at = refl
    numbers_edited kept place (Some i) at = numbers_set kept place (f i)
        (ap (option_map (λ (k : InstanceRec). k.number)) at ∙ ap (λ n. Some n) (sym (same i)))

    numbers_at : (kept : List InstanceRec) (o : Option ℕ)
        → numbers_of (option_map_or (λ place. edited f place kept) o kept) ≡ numbers_of kept
    numbers_at kept None = refl
    numbers_at kept (Some place) = numbers_edited kept place (slice_get kept place) refl

    pub numbers_changed : (kept : List InstanceRec) → numbers_of (changed_at f number kept) ≡ numbers_of kept
    numbers_changed kept = numbers_at kept (place_of number kept)

  -- ---- the one with the number is changed, and no other

  module _ (P Q : InstanceRec → Type 0) (others : (i : InstanceRec) → i.number ≢ number → P i → Q i)
      (here : (i : InstanceRec) → i.number ≡ number → P i → Q (f i)) where
    set_apart : (kept : List InstanceRec) (place : ℕ) (i : InstanceRec) → slice_get kept place ≡ Some i
        → i.number ≡ number → DoRise (numbers_of kept) → AllByRecursion P kept
        → AllByRecursion Q (slice_set kept place (f i))
    set_apart [] place i at is rise all = absurd (cc at)
    set_apart (k ∷ ks) zero i at is (below, rise) (holds, rest) =
        let same : k ≡ i = same_Some k i at in
        let first : k.number ≡ number = ap (λ (x : InstanceRec). x.number) same ∙ is in
        let less = all_numbers (λ m. k.number < m) ks below in (
          here i is (subst P same holds),
          all_among ks (λ x among p. others x
              (λ e. let l = one_of (λ (y : InstanceRec). k.number < y.number) ks x among less in
              omega (arith, l, e, first)) p) rest,
        )
    set_apart (k ∷ ks) (suc place) i at is (below, rise) (holds, rest) =
        let l : k.number < i.number = one_of (λ (y : InstanceRec). k.number < y.number) ks i (among_at ks place i at)
        (all_numbers (λ m. k.number < m) ks below) in
        (others k (λ e. omega (arith, l, e, is)) holds, set_apart ks place i at is rise rest)

    off : (k : InstanceRec) → has_number number k ≡ false → k.number ≢ number
    off k fails e = absurd (grind (arith, nat_tests, fails, e))

    none_apart : (kept : List InstanceRec) → place_of number kept ≡ None → AllByRecursion P kept
        → AllByRecursion Q kept
    none_apart kept none all = all_among kept (λ x among p. others x
        (off x (one_of (λ (k : InstanceRec). has_number number k ≡ false) kept x among
        (none_passes (has_number number) kept none))) p) all

    found_apart : (kept : List InstanceRec) (place : ℕ) (o : Option InstanceRec) → slice_get kept place ≡ o
        → option_map (λ (k : InstanceRec). k.number) o ≡ Some number → DoRise (numbers_of kept)
        → AllByRecursion P kept → AllByRecursion Q (option_map_or (λ r. slice_set kept place (f r)) o kept)
    found_apart kept place None at is rise all = absurd (cc is)
    found_apart kept place (Some i) at is rise all = set_apart kept place i at (same_Some i.number number is) rise all

    apart_at : (kept : List InstanceRec) (o : Option ℕ) → place_of number kept ≡ o → DoRise (numbers_of kept)
        → AllByRecursion P kept → AllByRecursion Q (option_map_or (λ place. edited f place kept) o kept)
    apart_at kept None is rise all = none_apart kept is all
    apart_at kept (Some place) is rise all =
        found_apart kept place (slice_get kept place) refl (place-Some number kept place is).1 rise all

    pub all_changed_apart : (kept : List InstanceRec) → DoRise (numbers_of kept) → AllByRecursion P kept
        → AllByRecursion Q (changed_at f number kept)
    all_changed_apart kept rise all = apart_at kept (place_of number kept) refl rise all
