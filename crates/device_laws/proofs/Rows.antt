-- What holds of all instances and savepoints holds of them once one is put or gone.
use Rattle.std.proofs.Common.{◌≡◌, ℕ, List, [], ◌∷◌, ◌++◌, Bool, true, false, Option, Some, None, refl}
use Rattle.std.specs.Prelude.{if◌then◌else◌, not, remove, slice_get, slice_set}
use Rattle.std.specs.List.{AllByRecursion}
use Rattle.std.specs.Option.{option_map_or}
use Rattle.device_state.specs.Numbered.{added, can_add, dropped, replaced_by}
use Rattle.instance_store.specs.Instances.{place_of}
use Rattle.instance_store.specs.declared.records.InstanceRec.{InstanceRec}
use Rattle.savepoints.specs.declared.keys.Key.{Key}
use Rattle.savepoints.specs.declared.store.Savepoint.{Savepoint}
use Rattle.savepoints.specs.Savepoints.{place_of as place_of_key, put, put_at, removed, removed_at, removed_on}
use Rattle.savepoints.specs.Savepoints.{stands_on}
use Rattle.device_laws.proofs.Lists.{all_filtered, all_joined, all_removed, all_set, among_at, one_of}

module _ (P : InstanceRec → Type 0) where
  added_by : (b : Bool) (item : InstanceRec) (kept : List InstanceRec) → P item → AllByRecursion P kept
      → AllByRecursion P (if b then kept ++ item ∷ [] else kept)
  added_by true item kept holds all = all_joined P kept (item ∷ []) all (holds, tt)
  added_by false item kept holds all = all

  pub all_added : (item : InstanceRec) (kept : List InstanceRec) → P item → AllByRecursion P kept
      → AllByRecursion P (added item kept)
  all_added item kept holds all = added_by (can_add item.number kept) item kept holds all

  replaced_at : (item : InstanceRec) (kept : List InstanceRec) (o : Option ℕ) → P item → AllByRecursion P kept
      → AllByRecursion P (option_map_or (λ place. slice_set kept place item) o kept)
  replaced_at item kept None holds all = all
  replaced_at item kept (Some place) holds all = all_set P kept place item holds all

  pub all_replaced : (item : InstanceRec) (kept : List InstanceRec) → P item → AllByRecursion P kept
      → AllByRecursion P (replaced_by item kept)
  all_replaced item kept holds all = replaced_at item kept (place_of item.number kept) holds all

  dropped_at : (kept : List InstanceRec) (o : Option ℕ) → AllByRecursion P kept
      → AllByRecursion P (option_map_or (λ place. remove kept place) o kept)
  dropped_at kept None all = all
  dropped_at kept (Some place) all = all_removed P kept place all

  pub all_dropped : (number : ℕ) (kept : List InstanceRec) → AllByRecursion P kept
      → AllByRecursion P (dropped number kept)
  all_dropped number kept all = dropped_at kept (place_of number kept) all

-- what is asked of a savepoint's key
module _ (P : Key → Type 0) where
  abbrev HoldsOf : Savepoint → Type 0
  HoldsOf s = P s.key

  edited_at : (sheet : List (List ℕ)) (kept : List Savepoint) (place : ℕ) (o : Option Savepoint)
      → slice_get kept place ≡ o → AllByRecursion HoldsOf kept
      → AllByRecursion HoldsOf (option_map_or (λ s. slice_set kept place (record s { sheet = sheet })) o kept)
  edited_at sheet kept place None at all = all
  edited_at sheet kept place (Some s) at all =
      all_set HoldsOf kept place (record s { sheet = sheet }) (one_of HoldsOf kept s (among_at kept place s at) all) all

  put_by : (key : Key) (sheet : List (List ℕ)) (kept : List Savepoint) (o : Option ℕ) → P key
      → AllByRecursion HoldsOf kept → AllByRecursion HoldsOf (put_at key sheet kept o)
  put_by key sheet kept None holds all =
      all_joined HoldsOf kept (record { key = key; sheet = sheet } ∷ []) all (holds, tt)
  put_by key sheet kept (Some place) holds all = edited_at sheet kept place (slice_get kept place) refl all

  pub all_put : (key : Key) (sheet : List (List ℕ)) (kept : List Savepoint) → P key
      → AllByRecursion (λ (s : Savepoint). P s.key) kept
      → AllByRecursion (λ (s : Savepoint). P s.key) (put key sheet kept)
  all_put key sheet kept holds all = put_by key sheet kept (place_of_key key kept) holds all

module _ (P : Savepoint → Type 0) where
  removed_by : (kept : List Savepoint) (o : Option ℕ) → AllByRecursion P kept → AllByRecursion P (removed_at kept o)
  removed_by kept None all = all
  removed_by kept (Some place) all = all_removed P kept place all

  pub all_gone : (key : Key) (kept : List Savepoint) → AllByRecursion P kept → AllByRecursion P (removed key kept)
  all_gone key kept all = removed_by kept (place_of_key key kept) all

  pub all_gone_on : (number : ℕ) (kept : List Savepoint) → AllByRecursion P kept
      → AllByRecursion P (removed_on number kept)
  all_gone_on number kept all = all_filtered P (λ s. not (stands_on number s)) kept all
