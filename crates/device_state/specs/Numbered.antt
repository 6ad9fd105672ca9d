-- Instances by their numbers, which grow.
use Rattle.std.specs.Prelude.{ℕ, Bool, ◌&&◌, nat_lt, if◌then◌else◌, List, [], ◌∷◌, ◌++◌, length, remove, slice_set}
use Rattle.std.specs.List.{list_all}
use Rattle.std.specs.Option.{option_map_or}
use Rattle.field_rows.specs.Edited.{edited}
use Rattle.instance_store.specs.Instances.{instance_limit, place_of, with_status, with_tried}
use Rattle.instance_store.specs.declared.records.InstanceRec.{InstanceRec}
use Rattle.instance_store.specs.declared.records.Status.{Status}

abbrev pub is_below : ℕ → InstanceRec → Bool
is_below number k = nat_lt k.number number

-- the number is greater than all, and there may be one more
abbrev pub can_add : ℕ → List InstanceRec → Bool
can_add number kept = nat_lt (length kept) instance_limit && list_all (is_below number) kept

-- with one more behind the others, where it can stand there
abbrev pub added : InstanceRec → List InstanceRec → List InstanceRec
added item kept = if can_add item.number kept then kept ++ item ∷ [] else kept

-- with this one in the place of the one that has its number
abbrev pub replaced_by : InstanceRec → List InstanceRec → List InstanceRec
replaced_by item kept = option_map_or (λ place. slice_set kept place item) (place_of item.number kept) kept

-- with each of these in the place of the one that has its number
abbrev pub each_replaced : List InstanceRec → List InstanceRec → List InstanceRec
each_replaced [] kept = kept
each_replaced (item ∷ items) kept = each_replaced items (replaced_by item kept)

-- without the one that has this number
abbrev pub dropped : ℕ → List InstanceRec → List InstanceRec
dropped number kept = option_map_or (λ place. remove kept place) (place_of number kept) kept

-- with the one that has this number changed so
abbrev pub changed_at : (InstanceRec → InstanceRec) → ℕ → List InstanceRec → List InstanceRec
changed_at change number kept = option_map_or (λ place. edited change place kept) (place_of number kept) kept

-- the entry at this position has sent the one with this number last
abbrev pub tried_at : ℕ → ℕ → List InstanceRec → List InstanceRec
tried_at position number kept = changed_at (with_tried position) number kept

abbrev pub status_at : Status → ℕ → List InstanceRec → List InstanceRec
status_at status number kept = changed_at (with_status status) number kept
