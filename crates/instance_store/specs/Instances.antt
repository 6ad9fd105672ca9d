-- Lists of instances, and what each call of a store makes of them.
use Rattle.std.specs.Prelude.{ℕ, ◌==◌, Bool, List, position, Option}
use Rattle.instance_store.specs.declared.records.InstanceRec.{InstanceRec}
use Rattle.instance_store.specs.declared.records.Status.{Status}

abbrev pub instance_limit : ℕ
instance_limit = 10000

abbrev pub has_number : ℕ → InstanceRec → Bool
has_number number r = r.number == number

-- the place of the instance with a number
abbrev pub place_of : ℕ → List InstanceRec → Option ℕ
place_of number records = position (has_number number) records

abbrev pub with_status : Status → InstanceRec → InstanceRec
with_status status r = record r { status = status }

-- the position of the entry that sent it last is this
abbrev pub with_tried : ℕ → InstanceRec → InstanceRec
with_tried position r = record r { tried = position }
