-- What callers see of a disk that fails by a plan.
use Rattle.std.specs.Prelude.{◌≡◌, ℕ, Bool, ◌==◌, nat_le, List, IsTrue, Result, IsErr}
use Rattle.std.specs.List.{list_any}
use Rattle.field_io.specs.declared.source.Failed.{Failed}
use Rattle.disk_model.specs.Disk.{counted}
use Rattle.disk_model.specs.declared.failing.FailingDisk.{FailingDisk}
use Rattle.disk_model.specs.declared.failing.Plan.{Plan}
use Rattle.disk_model.specs.declared.failing.Plan.TheVariants.{From, Listed}

-- the call of this number fails; calls are counted from 1
abbrev pub is_planned : Plan → ℕ → Bool
is_planned (From first) call = nat_le first call
is_planned (Listed fails) call = list_any (λ number. number == call) fails

abbrev pub plan_of : FailingDisk → Plan
plan_of disk = disk.plan

-- the next call fails
abbrev pub next_fails : FailingDisk → Bool
next_fails disk = is_planned disk.plan (counted disk.counts.calls)

-- the call failed, and nothing but the counts was changed
abbrev pub FailsAlone : {T : Type 0} → FailingDisk → FailingDisk → Result T Failed → Type 0
FailsAlone old new result = IsErr result × (new ≡ record old { counts = new.counts })
