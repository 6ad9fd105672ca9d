-- Counts of faults. A count never falls, and stands still at the end of its type.
use Rattle.std.specs.Prelude.{◌≡◌, ℕ, ◌+◌, ◌-◌, ◌^◌, ◌≤◌, min, Result, OnOk, OnErr}

-- the count has risen, or stands at the end of its type
abbrev pub Rose : ℕ → ℕ → Type 0
Rose before now = min (before + 1) (2 ^ 64 - 1) ≤ now

-- A failed call raised the count, and no other call did.
pub record HasCause {T E : Type 0} (before now : ℕ) (result : Result T E) : Type 0 where
  pub later : before ≤ now
  pub failed : OnErr result (Rose before now)
  pub kept : OnOk result (now ≡ before)

-- an answer that says yes raised the count, and no other answer did
pub record CountsWhere (before now : ℕ) (Happened : Type 0) : Type 0 where
  pub later : before ≤ now
  pub counted : Happened → Rose before now
  pub kept : ¬ Happened → now ≡ before
