-- The number of a device, and the counter of the next id that it draws.
use Rattle.std.specs.Prelude.{ℕ, ◌+◌, ◌<◌, ◌≤◌, ◌^◌}

pub record NextDraw : Type 0 where
  pub device : ℕ
  pub next : ℕ

-- what both keep, so that each draw has its bits in an id
pub record IsInRange (draws : NextDraw) : Type 0 where
  pub device : draws.device < 2 ^ 48
  pub from_one : 1 ≤ draws.next
  pub next : draws.next ≤ 2 ^ 62

-- once so many ids were drawn
abbrev pub drawn : NextDraw → ℕ → NextDraw
drawn draws count = record { device = draws.device; next = draws.next + count }
