-- What a crash at each moment of a call leaves.
use Rattle.std.specs.Prelude.{◌≡◌, ◌⊎◌, ℕ, ◌≤◌, List, length, Option, Some}
use Rattle.disk_model.specs.Disk.{AddsNoImage, counted}

module _ {D : Type 0} (clock : D → ℕ) (since : D → ℕ → List ℕ → Type 0) where
  -- a crash at any moment from old to new leaves what has P
  pub record LeavesOnly (old new : D) (P : List ℕ → Type 0) : Type 0 where
    pub later : clock old ≤ clock new
    pub each : (c : List ℕ) → since new (clock old) c → P c
    -- for a run that began earlier
    pub before : (t : ℕ) (c : List ℕ) → t ≤ clock old → since new t c → since old t c ⊎ P c

  -- a crash before the moment t leaves what might have been left before the call, and from then on what has P
  pub record LeavesFrom (old new : D) (t : ℕ) (P : List ℕ → Type 0) : Type 0 where
    pub begins : clock old ≤ t
    pub ends : t ≤ clock new
    pub each : (c : List ℕ) → since new t c → P c
    pub before : (u : ℕ) (c : List ℕ) → u ≤ clock old → since new u c → since old u c ⊎ P c

-- an image is what the disk reads, or both have at most 9 bytes
abbrev pub IsAsRead : Option (List ℕ) → List ℕ → Type 0
IsAsRead content c = (image : List ℕ) × (content ≡ Some image) × ((c ≡ image) ⊎ ((length image ≤ 9) × (length c ≤ 9)))

-- the moment of a disk right after its next sync, where that is the next call and succeeds
abbrev pub synced_at : {D : Type 0} → (D → ℕ) → D → ℕ
synced_at clock disk = counted (clock disk)

-- Opening a disk failed: no image was added, or none since its first sync but the bytes as they were read.
pub data LeavesAsRead {D : Type 0} (clock : D → ℕ) (may : D → List ℕ → Type 0) (since : D → ℕ → List ℕ → Type 0)
    (content : Option (List ℕ)) (old new : D) : Type 0 where
  unsynced : AddsNoImage clock may since old new → LeavesAsRead clock may since content old new
  synced : LeavesFrom clock since old new (synced_at clock old) (IsAsRead content)
      → LeavesAsRead clock may since content old new
