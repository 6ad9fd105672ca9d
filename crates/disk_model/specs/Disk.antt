-- What the calls of a disk do to its bytes, and what a crash may leave of them.
use Rattle.std.specs.Prelude.{◌≡◌, ◌⊎◌, ℕ, ◌+◌, ◌-◌, ◌^◌, ◌≤◌, min, max, List, ◌++◌, length, take, drop, Option, Some}
use Rattle.std.specs.Prelude.{None, IsSomeAnd}

-- the bytes after a write at a place: those before it, the written ones, and those behind them
abbrev pub written : ℕ → List ℕ → List ℕ → List ℕ
written at bytes old = take at old ++ bytes ++ drop (at + length bytes) old

-- a list begins with another
abbrev pub BeginsWith : List ℕ → List ℕ → Type 0
BeginsWith xs front = take (length front) xs ≡ front

-- After a write of n bytes that a crash cut short: any bytes in its range and past the old end, and the same bytes
-- elsewhere. The length is the old one, the one that the write makes, or between.
pub record Torn (at n : ℕ) (old new : List ℕ) : Type 0 where
  pub before : BeginsWith new (take at old)
  pub behind : BeginsWith (drop (at + n) new) (drop (at + n) old)
  pub no_shorter : length old ≤ length new
  pub no_longer : length new ≤ max (length old) (at + n)

-- a disk tells its bytes before and after a call, and they are related so, or it tells neither
abbrev pub ToldAlike : (List ℕ → List ℕ → Type 0) → Option (List ℕ) → Option (List ℕ) → Type 0
ToldAlike R None new = new ≡ None
ToldAlike R (Some old) new = IsSomeAnd new (R old)

-- a crash leaves what a read gives, and nothing else
abbrev pub Only : Option (List ℕ) → (List ℕ → Type 0) → Type 0
Only content images = (c : List ℕ) → images c → content ≡ Some c

-- each new image is an old one after a step
abbrev pub Follows : (List ℕ → List ℕ → Type 0) → (List ℕ → Type 0) → (List ℕ → Type 0) → Type 0
Follows step old new = (c : List ℕ) → new c → (d : List ℕ) × old d × step d c

-- the same images, now or at any moment
abbrev pub SameImages : (ℕ → List ℕ → Type 0) → (ℕ → List ℕ → Type 0) → Type 0
SameImages old new = (t : ℕ) (c : List ℕ) → (old t c → new t c) × (new t c → old t c)

-- a count of one call more; at the end of its type it stays
abbrev pub counted : ℕ → ℕ
counted before = min (before + 1) (2 ^ 64 - 1)

module _ {D : Type 0} (clock : D → ℕ) (may : D → List ℕ → Type 0) (since : D → ℕ → List ℕ → Type 0) where
  -- a call that adds no image, at none of the moments inside it
  pub record AddsNoImage (old new : D) : Type 0 where
    pub later : clock old ≤ clock new
    pub now : (c : List ℕ) → may new c → may old c
    pub past : (t : ℕ) (c : List ℕ) → t ≤ clock old → since new t c → since old t c
    pub keeps : (t : ℕ) (c : List ℕ) → t ≤ clock old → since old t c → since new t c

  -- a call after which, and at each moment inside which, the images are earlier ones after this step
  pub record AddsImages (step : List ℕ → List ℕ → Type 0) (old new : D) : Type 0 where
    pub later : clock old ≤ clock new
    pub now : Follows step (may old) (may new)
    pub past : (t : ℕ) (c : List ℕ) → t ≤ clock old → since new t c → since old t c ⊎ may new c
    pub keeps : (t : ℕ) (c : List ℕ) → t ≤ clock old → since old t c → since new t c
