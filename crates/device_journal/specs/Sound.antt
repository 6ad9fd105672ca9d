-- What a journal keeps of its disk.
use Rattle.std.specs.Prelude.{◌≡◌, ◌≢◌, ◌⊎◌, ℕ, ◌+◌, ◌<◌, ◌≤◌, List, [], ◌∷◌, ◌++◌, length, take, slice_index, Option}
use Rattle.std.specs.Prelude.{Some}
use Rattle.std.specs.Int.{w32, to_le_bytes}
use Rattle.disk_model.specs.Disk.{written, Torn}
use Rattle.device_journal.specs.Frames.{header, open_gate, limit, chain, ArePayloads, HasFrames}

-- behind the header and these frames a gate stands at this place, and isn't open
pub record EndsAt (image : List ℕ) (gate : ℕ) (payloads : List (List ℕ)) : Type 0 where
  pub fit : ArePayloads payloads
  pub place : gate ≡ 8 + length (chain payloads)
  pub within : gate < length image
  pub small : length image ≤ limit
  pub front : take gate image ≡ header ++ chain payloads
  pub shut : slice_index image gate ≢ open_gate

abbrev pub HasEnd : List ℕ → ℕ → Type 0
HasEnd image gate = (payloads : List (List ℕ)) × EndsAt image gate payloads

-- a payload as it stands behind an open gate, and the closed gate behind it
abbrev pub body_of : List ℕ → List ℕ
body_of payload = to_le_bytes w32 (length payload) ++ payload ++ 0 ∷ []

-- the payloads from before, or these and the new one
abbrev pub IsBeforeOrAfter : List (List ℕ) → List ℕ → List ℕ → Type 0
IsBeforeOrAfter payloads payload image = HasFrames image payloads ⊎ HasFrames image (payloads ++ payload ∷ [])

-- the image with these bytes behind the gate at a place, and the gate open
abbrev pub framed : ℕ → List ℕ → List ℕ → List ℕ
framed gate body image = written gate (open_gate ∷ []) (written (gate + 1) body image)

-- an image of a disk while this many bytes are written at a place
abbrev pub IsTorn : Option (List ℕ) → ℕ → ℕ → List ℕ → Type 0
IsTorn content at n c = (image : List ℕ) × (content ≡ Some image) × Torn at n image c

-- an image of a disk while bytes are written behind a gate and the gate is opened
abbrev pub IsBetween : Option (List ℕ) → ℕ → List ℕ → List ℕ → Type 0
IsBetween content gate body c =
    (image : List ℕ) × (content ≡ Some image)
    × (Torn (gate + 1) (length body) image c ⊎ Torn gate 1 (written (gate + 1) body image) c)
