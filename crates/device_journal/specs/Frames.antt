-- The journal's image: a header, and frames one after the other up to a gate that isn't open.
use Rattle.std.specs.Prelude.{◌≡◌, ◌≢◌, ◌⊎◌, ℕ, ◌+◌, ◌<◌, ◌≤◌, ◌^◌, List, [], ◌∷◌, ◌++◌, length, Option, Some}
use Rattle.std.specs.Int.{w32, to_le_bytes}
use Rattle.disk_model.specs.Disk.{BeginsWith}

-- ODKDEV01
abbrev pub header : List ℕ
header = 79 ∷ 68 ∷ 75 ∷ 68 ∷ 69 ∷ 86 ∷ 48 ∷ 49 ∷ []

-- the gate before a frame that counts
abbrev pub open_gate : ℕ
open_gate = 167

-- a journal of no frames: the header and a shut gate
abbrev pub start : List ℕ
start = header ++ 0 ∷ []

-- how many bytes an image may have
abbrev pub limit : ℕ
limit = 134217728

-- an open gate, the payload's length in four bytes with the lowest first, and the payload
abbrev pub frame : List ℕ → List ℕ
frame payload = open_gate ∷ to_le_bytes w32 (length payload) ++ payload

-- frames one after the other
abbrev pub chain : List (List ℕ) → List ℕ
chain [] = []
chain (payload ∷ payloads) = frame payload ++ chain payloads

-- a payload has a byte at least, and a length that fits four bytes
abbrev pub IsPayload : List ℕ → Type 0
IsPayload payload = (1 ≤ length payload) × (length payload < 2 ^ 32)

abbrev pub ArePayloads : List (List ℕ) → Type 0
ArePayloads [] = Unit {0}
ArePayloads (payload ∷ payloads) = IsPayload payload × ArePayloads payloads

-- the header, the frames of these payloads, a gate that isn't open, and whatever stands behind it
pub record IsSpelled (image : List ℕ) (payloads : List (List ℕ)) : Type 0 where
  pub fit : ArePayloads payloads
  pub gate : ℕ
  pub shut : gate ≢ open_gate
  pub rest : List ℕ
  pub spelled : image ≡ header ++ chain payloads ++ gate ∷ rest

-- an image stands for these payloads: at most 9 bytes stand for none
abbrev pub HasFrames : List ℕ → List (List ℕ) → Type 0
HasFrames image payloads =
    ((length image ≤ 9) × (payloads ≡ [])) ⊎ ((9 < length image) × (length image ≤ limit) × IsSpelled image payloads)

-- bytes that begin with a frame, behind which a gate stands
abbrev pub BeginsWithFrame : List ℕ → Type 0
BeginsWithFrame bytes =
    (payload rest : List ℕ) × (gate : ℕ) × IsPayload payload × (bytes ≡ frame payload ++ gate ∷ rest)

-- behind the header and the frames of these payloads an open gate stands that begins no frame
pub record IsCut (image : List ℕ) (payloads : List (List ℕ)) : Type 0 where
  pub fit : ArePayloads payloads
  pub rest : List ℕ
  pub spelled : image ≡ header ++ chain payloads ++ open_gate ∷ rest
  pub cut : BeginsWithFrame (open_gate ∷ rest) → ⊥

-- Where an image of more than 9 bytes is off: at 0 where it doesn't begin with the header, at the gate of the first
-- frame that is none, and at the limit where it is longer and nothing else is off.
pub data IsOffAt (image : List ℕ) (at : ℕ) : Type 0 where
  no_header : 9 < length image → ¬ BeginsWith image header → at ≡ 0 → IsOffAt image at
  no_frame : 9 < length image → (payloads : List (List ℕ)) → IsCut image payloads → at ≡ 8 + length (chain payloads)
      → IsOffAt image at
  too_long : limit < length image → (payloads : List (List ℕ)) → IsSpelled image payloads → at ≡ limit
      → IsOffAt image at

-- one more than the place of the gate behind these frames
abbrev pub end_of : List (List ℕ) → ℕ
end_of payloads = 9 + length (chain payloads)

-- what a disk reads, where it tells it, stands for these payloads
abbrev pub Stands : Option (List ℕ) → List (List ℕ) → Type 0
Stands content payloads = (image : List ℕ) → content ≡ Some image → HasFrames image payloads
