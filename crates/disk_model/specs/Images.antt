-- What a crash may leave after a list of calls.
use Rattle.std.specs.Prelude.{◌≡◌, ℕ, ◌≤◌, List, [], ◌∷◌, length, take}
use Rattle.disk_model.specs.Disk.{written, Torn}
use Rattle.disk_model.specs.declared.calls.Call.{Call}
use Rattle.disk_model.specs.declared.calls.Call.TheVariants.{Len, Read, Write, Sync}

-- what a read gives after one call
abbrev pub held_after : List ℕ → Call → List ℕ
held_after held Len = held
held_after held Read = held
held_after held (Write at bytes) = written at bytes held
held_after held Sync = held

-- what a crash may leave after one call, of what it might have left before
abbrev pub LeftAfter : List ℕ → (List ℕ → Type 0) → Call → List ℕ → Type 0
LeftAfter held left Len c = left c
LeftAfter held left Read c = left c
LeftAfter held left (Write at bytes) c = (d : List ℕ) × left d × Torn at (length bytes) d c
LeftAfter held left Sync c = c ≡ held

-- what a read gives after these calls on a disk that held these bytes
abbrev pub held_after_all : List ℕ → List Call → List ℕ
held_after_all held [] = held
held_after_all held (call ∷ calls) = held_after_all (held_after held call) calls

-- what a crash may leave after these calls, where it might have left these images before
abbrev pub LeftAfterAll : List ℕ → (List ℕ → Type 0) → List Call → List ℕ → Type 0
LeftAfterAll held left [] c = left c
LeftAfterAll held left (call ∷ calls) c = LeftAfterAll (held_after held call) (LeftAfter held left call) calls c

-- what a crash may leave after these calls on a disk that held these bytes, with nothing pending
abbrev pub IsImage : List ℕ → List Call → List ℕ → Type 0
IsImage first calls c = LeftAfterAll first (λ d. d ≡ first) calls c

-- what a crash might have left after some number of the calls, from this number on
abbrev pub WasImage : List ℕ → List Call → ℕ → List ℕ → Type 0
WasImage first calls t c = (k : ℕ) × (t ≤ k) × (k ≤ length calls) × IsImage first (take k calls) c
