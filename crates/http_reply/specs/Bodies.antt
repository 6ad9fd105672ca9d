-- The body of a reply behind its head, as its framing cuts it.
use Rattle.std.specs.Prelude.{◌≡◌, ℕ, nat_le, nat_lt, List, [], length, take, if◌then◌else◌}
use Rattle.http_reply.specs.declared.framing.Framing.{Framing}
use Rattle.http_reply.specs.declared.framing.Framing.TheVariants.{Wrong, Nothing, Chunked, Length, ToEnd}
use Rattle.http_reply.specs.Reads.{Read, whole, short, bad, read_map}
use Rattle.http_reply.specs.Chunks.{ReadsChunks}

-- the most bytes of a reply that are kept
abbrev pub most_kept : ℕ
most_kept = 300000

-- The body in the bytes behind the head of a reply that has so many bytes in all. One that goes to the end is whole
-- where fewer than 300,000 stand.
abbrev pub ReadsBody : Framing → ℕ → List ℕ → Read (List ℕ) → Type 0
ReadsBody Wrong total bytes found = found ≡ bad
ReadsBody Nothing total bytes found = found ≡ whole []
ReadsBody (Length n) total bytes found = found ≡ (if nat_le n (length bytes) then whole (take n bytes) else short)
ReadsBody ToEnd total bytes found = found ≡ (if nat_lt total most_kept then whole bytes else short)
ReadsBody Chunked total bytes found =
    (body : Read (List ℕ × List ℕ)) × ReadsChunks bytes body × (found ≡ read_map (λ b. b.0) body)
