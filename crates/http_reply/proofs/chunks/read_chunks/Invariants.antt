use Rattle.std.proofs.Common.{ℕ, ◌-◌, ◌≤◌, List, length, drop}
use Rattle.http_reply.proofs.ChunkLoops.{Prepends}
use Rattle.http_reply.proofs.chunks.read_chunks.Given as goal

abbrev pub invariant-loop-chunk : goal.invariant-loop-chunk
invariant-loop-chunk l = record { within : l.at ≤ length l.bytes; read : (content : List ℕ) × Prepends l.bytes content (drop l.at l.bytes) }

abbrev pub decreases-loop-chunk : goal.decreases-loop-chunk
decreases-loop-chunk l = length l.bytes - l.at
