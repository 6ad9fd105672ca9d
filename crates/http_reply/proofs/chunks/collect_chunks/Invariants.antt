use Rattle.std.proofs.Common.{◌-◌, ◌≤◌, length, drop}
use Rattle.http_reply.proofs.ChunkLoops.{Prepends}
use Rattle.http_reply.proofs.chunks.collect_chunks.Given as goal

abbrev pub invariant-loop-chunk : goal.invariant-loop-chunk
invariant-loop-chunk l = record { within : l.at ≤ length l.bytes; read : Prepends l.bytes l.out.items (drop l.at l.bytes) }

abbrev pub decreases-loop-chunk : goal.decreases-loop-chunk
decreases-loop-chunk l = length l.bytes - l.at
