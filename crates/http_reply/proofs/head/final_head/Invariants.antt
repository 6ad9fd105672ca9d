use Rattle.std.proofs.Common.{◌-◌, ◌≤◌, length, drop}
use Rattle.http_reply.proofs.HeadLoops.{Leads}
use Rattle.http_reply.proofs.head.final_head.Given as goal

abbrev pub invariant-loop-head : goal.invariant-loop-head
invariant-loop-head l = record { within : l.at ≤ length l.bytes; leads : Leads l.bytes (drop l.at l.bytes) }

abbrev pub decreases-loop-head : goal.decreases-loop-head
decreases-loop-head l = length l.bytes - l.at
