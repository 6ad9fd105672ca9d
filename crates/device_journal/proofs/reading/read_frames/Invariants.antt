use Rattle.std.proofs.Common.{◌-◌, length}
use Rattle.device_journal.proofs.ReadTo.{ReadTo}
use Rattle.device_journal.proofs.reading.read_frames.Given as goal

abbrev pub invariant-loop-gate : goal.invariant-loop-gate
invariant-loop-gate l = ReadTo l.image l.gate l.payloads.items

abbrev pub decreases-loop-gate : goal.decreases-loop-gate
decreases-loop-gate l = length l.image - l.gate
