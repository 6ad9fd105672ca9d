use Rattle.std.proofs.Common.{take}
use Rattle.device_core.specs.Replay.{IsSpelledBy}
use Rattle.device_core.proofs.replay.read_payloads.Given as goal

abbrev pub invariant-loop-payload : goal.invariant-loop-payload
invariant-loop-payload l = IsSpelledBy (take l.payload-index l.payloads) l.entries.items
