use Rattle.std.proofs.Common.{◌≡◌, take}
use Rattle.device_rules.specs.Trail.{entries_of}
use Rattle.collect_top.specs.Log.{log_text}
use Rattle.collect_top.proofs.log.log_text.Given as goal

-- so many entries have their lines
abbrev pub invariant-loop-marked : goal.invariant-loop-marked
invariant-loop-marked l = (l.text.items ≡ log_text (take l.marked-index (entries_of l.entries))) × (l.position ≡ l.marked-index)
