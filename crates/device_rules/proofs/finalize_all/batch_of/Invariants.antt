use Rattle.std.proofs.Common.{◌≡◌, drop}
use Rattle.device_state.specs.State.{plain}
use Rattle.device_rules.specs.Batches.{batch}
use Rattle.device_rules.specs.FinalizeAll.{batch_from, batch_of}
use Rattle.device_rules.proofs.finalize_all.batch_of.Given as goal

abbrev pub invariant-loop-instance : goal.invariant-loop-instance
invariant-loop-instance l =
    batch_from (plain l.state) (batch l.bulk) (drop l.instance-index l.instance-items) ≡ batch_of (plain l.state)
