use Rattle.device_core.proofs.Payloads.{if_ok_map, spelled_as}
use Rattle.device_rules.specs.Trail.{entries_of}
use Rattle.device_core.proofs.replay.recover.Goals as goal

pub returns-clause-spelled : goal.returns-clause-spelled
returns-clause-spelled c = if_ok_map c.replay.result _ _ (λ r is. spelled_as c.args.payloads.now c.in_ok-entries.entries.items (entries_of r.1.items) c.in_ok-entries.ensures.read is) c.replay.ensures.entries
