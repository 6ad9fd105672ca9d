use Rattle.std.proofs.Common.{◌≡◌, map, take}
use Rattle.device_rules.specs.Answers.{instance_line}
use Rattle.device_rules.proofs.queries.instance_lines.Given as goal

abbrev pub invariant-loop-instance : goal.invariant-loop-instance
invariant-loop-instance l = l.lines.items ≡ map instance_line (take l.instance-index l.instances)
