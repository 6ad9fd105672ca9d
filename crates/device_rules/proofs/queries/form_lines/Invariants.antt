use Rattle.std.proofs.Common.{◌≡◌, map, take}
use Rattle.device_rules.specs.Answers.{form_line}
use Rattle.device_rules.proofs.queries.form_lines.Given as goal

abbrev pub invariant-loop-record : goal.invariant-loop-record
invariant-loop-record l = l.lines.items ≡ map form_line (take l.record-index l.records)
