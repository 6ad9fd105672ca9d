use Rattle.std.proofs.Common.{◌≡◌, ◌++◌, take}
use Rattle.std.specs.List.{flat_map}
use Rattle.collect_text.specs.AnswerRows.{instance_row}
use Rattle.collect_text.proofs.answer_rows.push_instance_rows.Given as goal

abbrev pub invariant-loop-instance : goal.invariant-loop-instance
invariant-loop-instance l = l.out.items ≡ l.fn.out.items ++ flat_map instance_row (take l.instance-index l.instances)
