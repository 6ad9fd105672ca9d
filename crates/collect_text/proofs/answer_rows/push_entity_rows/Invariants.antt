use Rattle.std.proofs.Common.{◌≡◌, ◌++◌, take}
use Rattle.std.specs.List.{flat_map}
use Rattle.collect_text.specs.AnswerRows.{entity_row}
use Rattle.collect_text.proofs.answer_rows.push_entity_rows.Given as goal

abbrev pub invariant-loop-row : goal.invariant-loop-row
invariant-loop-row l = l.out.items ≡ l.fn.out.items ++ flat_map entity_row (take l.row-index l.rows)
