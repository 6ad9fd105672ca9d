use Rattle.std.proofs.Common.{◌≡◌, ◌++◌, take}
use Rattle.std.specs.List.{flat_map}
use Rattle.collect_text.specs.AnswerRows.{field_row}
use Rattle.collect_text.proofs.answer_rows.push_field_rows.Given as goal

abbrev pub invariant-loop-field : goal.invariant-loop-field
invariant-loop-field l = l.out.items ≡ l.fn.out.items ++ flat_map field_row (take l.field-index l.fields)
