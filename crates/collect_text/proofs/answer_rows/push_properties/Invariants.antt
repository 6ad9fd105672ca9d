use Rattle.std.proofs.Common.{◌≡◌, ◌++◌, take}
use Rattle.std.specs.List.{flat_map}
use Rattle.collect_text.specs.AnswerRows.{property}
use Rattle.collect_text.proofs.answer_rows.push_properties.Given as goal

abbrev pub invariant-loop-prop : goal.invariant-loop-prop
invariant-loop-prop l = l.out.items ≡ l.fn.out.items ++ flat_map property (take l.prop-index l.props)
