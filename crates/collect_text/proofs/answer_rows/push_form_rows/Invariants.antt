use Rattle.std.proofs.Common.{◌≡◌, ◌++◌, take}
use Rattle.std.specs.List.{flat_map}
use Rattle.collect_text.specs.AnswerRows.{form_row}
use Rattle.collect_text.proofs.answer_rows.push_form_rows.Given as goal

abbrev pub invariant-loop-form : goal.invariant-loop-form
invariant-loop-form l = l.out.items ≡ l.fn.out.items ++ flat_map form_row (take l.form-index l.forms)
