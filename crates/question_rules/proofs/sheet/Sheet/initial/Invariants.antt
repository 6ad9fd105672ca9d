use Rattle.std.proofs.Common.{◌≡◌, map, take}
use Rattle.question_rules.proofs.sheet.Sheet.initial.Given as goal

abbrev pub invariant-loop-field : goal.invariant-loop-field
invariant-loop-field l = l.texts.items ≡ map (λ field. field.initial) (take l.field-index l.form.fields)
