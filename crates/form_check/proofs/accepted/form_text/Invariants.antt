use Rattle.std.proofs.Common.{◌≡◌, ◌++◌, take}
use Rattle.std.specs.List.{flat_map}
use Rattle.form_check.specs.Accepted.{field_line, head_line}
use Rattle.form_check.proofs.accepted.form_text.Given as goal

abbrev pub invariant-loop-field : goal.invariant-loop-field
invariant-loop-field l = l.out.items ≡ head_line l.form ++ flat_map field_line (take l.field-index l.form.fields)
