use Rattle.std.proofs.Common.{◌≡◌, map, take}
use Rattle.form_def.specs.Fields.{parent_of}
use Rattle.form_def.proofs.fields.parents_of.Given as goal

abbrev pub invariant-loop-field : goal.invariant-loop-field
invariant-loop-field l = l.parents ≡ map (λ f. parent_of l.fields f.path) (take l.field-index l.fields)
