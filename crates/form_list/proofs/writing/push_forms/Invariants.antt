use Rattle.std.proofs.Common.{◌≡◌, ◌++◌, take}
use Rattle.std.specs.List.{flat_map}
use Rattle.form_list.specs.Writing.{form_text}
use Rattle.form_list.proofs.writing.push_forms.Given as goal

abbrev pub invariant-loop-form : goal.invariant-loop-form
invariant-loop-form l = l.out.items ≡ l.fn.out.items ++ flat_map form_text (take l.form-index l.forms)
