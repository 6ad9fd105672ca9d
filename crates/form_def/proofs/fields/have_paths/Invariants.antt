use Rattle.std.proofs.Common.{◌≡◌, length}
use Rattle.form_def.specs.Fields.{have_paths}
use Rattle.form_def.proofs.fields.have_paths.Given as goal

abbrev pub invariant-loop-rest : goal.invariant-loop-rest
invariant-loop-rest l = have_paths l.root l.rest ≡ have_paths l.root l.fn.fields

abbrev pub decreases-loop-rest : goal.decreases-loop-rest
decreases-loop-rest l = length l.rest
