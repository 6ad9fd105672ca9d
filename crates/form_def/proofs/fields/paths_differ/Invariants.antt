use Rattle.std.proofs.Common.{◌↔◌, length}
use Rattle.form_def.specs.Fields.{PathsDiffer}
use Rattle.form_def.proofs.fields.paths_differ.Given as goal

abbrev pub invariant-loop-first : goal.invariant-loop-first
invariant-loop-first l = PathsDiffer l.fn.fields ↔ PathsDiffer l.rest

abbrev pub decreases-loop-first : goal.decreases-loop-first
decreases-loop-first l = length l.rest
