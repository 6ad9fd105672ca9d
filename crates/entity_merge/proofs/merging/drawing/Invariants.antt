use Rattle.std.proofs.Common.{◌≡◌, take, filter}
use Rattle.entity_merge.specs.Merging.{contents, draws_branch, first_rows, local_row}
use Rattle.entity_merge.proofs.merging.drawing.Given as goal

abbrev pub invariant-loop-place : goal.invariant-loop-place
invariant-loop-place l = contents l.drawing.items ≡ filter (λ s. draws_branch (local_row l.locals s.id) s) (first_rows (take l.place l.rows))
