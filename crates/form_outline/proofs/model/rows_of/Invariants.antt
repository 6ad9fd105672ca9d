use Rattle.std.proofs.Common.{◌≡◌, take}
use Rattle.std.specs.List.{flat_map}
use Rattle.form_outline.specs.Models.{rows_in}
use Rattle.form_outline.proofs.model.rows_of.Given as goal

abbrev pub invariant-loop-node : goal.invariant-loop-node
invariant-loop-node l = l.rows ≡ flat_map rows_in (take l.node-index l.nodes)
