use Rattle.std.proofs.Common.{◌≡◌, take}
use Rattle.std.specs.List.{flat_map}
use Rattle.form_outline.specs.Models.{cells_in}
use Rattle.form_outline.proofs.model.row_of.Given as goal

abbrev pub invariant-loop-node : goal.invariant-loop-node
invariant-loop-node l = l.cells ≡ flat_map cells_in (take l.node-index l.nodes)
