use Rattle.std.proofs.Common.{◌≡◌, ◌++◌, take}
use Rattle.std.specs.List.{flat_map}
use Rattle.form_outline.specs.Models.{row_in}
use Rattle.form_outline.proofs.model.push_rows.Given as goal

abbrev pub invariant-loop-node : goal.invariant-loop-node
invariant-loop-node l = l.rows ≡ l.fn.rows ++ flat_map row_in (take l.node-index l.nodes)
