use Rattle.std.proofs.Common.{◌≡◌, ◌++◌, take}
use Rattle.std.specs.List.{flat_map}
use Rattle.form_outline.specs.Primary.{label_in}
use Rattle.form_outline.proofs.primary.push_labels.Given as goal

abbrev pub invariant-loop-node : goal.invariant-loop-node
invariant-loop-node l = l.fields ≡ l.fn.fields ++ flat_map (label_in l.path) (take l.node-index l.nodes)
