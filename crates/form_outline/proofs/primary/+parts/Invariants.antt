use Rattle.std.proofs.Common.{◌≡◌, ◌++◌, take}
use Rattle.std.specs.List.{flat_map}
use Rattle.form_outline.specs.Primary.{parts_of}
use Rattle.form_outline.proofs.primary.+parts.Given as goal

abbrev pub invariant-push_parts-loop-node : goal.invariant-push_parts-loop-node
invariant-push_parts-loop-node l = l.parts.items ≡ l.fn.parts.items ++ flat_map (parts_of l.parent) (take l.node-index l.nodes)
