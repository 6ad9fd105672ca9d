use Rattle.std.proofs.Common.{◌≡◌, ◌++◌, take}
use Rattle.std.specs.List.{flat_map}
use Rattle.form_outline.specs.Primary.{meta_parts}
use Rattle.form_outline.proofs.primary.push_meta_parts.Given as goal

abbrev pub invariant-loop-node : goal.invariant-loop-node
invariant-loop-node l = l.parts.items ≡ l.fn.parts.items ++ flat_map (meta_parts l.path) (take l.node-index l.nodes)
