use Rattle.std.proofs.Common.{◌≡◌, take}
use Rattle.std.specs.List.{flat_map}
use Rattle.form_outline.specs.Primary.{primary_part}
use Rattle.form_outline.proofs.primary.primary_of.Given as goal

abbrev pub invariant-loop-node : goal.invariant-loop-node
invariant-loop-node l = l.parts.items ≡ flat_map (primary_part l.path-inside.inner.bytes.items) (take l.node-index l.node-items)
