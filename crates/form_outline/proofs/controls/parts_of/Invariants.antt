use Rattle.std.proofs.Common.{◌≡◌, take}
use Rattle.std.specs.List.{flat_map}
use Rattle.form_outline.specs.Controls.{part_in}
use Rattle.form_outline.proofs.controls.parts_of.Given as goal

abbrev pub invariant-loop-node : goal.invariant-loop-node
invariant-loop-node l = l.parts ≡ flat_map part_in (take l.node-index l.nodes)
