use Rattle.std.proofs.Common.{◌≡◌, ◌++◌, take}
use Rattle.form_outline.specs.Controls.{controls_of}
use Rattle.form_outline.proofs.controls.+controls.Given as goal

abbrev pub invariant-push_controls-loop-node : goal.invariant-push_controls-loop-node
invariant-push_controls-loop-node l = l.controls ≡ l.fn.controls ++ controls_of (take l.node-index l.nodes)
