use Rattle.std.proofs.Common.{◌≡◌, length}
use Rattle.expr_values.specs.Functions.{is_selected}
use Rattle.expr_values.proofs.functions.is_selected.Given as goal

abbrev pub invariant-loop-part : goal.invariant-loop-part
invariant-loop-part l = is_selected l.rest l.piece ≡ is_selected l.fn.text l.piece

abbrev pub decreases-loop-part : goal.decreases-loop-part
decreases-loop-part l = length l.rest
