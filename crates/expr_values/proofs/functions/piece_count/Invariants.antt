use Rattle.std.proofs.Common.{◌≡◌, ◌≤◌, ◌+◌, length}
use Rattle.expr_values.specs.Functions.{piece_count}
use Rattle.expr_values.proofs.functions.piece_count.Given as goal

abbrev pub invariant-loop-part : goal.invariant-loop-part
invariant-loop-part l = (l.count + piece_count l.rest ≡ piece_count l.fn.text) × (l.count + length l.rest ≤ length l.fn.text)

abbrev pub decreases-loop-part : goal.decreases-loop-part
decreases-loop-part l = length l.rest
