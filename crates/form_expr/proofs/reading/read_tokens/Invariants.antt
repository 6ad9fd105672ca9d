use Rattle.std.proofs.Common.{◌≡◌, length}
use Rattle.form_expr.specs.Reading.{state_of, read_from}
use Rattle.form_expr.proofs.reading.read_tokens.Given as goal

abbrev pub invariant-loop-alloc : goal.invariant-loop-alloc
invariant-loop-alloc l = read_from (state_of l.progress) l.rest ≡ read_from (state_of l.fn.start) l.chars

abbrev pub decreases-loop-alloc : goal.decreases-loop-alloc
decreases-loop-alloc l = length l.rest
