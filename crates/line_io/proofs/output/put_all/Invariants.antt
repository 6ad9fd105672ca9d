use Rattle.std.proofs.Common.{◌≡◌, ◌++◌, List, ℕ, length}
use Rattle.line_io.specs.Output.{Gained}
use Rattle.line_io.proofs.output.put_all.Given as goal

-- what has gone out and what is left are the bytes
abbrev pub invariant-loop-rest : goal.invariant-loop-rest
invariant-loop-rest g l =
    (gone : List ℕ) × (l.fn.bytes ≡ gone ++ l.rest) × Gained (g.Si.Sink.held l.fn.sink) (g.Si.Sink.held l.sink) gone
    × (g.Si.Sink.faults l.sink ≡ g.Si.Sink.faults l.fn.sink)

abbrev pub decreases-loop-rest : goal.decreases-loop-rest
decreases-loop-rest g l = length l.rest
