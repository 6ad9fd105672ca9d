use Rattle.std.proofs.Common.{◌≡◌, ◌+◌, length}
use Rattle.case_lines.specs.Escapes.{place_of}
use Rattle.case_lines.proofs.escapes.place_of.Given as goal

abbrev pub invariant-loop-first : goal.invariant-loop-first
invariant-loop-first l = record {
  value : l.place + place_of l.byte l.rest ≡ place_of l.byte l.fn.bytes;
  bound : l.place + length l.rest ≡ length l.fn.bytes;
}

abbrev pub decreases-loop-first : goal.decreases-loop-first
decreases-loop-first l = length l.rest
