use Rattle.std.proofs.Common.{◌≡◌, ◌++◌, length}
use Rattle.case_lines.specs.Escapes.{numbered}
use Rattle.case_lines.proofs.escapes.push_numbered.Given as goal

abbrev pub invariant-loop-byte : goal.invariant-loop-byte
invariant-loop-byte l = l.out.items ++ numbered l.number l.rest ≡ l.fn.out.items ++ numbered l.number l.fn.text

abbrev pub decreases-loop-byte : goal.decreases-loop-byte
decreases-loop-byte l = length l.rest
