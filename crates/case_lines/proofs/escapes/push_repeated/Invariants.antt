use Rattle.std.proofs.Common.{◌≡◌, ◌++◌}
use Rattle.case_lines.specs.Escapes.{repeated}
use Rattle.case_lines.proofs.escapes.push_repeated.Given as goal

abbrev pub invariant-loop-number : goal.invariant-loop-number
invariant-loop-number l = l.out.items ≡ l.fn.out.items ++ repeated l.number l.text
