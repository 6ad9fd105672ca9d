use Rattle.std.proofs.Common.{◌≡◌}
use Rattle.case_lines.specs.Escapes.{fronts}
use Rattle.case_lines.proofs.escapes.bytes_of.Given as goal

abbrev pub invariant-loop : goal.invariant-loop
invariant-loop l = record {
  bytes : l.out.items ≡ (fronts l.counter l.part).stands_for;
  rest : l.rest ≡ (fronts l.counter l.part).rest;
}
