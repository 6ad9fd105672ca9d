use Rattle.std.proofs.Common.{◌≡◌, ◌++◌, length}
use Rattle.std.specs.Prelude.{string_bytes}
use Rattle.std.specs.List.{flat_map}
use Rattle.case_lines.specs.Lines.{printed_char}
use Rattle.case_lines.proofs.printing.push_chars.Given as goal

abbrev pub invariant-loop-c : goal.invariant-loop-c
invariant-loop-c l =
    string_bytes l.out ++ flat_map printed_char l.rest ≡ string_bytes l.fn.out ++ flat_map printed_char l.fn.chars

abbrev pub decreases-loop-c : goal.decreases-loop-c
decreases-loop-c l = length l.rest
