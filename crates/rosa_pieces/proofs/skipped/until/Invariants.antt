use Rattle.std.proofs.Common.{◌≡◌, ◌+◌, ◌-◌, ◌≤◌, length}
use Rattle.std.specs.Prelude.{option_map}
use Rattle.rosa_pieces.specs.Reading.{until}
use Rattle.rosa_pieces.proofs.skipped.until.Given as goal

abbrev pub invariant-loop-rest : goal.invariant-loop-rest
invariant-loop-rest l = record {
  shorter : length l.rest ≤ length l.chars;
  left : option_map (λ n. n + (length l.chars - length l.rest)) (until l.close l.rest) ≡ until l.close l.chars;
}

abbrev pub decreases-loop-rest : goal.decreases-loop-rest
decreases-loop-rest l = length l.rest
