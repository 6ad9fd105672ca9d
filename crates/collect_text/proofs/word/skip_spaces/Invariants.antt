use Rattle.std.proofs.Common.{◌≡◌, ◌≤◌, length}
use Rattle.collect_text.specs.Words.{spelled, between}
use Rattle.collect_text.proofs.word.skip_spaces.Given as goal

abbrev pub invariant-loop-first : goal.invariant-loop-first
invariant-loop-first l = record {
  words : spelled between l.rest ≡ spelled between l.bytes;
  within : length l.rest ≤ length l.bytes;
}

abbrev pub decreases-loop-first : goal.decreases-loop-first
decreases-loop-first l = length l.rest
