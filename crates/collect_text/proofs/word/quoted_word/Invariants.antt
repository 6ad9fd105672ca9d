use Rattle.std.proofs.Common.{◌≡◌, ◌≤◌, length}
use Rattle.collect_text.specs.Words.{spelled, quoted}
use Rattle.collect_text.proofs.Reading.{bytes_then}
use Rattle.collect_text.proofs.word.quoted_word.Given as goal

abbrev pub invariant-loop-first : goal.invariant-loop-first
invariant-loop-first l = record {
  words : spelled quoted l.bytes ≡ bytes_then l.word.items (spelled quoted l.rest);
  within : length l.rest ≤ length l.bytes;
}

abbrev pub decreases-loop-first : goal.decreases-loop-first
decreases-loop-first l = length l.rest
