use Rattle.std.proofs.Common.{◌≡◌, ◌≢◌, ◌≤◌, length, get_or}
use Rattle.collect_text.specs.Words.{spelled, bare}
use Rattle.collect_text.proofs.Reading.{bytes_then}
use Rattle.collect_text.proofs.word.bare_word.Given as goal

abbrev pub invariant-loop-first : goal.invariant-loop-first
invariant-loop-first l = record {
  words : spelled bare l.bytes ≡ bytes_then l.word.items (spelled bare l.rest);
  within : length l.rest ≤ length l.bytes;
  begun : length l.rest ≡ length l.bytes → get_or l.rest 0 0 ≢ 32;
}

abbrev pub decreases-loop-first : goal.decreases-loop-first
decreases-loop-first l = length l.rest
