use Rattle.std.proofs.Common.{◌≡◌, ◌≢◌, length, get_or}
use Rattle.collect_text.specs.Words.{words_of}
use Rattle.collect_text.proofs.Reading.{words_then}
use Rattle.collect_text.proofs.word.words.Given as goal

abbrev pub invariant-loop-rest : goal.invariant-loop-rest
invariant-loop-rest l = record {
  words : words_of l.line ≡ words_then l.words (words_of l.rest);
  word : get_or l.rest 0 0 ≢ 32;
}

abbrev pub decreases-loop-rest : goal.decreases-loop-rest
decreases-loop-rest l = length l.rest
