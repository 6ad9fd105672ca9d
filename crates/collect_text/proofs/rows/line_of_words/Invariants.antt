use Rattle.std.proofs.Common.{◌≡◌, length, map}
use Rattle.collect_text.specs.Rows.{meaning_among, words_meaning}
use Rattle.collect_text.proofs.rows.line_of_words.Given as goal

abbrev pub invariant-loop-rest : goal.invariant-loop-rest
invariant-loop-rest l = meaning_among l.words (map (λ row. (map (λ word. word.now) row.0.now, row.1)) l.rest) ≡ words_meaning l.words

abbrev pub decreases-loop-rest : goal.decreases-loop-rest
decreases-loop-rest l = length l.rest
