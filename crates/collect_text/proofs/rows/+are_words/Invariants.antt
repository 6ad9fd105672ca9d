use Rattle.std.proofs.Common.{length}
use Rattle.collect_text.proofs.rows.+are_words.Given as goal

-- each call looks at one word less
abbrev pub decreases-are_words : goal.decreases-are_words
decreases-are_words l = length l.words.now
