use Rattle.collect_text.proofs.Printing.{printed_words-read}
use Rattle.collect_text.proofs.printed.printed_words_are_read.Goals as goal

pub returns : goal.returns
returns c = printed_words-read
