-- The line of a round that came to its end.
use Rattle.std.specs.Prelude.{ℕ, List, ◌++◌, codes}
use Rattle.collect_text.specs.Lines.{line_at}
use Rattle.collect_text.specs.Pieces.{spaced_number, spaced_word}

-- how many instances the server has taken, and how many it has not
unfoldable pub sent_text : ℕ → ℕ → List ℕ
sent_text sent failed =
    codes "sent" ++ spaced_number sent ++ spaced_word (codes "failed") ++ spaced_number failed

abbrev pub printed_round : ℕ → ℕ → ℕ → List ℕ
printed_round position sent failed = line_at position (sent_text sent failed)
