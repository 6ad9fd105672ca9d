-- The lines of a log, one for each entry.
use Rattle.std.specs.Prelude.{ℕ, ◌+◌, List, [], ◌∷◌, ◌++◌}
use Rattle.entry_form.specs.declared.entry.Entry.{Entry}
use Rattle.collect_text.specs.Log.{printed_entry}

-- the lines of entries of which the first has this position
abbrev pub log_from : ℕ → List Entry → List ℕ
log_from position [] = []
log_from position (entry ∷ entries) = printed_entry position entry ++ log_from (position + 1) entries

-- positions count from 1
abbrev pub log_text : List Entry → List ℕ
log_text entries = log_from 1 entries
