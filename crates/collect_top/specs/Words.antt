-- The words of a command line.
use Rattle.std.specs.Prelude.{ℕ, List, [], ◌∷◌, codes, Option, Some, None, if◌then◌else◌}
use Rattle.collect_text.specs.Rows.{same_words}
use Rattle.collect_top.specs.declared.words.Work.{Work}
use Rattle.collect_top.specs.declared.words.Work.TheVariants.{Run, Log, Check}

-- the work that the words ask for, if they are those of a command
abbrev pub work_of : List (List ℕ) → Option Work
work_of words =
    if same_words words (codes "run" ∷ []) then Some Run
    else (if same_words words (codes "log" ∷ []) then Some Log
    else (if same_words words (codes "check" ∷ []) then Some Check
    else None))
