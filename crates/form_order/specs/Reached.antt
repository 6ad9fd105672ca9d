-- The numbers found from one, each once.
use Rattle.std.specs.Prelude.{ℕ, true, false, if◌then◌else◌, List, [], ◌∷◌, ◌++◌, fold, slice_set, replicate}
use Rattle.form_def.specs.Order.{is_marked}
use Rattle.form_order.specs.declared.reach.Reach.{Reach}

abbrev pub unreached : ℕ → Reach
unreached count = record { marks = replicate count false; found = [] }

-- with this number, unless it was found before
abbrev pub with_found : Reach → ℕ → Reach
with_found r number = if is_marked r.marks number then r
    else record { marks = slice_set r.marks number true; found = r.found ++ number ∷ [] }

abbrev pub with_all_found : Reach → List ℕ → Reach
with_all_found r numbers = fold with_found r numbers
