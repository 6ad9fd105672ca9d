-- How the bytes of a script are cut into lines, and how a line is printed.
use Rattle.std.specs.Prelude.{ℕ, List, [], ◌∷◌, ◌++◌, if◌then◌else◌, ◌==◌, codes}
use Rattle.std.specs.Fmt.{decimal}

-- a byte in front of the first list
abbrev pub in_front : ℕ → List (List ℕ) → List (List ℕ)
in_front b [] = (b ∷ []) ∷ []
in_front b (l ∷ ls) = (b ∷ l) ∷ ls

-- the lines, each without the line feed (10) that ends it; the last one may lack it
abbrev pub lines_of : List ℕ → List (List ℕ)
lines_of [] = []
lines_of (b ∷ bs) = if b == 10 then [] ∷ lines_of bs else in_front b (lines_of bs)

-- a line without the carriage return (13) at its end
abbrev pub without_return : List ℕ → List ℕ
without_return [] = []
without_return (b ∷ []) = if b == 13 then [] else b ∷ []
without_return (b ∷ c ∷ bs) = b ∷ without_return (c ∷ bs)

-- a line that begins with a position
abbrev pub line_at : ℕ → List ℕ → List ℕ
line_at position text = decimal position ++ codes " " ++ text ++ codes "\n"
