-- What the parts of a line's reader find.
use Rattle.std.specs.Prelude.{ℕ, List, [], ◌∷◌, Bool, true, ◌==◌, Option, option_map}

-- a word in front of the words that follow
abbrev pub word_then : List ℕ → Option (List (List ℕ)) → Option (List (List ℕ))
word_then word rest = option_map (λ ws. word ∷ ws) rest

-- a space or the end stands at the front of the bytes
abbrev pub ends_word : List ℕ → Bool
ends_word [] = true
ends_word (b ∷ bs) = b == 32
