-- How many parentheses and brackets are open at each place of tokens.
use Rattle.std.specs.Prelude.{ℕ, zero, suc, ◌≤◌, List, [], ◌∷◌}
use Rattle.form_tokens.specs.declared.token.Token.{Token}
use Rattle.form_tokens.specs.declared.token.Token.TheVariants as tok

abbrev pub one_less : ℕ → ℕ
one_less zero = zero
one_less (suc depth) = depth

-- how many are open behind the token
abbrev pub depth_behind : ℕ → Token → ℕ
depth_behind depth tok.Open = suc depth
depth_behind depth tok.OpenBracket = suc depth
depth_behind depth tok.Close = one_less depth
depth_behind depth tok.CloseBracket = one_less depth
depth_behind depth _ = depth

-- at each place at most so many are open
abbrev pub IsWithin : ℕ → ℕ → List Token → Type 0
IsWithin most depth [] = depth ≤ most
IsWithin most depth (token ∷ others) = (depth ≤ most) × IsWithin most (depth_behind depth token) others
