-- A text that is cut at its first space.
use Rattle.std.specs.Prelude.{ℕ, ◌≡◌, ◌+◌, ◌-◌, ◌==◌, false, List, [], ◌∷◌, length, take, drop, Some, None, position}
use Rattle.std.specs.List.{position_or_len}
use Rattle.std.proofs.Common.{arith, length-drop}
use Rattle.std.proofs.lemmas.List.Elements.{All-from_get_or}
use Rattle.std.proofs.lemmas.List.Splits.{slice_split_none, slice_split_first}
use Rattle.std.proofs.lemmas.List.{take_all}
use Rattle.expr_values.proofs.Positions.{found_at, fails_at}
use Rattle.expr_values.specs.Functions.{cut_at_spaces}

pub cut-some : (text : List ℕ) (place : ℕ) → Some place ≡ position (λ byte. byte == 32) text
    → cut_at_spaces text ≡ take place text ∷ cut_at_spaces (take (length text - (place + 1)) (drop (place + 1) text))
cut-some text place found =
    let at = found_at (λ byte. byte == 32) text place found in
    let is : place ≡ position_or_len (λ byte. byte == 32) text = at.1 in
    let all : take (length text - (place + 1)) (drop (place + 1) text) ≡ drop (place + 1) text = take_all (length text - (place + 1)) (drop (place + 1) text) (let e : length (drop (place + 1) text) ≡ length text - (place + 1) = length-drop (place + 1) text in omega arith) in
    rw (all, is) (slice_split_first (λ byte. byte == 32) text 0 at.0)

pub cut-none : (text : List ℕ) → None ≡ position (λ byte. byte == 32) text → cut_at_spaces text ≡ text ∷ []
cut-none text none = slice_split_none (λ byte. byte == 32) text (All-from_get_or (λ b. (b == 32) ≡ false) text 0 (λ k within. fails_at (λ byte. byte == 32) text none k 0 within))
