-- The characters at the front that pass a test, and those after them.
use Rattle.std.proofs.Common.{◌≡◌, ℕ, ◌-◌, ◌≤◌, Bool, true, false, cond, List, [], ◌∷◌, ◌++◌, length, take, refl, sym, ap, ◌∙◌, arith}
use Rattle.std.specs.List.{list_all}
use Rattle.std.proofs.lemmas.Bool.{and_parts}
use Rattle.std.proofs.lemmas.List.{take_at, length-append}
use Rattle.rosa_pieces.specs.Reading.{front, past}
use Rattle.rosa_pieces.specs.Pieces.{begins}

front_past-by : (p : ℕ → Bool) (c : ℕ) (cs : List ℕ) (b : Bool) → front p cs ++ past p cs ≡ cs → cond b (c ∷ front p cs) [] ++ cond b (past p cs) (c ∷ cs) ≡ c ∷ cs
front_past-by p c cs true h = ap (λ (t : List ℕ). c ∷ t) h
front_past-by p c cs false h = refl

-- the two parts are the whole
pub front_past : (p : ℕ → Bool) (cs : List ℕ) → front p cs ++ past p cs ≡ cs
front_past p [] = refl
front_past p (c ∷ cs) = front_past-by p c cs (p c) (front_past p cs)

front_is_all-by : (p : ℕ → Bool) (c : ℕ) (cs : List ℕ) (b : Bool) → p c ≡ b → list_all p (front p cs) ≡ true → list_all p (cond b (c ∷ front p cs) []) ≡ true
front_is_all-by p c cs true e h = rw e h
front_is_all-by p c cs false e h = refl

pub front_passes : (p : ℕ → Bool) (cs : List ℕ) → list_all p (front p cs) ≡ true
front_passes p [] = refl
front_passes p (c ∷ cs) = front_is_all-by p c cs (p c) refl (front_passes p cs)

past_ends-by : (p : ℕ → Bool) (c : ℕ) (cs : List ℕ) (b : Bool) → p c ≡ b → begins p (past p cs) ≡ false → begins p (cond b (past p cs) (c ∷ cs)) ≡ false
past_ends-by p c cs true e h = h
past_ends-by p c cs false e h = e

pub past_fails : (p : ℕ → Bool) (cs : List ℕ) → begins p (past p cs) ≡ false
past_fails p [] = refl
past_fails p (c ∷ cs) = past_ends-by p c cs (p c) refl (past_fails p cs)

pub all_head : (p : ℕ → Bool) (c : ℕ) (cs : List ℕ) → list_all p (c ∷ cs) ≡ true → (p c ≡ true) × (list_all p cs ≡ true)
all_head p c cs h = and_parts (p c) (list_all p cs) h

-- characters that pass, and then none: where the front ends
pub past_at : (p : ℕ → Bool) (x r : List ℕ) → list_all p x ≡ true → begins p r ≡ false → past p (x ++ r) ≡ r
past_at p [] [] h f = refl
past_at p [] (c ∷ r) h f = rw f refl
past_at p (c ∷ x) r h f = let a = all_head p c x h in rw (a.0) (past_at p x r a.1 f)

pub front_at : (p : ℕ → Bool) (x r : List ℕ) → list_all p x ≡ true → begins p r ≡ false → front p (x ++ r) ≡ x
front_at p [] [] h f = refl
front_at p [] (c ∷ r) h f = rw f refl
front_at p (c ∷ x) r h f = let a = all_head p c x h in rw (a.0) (ap (λ (t : List ℕ). c ∷ t) (front_at p x r a.1 f))

-- what is cut off before the rest is the front
pub take_front : (p : ℕ → Bool) (cs rest : List ℕ) → rest ≡ past p cs → take (length cs - length rest) cs ≡ front p cs
take_front p cs rest e =
    let whole = front_past p cs in
    let n : length cs - length rest ≡ length (front p cs) = omega (arith, ap length whole, length-append (front p cs) (past p cs), ap length e) in
    rw n (ap (take (length (front p cs))) (sym whole) ∙ take_at (front p cs) (past p cs) (length (front p cs)) refl)

pub rest_fits : (p : ℕ → Bool) (cs rest : List ℕ) → rest ≡ past p cs → length rest ≤ length cs
rest_fits p cs rest e = omega (arith, ap length (front_past p cs), length-append (front p cs) (past p cs), ap length e)
