-- How many characters stand before a mark.
use Rattle.std.proofs.Common.{◌≡◌, ℕ, ◌+◌, ◌<◌, ◌≤◌, true, false, List, [], ◌∷◌, length, take, drop, get_or, Option, Some, None, refl, sym, ap, ◌∙◌, arith, nat_eq, ◌-◌}
use Rattle.std.proofs.lemmas.List.{take_all}
use Rattle.std.specs.Prelude.{option_map}
use Rattle.std.specs.List.{starts_with}
use Rattle.field_text.specs.Xml.{is_xml_char}
use Rattle.rosa_pieces.specs.Reading.{until}

step_shift : (k : ℕ) (o : Option ℕ) → option_map (λ n. n + k) (option_map (λ n. n + 1) o) ≡ option_map (λ n. n + (k + 1)) o
step_shift k None = refl
step_shift k (Some n) = ap (λ (m : ℕ). Some m) (omega arith)

-- the items that a pattern `[c, after @ ..]` binds
pub split_first : (rest : List ℕ) (c : ℕ) → 1 ≤ length rest → c ≡ get_or rest 0 c → rest ≡ c ∷ take (length rest - 1) (drop 1 rest)
split_first [] c long is = absurd (omega arith)
split_first (x ∷ xs) c long is =
    let n : length (x ∷ xs) - 1 ≡ length xs = omega arith in
    rw (n, take_all (length xs) xs (omega arith)) (ap (λ (y : ℕ). y ∷ xs) (sym is))

pub until_starts : (close rest : List ℕ) (c k : ℕ) (total : Option ℕ) → 1 ≤ length rest → c ≡ get_or rest 0 c → starts_with nat_eq rest close ≡ true → option_map (λ n. n + k) (until close rest) ≡ total → Some k ≡ total
unfolding until
until_starts close rest c k total long is starts h =
    let cut = split_first rest c long is in
    let after = take (length rest - 1) (drop 1 rest) in
    let starts' : starts_with nat_eq (c ∷ after) close ≡ true = sym (ap (λ (r : List ℕ). starts_with nat_eq r close) cut) ∙ starts in
    let found : until close (c ∷ after) ≡ Some 0 = rw starts' refl in
    let found' : until close rest ≡ Some 0 = ap (until close) cut ∙ found in
    let zero-is : Some k ≡ option_map (λ n. n + k) (until close rest) = rw found' (ap (λ (m : ℕ). Some m) (omega arith)) in
    zero-is ∙ h

pub until_stops : (close rest : List ℕ) (c k : ℕ) (total : Option ℕ) → 1 ≤ length rest → c ≡ get_or rest 0 c → starts_with nat_eq rest close ≡ false → is_xml_char c ≡ false → option_map (λ n. n + k) (until close rest) ≡ total → None ≡ total
unfolding until
until_stops close rest c k total long is starts bad h =
    let cut = split_first rest c long is in
    let after = take (length rest - 1) (drop 1 rest) in
    let starts' : starts_with nat_eq (c ∷ after) close ≡ false = sym (ap (λ (r : List ℕ). starts_with nat_eq r close) cut) ∙ starts in
    let found : until close (c ∷ after) ≡ None = rw (starts', bad) refl in
    let found' : until close rest ≡ None = ap (until close) cut ∙ found in
    let none-is : None ≡ option_map (λ n. n + k) (until close rest) = rw found' refl in
    none-is ∙ h

pub until_goes_on : (close rest : List ℕ) (c k j : ℕ) (total : Option ℕ) → 1 ≤ length rest → c ≡ get_or rest 0 c → starts_with nat_eq rest close ≡ false → is_xml_char c ≡ true → j ≡ k + 1 → option_map (λ n. n + k) (until close rest) ≡ total
    → option_map (λ n. n + j) (until close (take (length rest - 1) (drop 1 rest))) ≡ total
unfolding until
until_goes_on close rest c k j total long is starts good j-is h =
    let cut = split_first rest c long is in
    let after = take (length rest - 1) (drop 1 rest) in
    let starts' : starts_with nat_eq (c ∷ after) close ≡ false = sym (ap (λ (r : List ℕ). starts_with nat_eq r close) cut) ∙ starts in
    let found : until close (c ∷ after) ≡ option_map (λ n. n + 1) (until close after) = rw (starts', good) refl in
    let found' : until close rest ≡ option_map (λ n. n + 1) (until close after) = ap (until close) cut ∙ found in
    let moved : option_map (λ n. n + k) (option_map (λ n. n + 1) (until close after)) ≡ total = rw found' at h in
    rw j-is (sym (step_shift k (until close after)) ∙ moved)

pub until_nil : (close rest : List ℕ) (k : ℕ) (total : Option ℕ) → length rest < 1 → option_map (λ n. n + k) (until close rest) ≡ total → None ≡ total
unfolding until
until_nil close [] k total short h = h
until_nil close (c ∷ cs) k total short h = absurd (omega arith)
