-- Writing a text character by character.
use Rattle.std.proofs.Common.{◌≡◌, ℕ, ◌≤◌, List, [], ◌++◌, length, take, arith, sym, ap, ◌∙◌, append_assoc, encode_utf8}
use Rattle.std.specs.List.{flat_map}
use Rattle.std.specs.Str.{chars, IsUtf8}
use Rattle.std.proofs.lemmas.List.{append-nil, nil_from_length, take_all, length-take, take-append-le}
use Rattle.std.proofs.lemmas.Str.{chars_past_char, chars-nil}

pub writes_on : (f : ℕ → List ℕ) (rest after out longer total : List ℕ) (c : ℕ) → IsUtf8 rest → rest ≡ encode_utf8 c ++ after → longer ≡ out ++ f c → out ++ flat_map f (chars rest) ≡ total → longer ++ flat_map f (chars after) ≡ total
writes_on f rest after out longer total c utf8 e grown h =
    let cut = chars_past_char rest after c utf8 e in
    let all : out ++ (f c ++ flat_map f (chars after)) ≡ total = sym (ap (λ (cs : List ℕ). out ++ flat_map f cs) cut) ∙ h in
    rw grown (append_assoc out (f c) (flat_map f (chars after)) ∙ all)

pub written : (f : ℕ → List ℕ) (rest out total : List ℕ) → length rest ≡ 0 → out ++ flat_map f (chars rest) ≡ total → out ≡ total
written f rest out total e h =
    let nil : rest ≡ [] = nil_from_length rest e in
    let none : chars rest ≡ [] = ap chars nil ∙ chars-nil in
    sym (append-nil out) ∙ sym (ap (λ (cs : List ℕ). out ++ flat_map f cs) none) ∙ h

-- what was there stays in front
pub all_kept : (old : List ℕ) → take (length old) old ≡ old
all_kept old = take_all (length old) old (omega arith)

pub kept_on : (old out longer more : List ℕ) → longer ≡ out ++ more → take (length old) out ≡ old → take (length old) longer ≡ old
kept_on old out longer more grown h =
    let n : length old ≤ length out = omega (arith, ap length h, length-take (length old) out) in
    ap (take (length old)) grown ∙ take-append-le (length old) out more n ∙ h
