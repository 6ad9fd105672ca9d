-- A name that is read is spelled so, and a name that is spelled is read.
use Rattle.std.proofs.Common.{◌≡◌, ℕ, Bool, true, false, ◌==◌, List, [], ◌∷◌, ◌++◌, Option, Some, None, refl, sym, ap, subst, ◌∙◌, inl, inr, append_assoc, encode_utf8_all}
use Rattle.std.specs.List.{list_all}
use Rattle.std.proofs.lemmas.Bool.{eqb-true, and_parts}
use Rattle.field_text.specs.Xml.{is_name_start, is_name_char, begins_as_name, is_local_name}
use Rattle.rosa_pieces.specs.declared.piece.Name.{Name}
use Rattle.rosa_pieces.specs.Pieces.{begins, IsName, SpellsName}
use Rattle.rosa_pieces.specs.Reading.{◌>>=◌, front, past, local_at, name_from, name_at}
use Rattle.rosa_pieces.proofs.Fronts.{front_past, front_passes, past_at, front_at}
use Rattle.rosa_pieces.proofs.Steps.{bind_some, chosen_some, chosen, some_is, start_is_char}

front_begins : (cs : List ℕ) → begins_as_name cs ≡ true → begins_as_name (front is_name_char cs) ≡ true
front_begins [] h = absurd cc
front_begins (c ∷ cs) h = rw (start_is_char c h) h

pub local_takes : (cs text rest : List ℕ) → local_at cs ≡ Some (text, rest) → (x : List ℕ) × (is_local_name x ≡ true) × (text ≡ encode_utf8_all x) × (cs ≡ x ++ rest)
unfolding local_at
local_takes cs text rest e =
    let x = front is_name_char cs in
    let r = past is_name_char cs in
    let g = chosen_some (begins_as_name cs) (Some (encode_utf8_all x, r)) (text, rest) e in
    let same = some_is (encode_utf8_all x, r) (text, rest) g.1 in
    let begins-is = front_begins cs g.0 in
    let named : is_local_name x ≡ true = rw begins-is (front_passes is_name_char cs) in
    (x, named, sym (ap (λ (p : List ℕ × List ℕ). p.0) same), sym (front_past is_name_char cs) ∙ ap (λ (t : List ℕ). x ++ t) (ap (λ (p : List ℕ × List ℕ). p.1) same))

name_begins : (x r : List ℕ) → is_local_name x ≡ true → begins_as_name (x ++ r) ≡ true
name_begins [] r h = absurd cc
name_begins (c ∷ cs) r h = (and_parts (is_name_start c) (list_all is_name_char (c ∷ cs)) h).0

name_is_all : (x : List ℕ) → is_local_name x ≡ true → list_all is_name_char x ≡ true
name_is_all x h = (and_parts (begins_as_name x) (list_all is_name_char x) h).1

pub local_again : (x r : List ℕ) → is_local_name x ≡ true → begins is_name_char r ≡ false → local_at (x ++ r) ≡ Some (encode_utf8_all x, r)
unfolding local_at
local_again x r h stops = rw (name_begins x r h, front_at is_name_char x r (name_is_all x h) stops, past_at is_name_char x r (name_is_all x h) stops) refl

abbrev plain_name : List ℕ → Name
plain_name local = record { prefix = None; local = local }

abbrev full_name : List ℕ → List ℕ → Name
full_name prefix local = record { prefix = Some prefix; local = local }

abbrev Named : Name → List ℕ → List ℕ → Type 0
Named n cs rest = (x : List ℕ) × IsName n x × (cs ≡ x ++ rest)

named_by : (a : List ℕ) (first : List ℕ) (cs : List ℕ) (n : Name) (rest : List ℕ) → is_local_name a ≡ true → first ≡ encode_utf8_all a → name_from first cs ≡ Some (n, rest) → Named n (a ++ cs) rest
unfolding name_from
named_by a first [] n rest ha fa e =
    let same = some_is (plain_name first, []) (n, rest) e in
    subst (λ (p : Name × List ℕ). Named p.0 (a ++ []) p.1) same (a, (ha, fa), refl)
named_by a first (c ∷ cs) n rest ha fa e =
    elim (chosen (c == 58) (local_at cs >>= λ second. Some (full_name first second.0, second.1)) (Some (plain_name first, c ∷ cs)) (Some (n, rest)) e) [
      | inl (is, f) ↦
          let b = bind_some (local_at cs) (λ second. Some (full_name first second.0, second.1)) (n, rest) f in
          let t = local_takes cs b.0.0 b.0.1 b.1 in
          let colon = eqb-true c 58 is in
          let same = some_is (full_name first b.0.0, b.0.1) (n, rest) b.2 in
          let whole : a ++ (c ∷ cs) ≡ (a ++ (58 ∷ t.0)) ++ b.0.1 = ap (λ (k : ℕ). a ++ (k ∷ cs)) colon ∙ ap (λ (r : List ℕ). a ++ (58 ∷ r)) t.3 ∙ sym (append_assoc a (58 ∷ t.0) b.0.1) in
          subst (λ (p : Name × List ℕ). Named p.0 (a ++ (c ∷ cs)) p.1) same (a ++ (58 ∷ t.0), (a, t.0, ha, t.1, fa, t.2, refl), whole)
      | inr (is, f) ↦
          let same = some_is (plain_name first, c ∷ cs) (n, rest) f in
          subst (λ (p : Name × List ℕ). Named p.0 (a ++ (c ∷ cs)) p.1) same (a, (ha, fa), refl)
    ]

pub name_takes : (cs : List ℕ) (n : Name) (rest : List ℕ) → name_at cs ≡ Some (n, rest) → (x : List ℕ) × IsName n x × (cs ≡ x ++ rest)
unfolding name_at
name_takes cs n rest e =
    let b = bind_some (local_at cs) (λ first. name_from first.0 first.1) (n, rest) e in
    let t = local_takes cs b.0.0 b.0.1 b.1 in
    let u = named_by t.0 b.0.0 b.0.1 n rest t.1 t.2 b.2 in
    (u.0, u.1, t.3 ∙ u.2)

abbrev is_colon : ℕ → Bool
is_colon c = c == 58

from_again : (first r : List ℕ) → begins is_colon r ≡ false → name_from first r ≡ Some (plain_name first, r)
unfolding name_from
from_again first [] e = refl
from_again first (c ∷ r) e = rw e refl

name_again_by : (prefix : Option (List ℕ)) (local x r : List ℕ) → SpellsName prefix local x → begins is_name_char r ≡ false → begins is_colon r ≡ false → name_at (x ++ r) ≡ Some (record { prefix = prefix; local = local }, r)
unfolding name_at name_from
name_again_by None local x r (named, is) stops plain =
    let first = local_again x r named stops in
    rw first (from_again (encode_utf8_all x) r plain ∙ ap (λ (l : List ℕ). Some (plain_name l, r)) (sym is))
name_again_by (Some prefix) local x r (a, b, ha, hb, pa, lb, e) stops plain =
    let split : x ++ r ≡ a ++ (58 ∷ (b ++ r)) = ap (λ (t : List ℕ). t ++ r) e ∙ append_assoc a (58 ∷ b) r in
    let first = local_again a (58 ∷ (b ++ r)) ha refl in
    let second = local_again b r hb stops in
    rw (split, first, second) (ap (λ (p : List ℕ). Some (full_name p (encode_utf8_all b), r)) (sym pa) ∙ ap (λ (l : List ℕ). Some (full_name prefix l, r)) (sym lb))

pub name_again : (n : Name) (x r : List ℕ) → IsName n x → begins is_name_char r ≡ false → begins is_colon r ≡ false → name_at (x ++ r) ≡ Some (n, r)
name_again n x r h stops plain = name_again_by n.prefix n.local x r h stops plain

name_first_by : (prefix : Option (List ℕ)) (local x : List ℕ) → SpellsName prefix local x → (c : ℕ) × (cs : List ℕ) × (is_name_start c ≡ true) × (x ≡ c ∷ cs)
name_first_by None local [] (named, is) = absurd cc
name_first_by None local (c ∷ cs) (named, is) = (c, cs, (and_parts (is_name_start c) (list_all is_name_char (c ∷ cs)) named).0, refl)
name_first_by (Some prefix) local x ([], b, ha, hb, pa, lb, e) = absurd cc
name_first_by (Some prefix) local x (c ∷ cs, b, ha, hb, pa, lb, e) = (c, cs ++ (58 ∷ b), (and_parts (is_name_start c) (list_all is_name_char (c ∷ cs)) ha).0, e)

-- the first character of a name
pub name_first : (n : Name) (x : List ℕ) → IsName n x → (c : ℕ) × (cs : List ℕ) × (is_name_start c ≡ true) × (x ≡ c ∷ cs)
name_first n x h = name_first_by n.prefix n.local x h
