-- A character, a reference and a value that are read are spelled so, and what is spelled is read.
use Rattle.std.proofs.Common.{◌≡◌, ℕ, ◌<◌, true, false, cond, ◌==◌, List, [], ◌∷◌, ◌++◌, length, Some, None, refl, sym, ap, subst, ◌∙◌, arith, inl, inr, append_assoc, encode_utf8_all}
use Rattle.std.proofs.lemmas.Bool.{eqb-true, eq-eqb}
use Rattle.std.proofs.lemmas.List.{length-append}
use Rattle.rosa_pieces.specs.declared.piece.CharData.{CharData}
use Rattle.rosa_pieces.specs.declared.piece.CharData.TheVariants.{Literal, Reference}
use Rattle.rosa_pieces.specs.Pieces.{Spelled, IsCharData, IsValueChar, IsOtherThan, IsValue, is_literal, is_quote, is_no_semicolon, referenced, read_value}
use Rattle.rosa_pieces.specs.Reading.{◌>>=◌, front, past, past_one, cuts, reference_at, data_at, value_char_at, quoted_at, value_at}
use Rattle.rosa_pieces.proofs.Fronts.{front_past, front_passes, past_at, front_at}
use Rattle.rosa_pieces.proofs.Steps.{bind_some, chosen_some, chosen, some_is, past_one_cuts, literal_parts, quote_is}
use Rattle.rosa_pieces.proofs.Cuts.{Shrinks, Takes, Again, cuts_spell, cuts_spelled}

abbrev Spells : CharData → List ℕ → List ℕ → Type 0
Spells d cs rest = (x : List ℕ) × IsCharData d x × (cs ≡ x ++ rest)

reference_takes : (cs : List ℕ) (d : CharData) (rest : List ℕ) → reference_at cs ≡ Some (d, rest) → Spells d (38 ∷ cs) rest
unfolding reference_at
reference_takes cs d rest e =
    let inside = front is_no_semicolon cs in
    let a = bind_some (past_one 59 (past is_no_semicolon cs)) (λ r. referenced inside >>= λ c. Some (Reference c, r)) (d, rest) e in
    let b = bind_some (referenced inside) (λ c. Some (Reference c, a.0)) (d, rest) a.2 in
    let semicolon = past_one_cuts 59 (past is_no_semicolon cs) a.0 a.1 in
    let whole : 38 ∷ cs ≡ (38 ∷ (inside ++ (59 ∷ []))) ++ a.0 = ap (λ (t : List ℕ). 38 ∷ t) (sym (front_past is_no_semicolon cs) ∙ ap (λ (t : List ℕ). inside ++ t) semicolon ∙ sym (append_assoc inside (59 ∷ []) a.0)) in
    subst (λ (p : CharData × List ℕ). Spells p.0 (38 ∷ cs) p.1) (some_is (Reference b.0, a.0) (d, rest) b.2) (38 ∷ (inside ++ (59 ∷ [])), (inside, front_passes is_no_semicolon cs, b.1, refl), whole)

pub data_takes : (cs : List ℕ) (d : CharData) (rest : List ℕ) → data_at cs ≡ Some (d, rest) → (x : List ℕ) × IsCharData d x × (cs ≡ x ++ rest)
unfolding data_at
data_takes [] d rest e = absurd cc
data_takes (c ∷ cs) d rest e =
    elim (chosen (c == 38) (reference_at cs) (cond (is_literal c) (Some (Literal c, cs)) None) (Some (d, rest)) e) [
      | inl (is, f) ↦
          let same = eqb-true c 38 is in
          rw same (reference_takes cs d rest f)
      | inr (is, f) ↦
          let g = chosen_some (is_literal c) (Some (Literal c, cs)) (d, rest) f in
          subst (λ (p : CharData × List ℕ). Spells p.0 (c ∷ cs) p.1) (some_is (Literal c, cs) (d, rest) g.1) (c ∷ [], (g.0, refl), refl)
    ]

pub data_again : (d : CharData) (x r : List ℕ) → IsCharData d x → data_at (x ++ r) ≡ Some (d, r)
unfolding data_at reference_at
data_again (Literal c) x r (lit, e) =
    let split : x ++ r ≡ c ∷ r = ap (λ (t : List ℕ). t ++ r) e in
    rw (split, lit, (literal_parts c lit).2) refl
data_again (Reference c) x r (inside, all, is, e) =
    let split : x ++ r ≡ 38 ∷ (inside ++ (59 ∷ r)) = ap (λ (t : List ℕ). t ++ r) e ∙ ap (λ (t : List ℕ). 38 ∷ t) (append_assoc inside (59 ∷ []) r) in
    rw (split, past_at is_no_semicolon inside (59 ∷ r) all refl, front_at is_no_semicolon inside (59 ∷ r) all refl, is) refl

-- a character of a text takes at least one character
pub data_is_long : (d : CharData) (x : List ℕ) → IsCharData d x → 0 < length x
data_is_long (Literal c) x (lit, e) = rw e (omega arith)
data_is_long (Reference c) x (inside, all, is, e) = rw e (omega arith)

other_than : (q c : ℕ) (cs : List ℕ) (d : CharData) (x rest : List ℕ) → (c == q) ≡ false → IsCharData d x → c ∷ cs ≡ x ++ rest → IsOtherThan q d
other_than q c cs (Literal k) x rest differs (lit, e) whole =
    let first : c ∷ cs ≡ k ∷ rest = whole ∙ ap (λ (t : List ℕ). t ++ rest) e in
    let same : c ≡ k = cc in
    rw (← same) differs
other_than q c cs (Reference k) x rest differs h whole = tt

value_char_takes : (q : ℕ) (cs : List ℕ) (d : CharData) (rest : List ℕ) → value_char_at q cs ≡ Some (d, rest) → (x : List ℕ) × IsValueChar q d x × (cs ≡ x ++ rest)
unfolding value_char_at
value_char_takes q [] d rest e = absurd cc
value_char_takes q (c ∷ cs) d rest e =
    elim (chosen (c == q) None (data_at (c ∷ cs)) (Some (d, rest)) e) [
      | inl (is, f) ↦ absurd cc
      | inr (is, f) ↦
          let t = data_takes (c ∷ cs) d rest f in
          (t.0, (other_than q c cs d t.0 rest is t.1 t.2, t.1), t.2)
    ]

pub value_chars_take : (q : ℕ) → Takes (value_char_at q) (IsValueChar q)
value_chars_take q = record { spells = value_char_takes q }

pub value_chars_shrink : (q : ℕ) → Shrinks (value_char_at q)
value_chars_shrink q = record {
  shorter = λ cs d rest e.
      let t = value_char_takes q cs d rest e in
      let long = data_is_long d t.0 t.1.1 in
      omega (arith, ap length t.2, length-append t.0 rest);
}

value_char_again : (q : ℕ) → is_quote q ≡ true → (d : CharData) (x r : List ℕ) → IsValueChar q d x → value_char_at q (x ++ r) ≡ Some (d, r)
unfolding value_char_at
value_char_again q quote (Literal c) x r (differs, (lit, e)) =
    let split : x ++ r ≡ c ∷ r = ap (λ (t : List ℕ). t ++ r) e in
    let read = data_again (Literal c) (c ∷ []) r (lit, refl) in
    rw (split, differs) read
value_char_again q quote (Reference c) x r (differs, (inside, all, is, e)) =
    let split : x ++ r ≡ 38 ∷ ((inside ++ (59 ∷ [])) ++ r) = ap (λ (t : List ℕ). t ++ r) e in
    let read = data_again (Reference c) (38 ∷ (inside ++ (59 ∷ []))) r (inside, all, is, refl) in
    let no_quote : (38 == q) ≡ false = elim (quote_is q quote) [ inl h ↦ rw h refl | inr h ↦ rw h refl ] in
    rw (split, no_quote) read

value_char_ends : (q : ℕ) (r : List ℕ) → value_char_at q (q ∷ r) ≡ None
unfolding value_char_at
value_char_ends q r = let same : (q == q) ≡ true = eq-eqb q q refl in rw same refl

abbrev IsQuoted : ℕ → List ℕ → List ℕ → List ℕ → Type 0
IsQuoted q v cs rest = (ds : List CharData) × (inside : List ℕ) × Spelled (IsValueChar q) ds inside × (v ≡ encode_utf8_all (read_value false ds)) × (cs ≡ inside ++ (q ∷ rest))

quoted_takes : (q : ℕ) (cs v rest : List ℕ) → quoted_at q cs ≡ Some (v, rest) → IsQuoted q v cs rest
unfolding quoted_at
quoted_takes q cs v rest e =
    let cut = cuts (value_char_at q) (length cs) cs in
    let b = bind_some (past_one q cut.1) (λ r. Some (encode_utf8_all (read_value false cut.0), r)) (v, rest) e in
    let t = cuts_spell (value_char_at q) (IsValueChar q) (value_chars_take q) (length cs) cs in
    let close = past_one_cuts q cut.1 b.0 b.1 in
    subst (λ (p : List ℕ × List ℕ). IsQuoted q p.0 cs p.1) (some_is (encode_utf8_all (read_value false cut.0), b.0) (v, rest) b.2) (cut.0, t.0, t.1, refl, t.2 ∙ ap (λ (r : List ℕ). t.0 ++ r) close)

quoted_again : (q : ℕ) (ds : List CharData) (inside r : List ℕ) → is_quote q ≡ true → Spelled (IsValueChar q) ds inside → quoted_at q (inside ++ (q ∷ r)) ≡ Some (encode_utf8_all (read_value false ds), r)
unfolding quoted_at
quoted_again q ds inside r quote h =
    let again : Again (value_char_at q) (IsValueChar q) (q ∷ r) = record { reads = λ d x others y p spelled. value_char_again q quote d x (y ++ (q ∷ r)) p } in
    let cut = cuts_spelled (value_char_at q) (value_chars_shrink q) (IsValueChar q) (q ∷ r) again (value_char_ends q r) ds inside h in
    let same : (q == q) ≡ true = eq-eqb q q refl in
    rw (cut, same) refl

pub value_takes : (cs v rest : List ℕ) → value_at cs ≡ Some (v, rest) → (x : List ℕ) × IsValue v x × (cs ≡ x ++ rest)
unfolding value_at
value_takes [] v rest e = absurd cc
value_takes (c ∷ cs) v rest e =
    let g = chosen_some (is_quote c) (quoted_at c cs) (v, rest) e in
    let (ds, inside, h, is, whole) = quoted_takes c cs v rest g.1 in
    (c ∷ (inside ++ (c ∷ [])), (c, ds, inside, g.0, h, is, refl), ap (λ (t : List ℕ). c ∷ t) (whole ∙ sym (append_assoc inside (c ∷ []) rest)))

pub value_again : (v x r : List ℕ) → IsValue v x → value_at (x ++ r) ≡ Some (v, r)
unfolding value_at
value_again v x r (q, ds, inside, quote, h, is, e) =
    let split : x ++ r ≡ q ∷ (inside ++ (q ∷ r)) = ap (λ (t : List ℕ). t ++ r) e ∙ ap (λ (t : List ℕ). q ∷ t) (append_assoc inside (q ∷ []) r) in
    rw (split, quote) (quoted_again q ds inside r quote h ∙ ap (λ (t : List ℕ). Some (t, r)) (sym is))

-- a value begins with its quote
pub value_first : (v x : List ℕ) → IsValue v x → (q : ℕ) × (y : List ℕ) × (is_quote q ≡ true) × (x ≡ q ∷ y)
value_first v x (q, ds, inside, quote, h, is, e) = (q, inside ++ (q ∷ []), quote, e)
