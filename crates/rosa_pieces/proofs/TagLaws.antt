-- A tag that is read is spelled so, and a tag that is spelled is read.
use Rattle.std.proofs.Common.{◌≡◌, ◌≢◌, ℕ, ◌<◌, Bool, true, false, cond, ◌==◌, List, [], ◌∷◌, ◌++◌, length, Some, None, refl, sym, ap, subst, ◌∙◌, arith, inl, inr, append_assoc, codes}
use Rattle.std.proofs.lemmas.Bool.{eqb-true}
use Rattle.std.proofs.lemmas.List.{length-append}
use Rattle.field_text.specs.Xml.{is_xml_space, is_name_char, is_name_start}
use Rattle.rosa_pieces.specs.declared.piece.Name.{Name}
use Rattle.rosa_pieces.specs.declared.piece.Attribute.{Attribute}
use Rattle.rosa_pieces.specs.declared.piece.Tag.{Tag}
use Rattle.rosa_pieces.specs.declared.piece.Piece.{Piece}
use Rattle.rosa_pieces.specs.declared.piece.Piece.TheVariants.{End}
use Rattle.rosa_pieces.specs.Pieces.{begins, Spelled, AreSpaces, IsName, IsValue, IsAttribute, IsTag, IsPiece, have_different_names}
use Rattle.rosa_pieces.specs.Reading.{◌>>=◌, front, past, past_one, cuts, local_at, name_at, value_at, pair_at, attribute_at, close_at, tag_at, end_at}
use Rattle.rosa_pieces.proofs.Fronts.{all_head, front_past, front_passes, past_at}
use Rattle.rosa_pieces.proofs.Steps.{bind_some, chosen_some, chosen, some_is, past_one_cuts, quote_is, FailsAtSpaces, spaces_fail, fails_at_space}
use Rattle.rosa_pieces.proofs.NameLaws.{name_takes, name_again, name_first}
use Rattle.rosa_pieces.proofs.DataLaws.{value_takes, value_again, value_first}
use Rattle.rosa_pieces.proofs.Cuts.{Shrinks, Takes, Again, cuts_spell, cuts_spelled}

abbrev is_colon : ℕ → Bool
is_colon c = c == 58

no_name_at_spaces : FailsAtSpaces is_name_char
no_name_at_spaces = record { space = refl; tab = refl; feed = refl; return = refl }

no_colon_at_spaces : FailsAtSpaces is_colon
no_colon_at_spaces = record { space = refl; tab = refl; feed = refl; return = refl }

-- a name is read behind which white space and then r stand
name_before_spaces : (n : Name) (x s r : List ℕ) → IsName n x → AreSpaces s → begins is_name_char r ≡ false → begins is_colon r ≡ false → name_at (x ++ (s ++ r)) ≡ Some (n, s ++ r)
name_before_spaces n x s r h spaces stops plain = name_again n x (s ++ r) h (spaces_fail is_name_char no_name_at_spaces s r spaces stops) (spaces_fail is_colon no_colon_at_spaces s r spaces plain)

-- the spaces at the front
spaces_parts : (cs rest : List ℕ) → rest ≡ past is_xml_space cs → (s : List ℕ) × AreSpaces s × (cs ≡ s ++ rest)
spaces_parts cs rest e = (front is_xml_space cs, front_passes is_xml_space cs, sym (front_past is_xml_space cs) ∙ ap (λ (t : List ℕ). front is_xml_space cs ++ t) (sym e))

pair_takes : (cs : List ℕ) (a : Attribute) (rest : List ℕ) → pair_at cs ≡ Some (a, rest)
    → (name : List ℕ) × (left : List ℕ) × (right : List ℕ) × (value : List ℕ) × IsName a.name name × AreSpaces left × AreSpaces right × IsValue a.value value × (cs ≡ (name ++ (left ++ (61 ∷ (right ++ value)))) ++ rest)
unfolding pair_at
pair_takes cs a rest e =
    let n = bind_some (name_at cs) (λ name. past_one 61 (past is_xml_space name.1) >>= λ after. value_at (past is_xml_space after) >>= λ value. Some (record { name = name.0; value = value.0 }, value.1)) (a, rest) e in
    let o = bind_some (past_one 61 (past is_xml_space n.0.1)) (λ after. value_at (past is_xml_space after) >>= λ value. Some (record { name = n.0.0; value = value.0 }, value.1)) (a, rest) n.2 in
    let v = bind_some (value_at (past is_xml_space o.0)) (λ value. Some (record { name = n.0.0; value = value.0 }, value.1)) (a, rest) o.2 in
    let attribute : Attribute = record { name = n.0.0; value = v.0.0 } in
    let nt = name_takes cs n.0.0 n.0.1 n.1 in
    let left = spaces_parts n.0.1 (past is_xml_space n.0.1) refl in
    let equals = past_one_cuts 61 (past is_xml_space n.0.1) o.0 o.1 in
    let right = spaces_parts o.0 (past is_xml_space o.0) refl in
    let vt = value_takes (past is_xml_space o.0) v.0.0 v.0.1 v.1 in
    let r = v.0.1 in
    let tail : n.0.1 ≡ (left.0 ++ (61 ∷ (right.0 ++ vt.0))) ++ r =
    left.2 ∙ ap (λ (t : List ℕ). left.0 ++ t) (equals ∙ ap (λ (t : List ℕ). 61 ∷ t) (right.2 ∙ ap (λ (t : List ℕ). right.0 ++ t) vt.2 ∙ sym (append_assoc right.0 vt.0 r))) ∙ sym (append_assoc left.0 (61 ∷ (right.0 ++ vt.0)) r) in
    let whole : cs ≡ (nt.0 ++ (left.0 ++ (61 ∷ (right.0 ++ vt.0)))) ++ r = nt.2 ∙ ap (λ (t : List ℕ). nt.0 ++ t) tail ∙ sym (append_assoc nt.0 (left.0 ++ (61 ∷ (right.0 ++ vt.0))) r) in
    let goal : Attribute × List ℕ → Type 0 = λ p. (name : List ℕ) × (left : List ℕ) × (right : List ℕ) × (value : List ℕ) × IsName p.0.name name × AreSpaces left × AreSpaces right × IsValue p.0.value value × (cs ≡ (name ++ (left ++ (61 ∷ (right ++ value)))) ++ p.1) in
    subst goal (some_is (attribute, r) (a, rest) v.2) (nt.0, left.0, right.0, vt.0, nt.1, left.1, right.1, vt.1, whole)

begins_front : (p : ℕ → Bool) (cs : List ℕ) → begins p cs ≡ true → front p cs ≢ []
begins_front p [] h e = absurd cc
begins_front p (c ∷ cs) h e = let one : front p (c ∷ cs) ≡ c ∷ front p cs = rw h refl in absurd (let bad : c ∷ front p cs ≡ [] = sym one ∙ e in cc)

attribute_takes : (cs : List ℕ) (a : Attribute) (rest : List ℕ) → attribute_at cs ≡ Some (a, rest) → (x : List ℕ) × IsAttribute a x × (cs ≡ x ++ rest)
unfolding attribute_at
attribute_takes cs a rest e =
    let g = chosen_some (begins is_xml_space cs) (pair_at (past is_xml_space cs)) (a, rest) e in
    let (name, left, right, value, hn, hl, hr, hv, whole) = pair_takes (past is_xml_space cs) a rest g.1 in
    let s = front is_xml_space cs in
    let body = name ++ (left ++ (61 ∷ (right ++ value))) in
    (s ++ body, (s, name, left, right, value, front_passes is_xml_space cs, begins_front is_xml_space cs g.0, hn, hl, hr, hv, refl), sym (front_past is_xml_space cs) ∙ ap (λ (t : List ℕ). s ++ t) whole ∙ sym (append_assoc s body rest))

pub attributes_take : Takes attribute_at IsAttribute
attributes_take = record { spells = attribute_takes }

not_empty_is_long : (xs : List ℕ) → xs ≢ [] → 0 < length xs
not_empty_is_long [] h = absurd (h refl)
not_empty_is_long (x ∷ xs) h = omega arith

pub attributes_shrink : Shrinks attribute_at
attributes_shrink = record {
  shorter = λ cs a rest e.
      let t = attribute_takes cs a rest e in
      let (before, name, left, right, value, hb, long, hn, hl, hr, hv, whole) = t.1 in
      let n = not_empty_is_long before long in
      omega (arith, ap length t.2, length-append t.0 rest, ap length whole, length-append before (name ++ (left ++ (61 ∷ (right ++ value)))));
}

-- what begins with a space or a quote, and a name
begins_with_spaces : (s r : List ℕ) → AreSpaces s → s ≢ [] → begins is_xml_space (s ++ r) ≡ true
begins_with_spaces [] r h long = absurd (long refl)
begins_with_spaces (c ∷ s) r h long = (all_head is_xml_space c s h).0

space_is_no_start : (c : ℕ) → is_name_start c ≡ true → is_xml_space c ≡ false
space_is_no_start c h = elim (is_xml_space c) as (λ b. is_xml_space c ≡ b → b ≡ false) [
  | true ↦ λ e. absurd (let no_start = fails_at_space is_name_start (record { space = refl; tab = refl; feed = refl; return = refl }) c e in let both : true ≡ false = sym h ∙ no_start in cc)
  | false ↦ λ e. refl
] refl

name_is_no_space : (n : Name) (x r : List ℕ) → IsName n x → begins is_xml_space (x ++ r) ≡ false
name_is_no_space n x r h =
    let (c, cs, start, e) = name_first n x h in
    let split : x ++ r ≡ c ∷ (cs ++ r) = ap (λ (t : List ℕ). t ++ r) e in
    rw split (space_is_no_start c start)

value_is_no_space : (v x r : List ℕ) → IsValue v x → begins is_xml_space (x ++ r) ≡ false
value_is_no_space v x r h =
    let (q, y, quote, e) = value_first v x h in
    let split : x ++ r ≡ q ∷ (y ++ r) = ap (λ (t : List ℕ). t ++ r) e in
    rw split (elim (quote_is q quote) [ inl h ↦ rw h refl | inr h ↦ rw h refl ])

attribute_again : (a : Attribute) (x r : List ℕ) → IsAttribute a x → attribute_at (x ++ r) ≡ Some (a, r)
unfolding attribute_at pair_at
attribute_again a x r (before, name, left, right, value, hb, long, hn, hl, hr, hv, e) =
    let after = right ++ (value ++ r) in
    let behind = left ++ (61 ∷ after) in
    let split : x ++ r ≡ before ++ (name ++ behind) =
    ap (λ (t : List ℕ). t ++ r) e
    ∙ append_assoc before (name ++ (left ++ (61 ∷ (right ++ value)))) r
    ∙ ap (λ (t : List ℕ). before ++ t) (append_assoc name (left ++ (61 ∷ (right ++ value))) r ∙ ap (λ (t : List ℕ). name ++ t) (append_assoc left (61 ∷ (right ++ value)) r ∙ ap (λ (t : List ℕ). left ++ (61 ∷ t)) (append_assoc right value r))) in
    let begins-is = begins_with_spaces before (name ++ behind) hb long in
    let past-is = past_at is_xml_space before (name ++ behind) hb (name_is_no_space a.name name behind hn) in
    let name-is = name_before_spaces a.name name left (61 ∷ after) hn hl refl refl in
    let left-is = past_at is_xml_space left (61 ∷ after) hl refl in
    let right-is = past_at is_xml_space right (value ++ r) hr (value_is_no_space a.value value r hv) in
    let value-is = value_again a.value value r hv in
    rw (split, begins-is, past-is, name-is, left-is, right-is, value-is) refl

abbrev pub close_text : Bool → List ℕ
close_text true = codes "/>"
close_text false = codes ">"

close_takes : (cs : List ℕ) (b : Bool) (rest : List ℕ) → close_at cs ≡ Some (b, rest) → cs ≡ close_text b ++ rest
unfolding close_at
close_takes [] b rest e = absurd cc
close_takes (c ∷ cs) b rest e =
    elim (chosen (c == 62) (Some (false, cs)) (cond (c == 47) (past_one 62 cs >>= λ r. Some (true, r)) None) (Some (b, rest)) e) [
      | inl (is, f) ↦
          let same = eqb-true c 62 is in
          subst (λ (p : Bool × List ℕ). c ∷ cs ≡ close_text p.0 ++ p.1) (some_is (false, cs) (b, rest) f) (ap (λ (k : ℕ). k ∷ cs) same)
      | inr (is, f) ↦
          let g = chosen_some (c == 47) (past_one 62 cs >>= λ r. Some (true, r)) (b, rest) f in
          let same = eqb-true c 47 g.0 in
          let o = bind_some (past_one 62 cs) (λ r. Some (true, r)) (b, rest) g.1 in
          let close = past_one_cuts 62 cs o.0 o.1 in
          subst (λ (p : Bool × List ℕ). c ∷ cs ≡ close_text p.0 ++ p.1) (some_is (true, o.0) (b, rest) o.2) (ap (λ (k : ℕ). k ∷ cs) same ∙ ap (λ (t : List ℕ). 47 ∷ t) close)
    ]

close_again : (b : Bool) (r : List ℕ) → close_at (close_text b ++ r) ≡ Some (b, r)
unfolding close_at
close_again true r = refl
close_again false r = refl

abbrev Tagged : Bool → Tag → List ℕ → List ℕ → Type 0
Tagged b t cs rest = (x : List ℕ) × IsTag (close_text b) t (60 ∷ x) × (cs ≡ x ++ rest)

pub tag_takes : (cs : List ℕ) (t : Bool × Tag) (rest : List ℕ) → tag_at cs ≡ Some (t, rest) → Tagged t.0 t.1 cs rest
unfolding tag_at
tag_takes cs t rest e =
    let n = bind_some (name_at cs) (λ name. close_at (past is_xml_space (cuts attribute_at (length name.1) name.1).1) >>= λ close. cond (have_different_names (cuts attribute_at (length name.1) name.1).0) (Some ((close.0, record { name = name.0; attributes = (cuts attribute_at (length name.1) name.1).0 }), close.1)) None) (t, rest) e in
    let cut = cuts attribute_at (length n.0.1) n.0.1 in
    let tag : Tag = record { name = n.0.0; attributes = cut.0 } in
    let c = bind_some (close_at (past is_xml_space cut.1)) (λ close. cond (have_different_names cut.0) (Some ((close.0, tag), close.1)) None) (t, rest) n.2 in
    let g = chosen_some (have_different_names cut.0) (Some ((c.0.0, tag), c.0.1)) (t, rest) c.2 in
    let nt = name_takes cs n.0.0 n.0.1 n.1 in
    let attributes = cuts_spell attribute_at IsAttribute attributes_take (length n.0.1) n.0.1 in
    let spaces = spaces_parts cut.1 (past is_xml_space cut.1) refl in
    let close = close_takes (past is_xml_space cut.1) c.0.0 c.0.1 c.1 in
    let r = c.0.1 in
    let ending = close_text c.0.0 in
    let whole : cs ≡ (nt.0 ++ (attributes.0 ++ (spaces.0 ++ ending))) ++ r =
    nt.2 ∙ ap (λ (u : List ℕ). nt.0 ++ u) (attributes.2 ∙ ap (λ (u : List ℕ). attributes.0 ++ u) (spaces.2 ∙ ap (λ (u : List ℕ). spaces.0 ++ u) close ∙ sym (append_assoc spaces.0 ending r)) ∙ sym (append_assoc attributes.0 (spaces.0 ++ ending) r))
    ∙ sym (append_assoc nt.0 (attributes.0 ++ (spaces.0 ++ ending)) r) in
    subst (λ (p : (Bool × Tag) × List ℕ). Tagged p.0.0 p.0.1 cs p.1) (some_is ((c.0.0, tag), r) (t, rest) g.1) (nt.0 ++ (attributes.0 ++ (spaces.0 ++ ending)), (nt.0, attributes.0, spaces.0, nt.1, attributes.1, g.0, spaces.1, refl), whole)

-- no attribute begins at what closes a tag
no_pair_at_close : (b : Bool) (r : List ℕ) → pair_at (close_text b ++ r) ≡ None
unfolding pair_at name_at local_at
no_pair_at_close true r = refl
no_pair_at_close false r = refl

close_is_no_space : (b : Bool) (r : List ℕ) → begins is_xml_space (close_text b ++ r) ≡ false
close_is_no_space true r = refl
close_is_no_space false r = refl

attributes_end : (b : Bool) (s r : List ℕ) → AreSpaces s → attribute_at (s ++ (close_text b ++ r)) ≡ None
unfolding attribute_at
attributes_end b s r h =
    let past-is = past_at is_xml_space s (close_text b ++ r) h (close_is_no_space b r) in
    elim (begins is_xml_space (s ++ (close_text b ++ r))) as (λ k. cond k (pair_at (past is_xml_space (s ++ (close_text b ++ r)))) None ≡ None) [
      | true ↦ rw past-is (no_pair_at_close b r)
      | false ↦ refl
    ]

close_fails : (p : ℕ → Bool) (b : Bool) (r : List ℕ) → p 47 ≡ false → p 62 ≡ false → begins p (close_text b ++ r) ≡ false
close_fails p true r slash greater = slash
close_fails p false r slash greater = greater

-- behind a tag's name
behind_name : (p : ℕ → Bool) (f : FailsAtSpaces p) (attributes : List Attribute) (x s r : List ℕ) (b : Bool) → p 47 ≡ false → p 62 ≡ false → Spelled IsAttribute attributes x → AreSpaces s → begins p (x ++ (s ++ (close_text b ++ r))) ≡ false
behind_name p f [] x s r b slash greater h spaces =
    let split : x ++ (s ++ (close_text b ++ r)) ≡ s ++ (close_text b ++ r) = ap (λ (t : List ℕ). t ++ (s ++ (close_text b ++ r))) h in
    rw split (spaces_fail p f s (close_text b ++ r) spaces (close_fails p b r slash greater))
behind_name p f (a ∷ others) x s r b slash greater (y, z, (before, name, left, right, value, hb, long, hn, hl, hr, hv, whole), q, e) spaces =
    let tail = s ++ (close_text b ++ r) in
    let body = name ++ (left ++ (61 ∷ (right ++ value))) in
    let split : x ++ tail ≡ before ++ (body ++ (z ++ tail)) = ap (λ (t : List ℕ). t ++ tail) (e ∙ ap (λ (t : List ℕ). t ++ z) whole) ∙ append_assoc (before ++ body) z tail ∙ append_assoc before body (z ++ tail) in
    rw split (spaces_first p f before (body ++ (z ++ tail)) hb long)
  where
    spaces_first : (p : ℕ → Bool) → FailsAtSpaces p → (s r : List ℕ) → AreSpaces s → s ≢ [] → begins p (s ++ r) ≡ false
    spaces_first p f [] r h long = absurd (long refl)
    spaces_first p f (c ∷ s) r h long = fails_at_space p f c (all_head is_xml_space c s h).0

pub tag_again : (b : Bool) (t : Tag) (x r : List ℕ) → IsTag (close_text b) t (60 ∷ x) → tag_at (x ++ r) ≡ Some ((b, t), r)
unfolding tag_at
tag_again b t x r (name, attributes, s, hn, ha, differ, hs, e) =
    let tail = s ++ (close_text b ++ r) in
    let e' : x ≡ name ++ (attributes ++ (s ++ close_text b)) = cc in
    let split : x ++ r ≡ name ++ (attributes ++ tail) =
    ap (λ (u : List ℕ). u ++ r) e' ∙ append_assoc name (attributes ++ (s ++ close_text b)) r ∙ ap (λ (u : List ℕ). name ++ u) (append_assoc attributes (s ++ close_text b) r ∙ ap (λ (u : List ℕ). attributes ++ u) (append_assoc s (close_text b) r)) in
    let name-is = name_again t.name name (attributes ++ tail) hn (behind_name is_name_char no_name_at_spaces t.attributes attributes s r b refl refl ha hs) (behind_name is_colon no_colon_at_spaces t.attributes attributes s r b refl refl ha hs) in
    let again : Again attribute_at IsAttribute tail = record { reads = λ a y others z p spelled. attribute_again a y (z ++ tail) p } in
    let cut = cuts_spelled attribute_at attributes_shrink IsAttribute tail again (attributes_end b s r hs) t.attributes attributes ha in
    let past-is = past_at is_xml_space s (close_text b ++ r) hs (close_is_no_space b r) in
    rw (split, name-is, cut, past-is, close_again b r, differ) refl

pub end_takes : (cs : List ℕ) (p : Piece) (rest : List ℕ) → end_at cs ≡ Some (p, rest) → (x : List ℕ) × IsPiece p (60 ∷ (47 ∷ x)) × (cs ≡ x ++ rest)
unfolding end_at
end_takes cs p rest e =
    let n = bind_some (name_at cs) (λ name. past_one 62 (past is_xml_space name.1) >>= λ r. Some (End name.0, r)) (p, rest) e in
    let o = bind_some (past_one 62 (past is_xml_space n.0.1)) (λ r. Some (End n.0.0, r)) (p, rest) n.2 in
    let nt = name_takes cs n.0.0 n.0.1 n.1 in
    let spaces = spaces_parts n.0.1 (past is_xml_space n.0.1) refl in
    let close = past_one_cuts 62 (past is_xml_space n.0.1) o.0 o.1 in
    let whole : cs ≡ (nt.0 ++ (spaces.0 ++ (62 ∷ []))) ++ o.0 = nt.2 ∙ ap (λ (u : List ℕ). nt.0 ++ u) (spaces.2 ∙ ap (λ (u : List ℕ). spaces.0 ++ u) close ∙ sym (append_assoc spaces.0 (62 ∷ []) o.0)) ∙ sym (append_assoc nt.0 (spaces.0 ++ (62 ∷ [])) o.0) in
    let goal : Piece × List ℕ → Type 0 = λ q. (x : List ℕ) × IsPiece q.0 (60 ∷ (47 ∷ x)) × (cs ≡ x ++ q.1) in
    subst goal (some_is (End n.0.0, o.0) (p, rest) o.2) (nt.0 ++ (spaces.0 ++ (62 ∷ [])), (nt.0, spaces.0, nt.1, spaces.1, refl), whole)

pub end_again : (n : Name) (name s r : List ℕ) → IsName n name → AreSpaces s → end_at ((name ++ (s ++ (62 ∷ []))) ++ r) ≡ Some (End n, r)
unfolding end_at
end_again n name s r hn hs =
    let split : (name ++ (s ++ (62 ∷ []))) ++ r ≡ name ++ (s ++ (62 ∷ r)) = append_assoc name (s ++ (62 ∷ [])) r ∙ ap (λ (u : List ℕ). name ++ u) (append_assoc s (62 ∷ []) r) in
    let name-is = name_before_spaces n name s (62 ∷ r) hn hs refl refl in
    let past-is = past_at is_xml_space s (62 ∷ r) hs refl in
    rw (split, name-is, past-is) refl
