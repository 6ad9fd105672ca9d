-- A piece that is read is spelled so, and a piece that is spelled is read.
use Rattle.std.proofs.Common.{◌≡◌, ℕ, ◌+◌, Bool, true, false, cond, ◌&&◌, not, ◌==◌, nat_eq, List, [], ◌∷◌, ◌++◌, length, take, drop, Option, Some, None, refl, sym, ap, subst, ◌∙◌, arith, inl, inr, append_assoc}
use Rattle.std.specs.Prelude.{option_map, Result, Ok, Err, IfOk, IsErrOf}
use Rattle.rosa_pieces.specs.declared.unread.Unread.{Unread}
use Rattle.rosa_pieces.specs.declared.unread.Unread.TheVariants.{Absent, NoMemory}
use Rattle.std.specs.List.{list_all, starts_with}
use Rattle.std.proofs.lemmas.Bool.{eqb-true, eq-eqb, and_parts, not-true}
use Rattle.std.proofs.lemmas.Bool.Decides.{Decides-eqb}
use Rattle.std.proofs.lemmas.Slice.Eq.{starts_is}
use Rattle.std.proofs.lemmas.List.{length-append, take_at, drop_at, append_cancel_right}
use Rattle.field_text.specs.Xml.{is_xml_char, is_name_start}
use Rattle.rosa_pieces.specs.declared.piece.Tag.{Tag}
use Rattle.rosa_pieces.specs.declared.piece.CharData.{CharData}
use Rattle.rosa_pieces.specs.declared.piece.CharData.TheVariants.{Literal, Reference}
use Rattle.rosa_pieces.specs.declared.piece.Piece.{Piece}
use Rattle.rosa_pieces.specs.declared.piece.Piece.TheVariants.{Start, Empty, End, Comment, Instruction, Data}
use Rattle.rosa_pieces.specs.Pieces.{begins, lacks_pair, IsTag, IsPiece, IsCharData}
use Rattle.rosa_pieces.specs.Reading.{◌>>=◌, Gives, data_at, tag_at, tag_piece, tag_piece_at, end_at, until, skipped_at, comment_at, markup_at, piece_at}
use Rattle.rosa_pieces.proofs.Fronts.{all_head}
use Rattle.rosa_pieces.proofs.Steps.{bind_some, chosen_some, chosen, some_is, apart, none_is_not_some, literal_parts}
use Rattle.rosa_pieces.proofs.NameLaws.{name_first}
use Rattle.rosa_pieces.proofs.DataLaws.{data_takes, data_again}
use Rattle.rosa_pieces.proofs.TagLaws.{close_text, tag_takes, tag_again, end_takes, end_again}

-- what begins with a mark
starts_parts : (s p : List ℕ) → starts_with nat_eq s p ≡ true → s ≡ p ++ drop (length p) s
starts_parts s p h = (starts_is Decides-eqb s p (starts_with nat_eq s p) refl).0 h

starts_not : (s p : List ℕ) → ((rest : List ℕ) → s ≡ p ++ rest → ⊥) → starts_with nat_eq s p ≡ false
starts_not s p h = elim (starts_with nat_eq s p) as (λ b. starts_with nat_eq s p ≡ b → b ≡ false) [ true ↦ λ e. absurd (h (drop (length p) s) (starts_parts s p e)) | false ↦ λ e. refl ] refl

map_some : (o : Option ℕ) (n : ℕ) → option_map (λ k. k + 1) o ≡ Some n → (m : ℕ) × (o ≡ Some m) × (n ≡ m + 1)
map_some None n e = absurd cc
map_some (Some m) n e = (m, refl, cc)

all_cons : (p : ℕ → Bool) (c : ℕ) (cs : List ℕ) → p c ≡ true → list_all p cs ≡ true → list_all p (c ∷ cs) ≡ true
all_cons p c cs h k = rw (h, k) refl

-- what stands before a mark, and the mark
pub until_takes : (close cs : List ℕ) (n : ℕ) → until close cs ≡ Some n → (inside : List ℕ) × (rest : List ℕ) × (length inside ≡ n) × (list_all is_xml_char inside ≡ true) × (cs ≡ inside ++ (close ++ rest))
unfolding until
until_takes close [] n e = absurd cc
until_takes close (c ∷ cs) n e =
    elim (chosen (starts_with nat_eq (c ∷ cs) close) (Some 0) (cond (is_xml_char c) (option_map (λ k. k + 1) (until close cs)) None) (Some n) e) [
      | inl (is, f) ↦ ([], drop (length close) (c ∷ cs), cc, refl, starts_parts (c ∷ cs) close is)
      | inr (is, f) ↦
          let g = chosen_some (is_xml_char c) (option_map (λ k. k + 1) (until close cs)) n f in
          let m = map_some (until close cs) n g.1 in
          let (inside, rest, len, all, whole) = until_takes close cs m.0 m.1 in
          let len' : length (c ∷ inside) ≡ n = omega arith in
          let all' = all_cons is_xml_char c inside g.0 all in
          (c ∷ inside, rest, len', all', ap (λ (t : List ℕ). c ∷ t) whole)
    ]

abbrev Skipped : Piece → List ℕ → ℕ → ℕ → List ℕ → Piece → List ℕ → Type 0
Skipped piece close a b cs p rest = (p ≡ piece) × (inside : List ℕ) × (list_all is_xml_char inside ≡ true) × (lacks_pair a b inside ≡ true) × (cs ≡ inside ++ (close ++ rest))

skipped_takes : (piece : Piece) (close : List ℕ) (a b : ℕ) (cs : List ℕ) (p : Piece) (rest : List ℕ) → skipped_at piece close a b cs ≡ Some (p, rest) → Skipped piece close a b cs p rest
unfolding skipped_at
skipped_takes piece close a b cs p rest e =
    let u = bind_some (until close cs) (λ n. cond (lacks_pair a b (take n cs)) (Some (piece, drop (n + length close) cs)) None) (p, rest) e in
    let g = chosen_some (lacks_pair a b (take u.0 cs)) (Some (piece, drop (u.0 + length close) cs)) (p, rest) u.2 in
    let (inside, r, len, all, whole) = until_takes close cs u.0 u.1 in
    let front-is : take u.0 cs ≡ inside = ap (take u.0) whole ∙ take_at inside (close ++ r) u.0 len in
    let regrouped : cs ≡ (inside ++ close) ++ r = whole ∙ sym (append_assoc inside close r) in
    let n-is : length (inside ++ close) ≡ u.0 + length close = omega (arith, length-append inside close) in
    let back-is : drop (u.0 + length close) cs ≡ r = ap (drop (u.0 + length close)) regrouped ∙ drop_at (inside ++ close) r (u.0 + length close) n-is in
    let same = some_is (piece, drop (u.0 + length close) cs) (p, rest) g.1 in
    let p-is : p ≡ piece = sym (ap (λ (x : Piece × List ℕ). x.0) same) in
    let r-is : r ≡ rest = sym back-is ∙ ap (λ (x : Piece × List ℕ). x.1) same in
    let lacks : lacks_pair a b inside ≡ true = rw (← front-is) g.0 in
    (p-is, inside, all, lacks, whole ∙ ap (λ (t : List ℕ). inside ++ (close ++ t)) r-is)

skipped_again : (piece : Piece) (close : List ℕ) (a b : ℕ) (inside r : List ℕ) → lacks_pair a b inside ≡ true → until close (inside ++ (close ++ r)) ≡ Some (length inside) → skipped_at piece close a b (inside ++ (close ++ r)) ≡ Some (piece, r)
unfolding skipped_at
skipped_again piece close a b inside r lacks found =
    let front-is = take_at inside (close ++ r) (length inside) refl in
    let n-is : length (inside ++ close) ≡ length inside + length close = omega (arith, length-append inside close) in
    let back-is : drop (length inside + length close) (inside ++ (close ++ r)) ≡ r = ap (drop (length inside + length close)) (sym (append_assoc inside close r)) ∙ drop_at (inside ++ close) r (length inside + length close) n-is in
    rw (found, front-is, lacks, back-is) refl

abbrev instruction_close : List ℕ
instruction_close = 63 ∷ (62 ∷ [])

abbrev comment_close : List ℕ
comment_close = 45 ∷ (45 ∷ (62 ∷ []))

lacks_head : (a b c : ℕ) (cs : List ℕ) → lacks_pair a b (c ∷ cs) ≡ true → ((c == a) && begins (λ d. d == b) cs ≡ false) × (lacks_pair a b cs ≡ true)
lacks_head a b c cs h = let g = and_parts (not ((c == a) && begins (λ d. d == b) cs)) (lacks_pair a b cs) h in (not-true ((c == a) && begins (λ d. d == b) cs) g.0, g.1)

no_instruction_end : (c : ℕ) (cs r rest : List ℕ) → (c == 63) && begins (λ d. d == 62) cs ≡ false → c ∷ (cs ++ (63 ∷ (62 ∷ r))) ≡ 63 ∷ (62 ∷ rest) → ⊥
no_instruction_end c [] r rest lacks e = let bad : ◌≡◌ {A = ℕ} 63 62 = cc in absurd (omega (arith, bad))
no_instruction_end c (d ∷ cs) r rest lacks e =
    let first : c ≡ 63 = cc in
    let second : d ≡ 62 = cc in
    let a : (c == 63) ≡ true = eq-eqb c 63 first in
    let b : (d == 62) ≡ true = eq-eqb d 62 second in
    let both : (c == 63) && (d == 62) ≡ true = rw (a, b) refl in
    absurd (let bad : true ≡ false = sym both ∙ lacks in cc)

until_instruction : (inside r : List ℕ) → list_all is_xml_char inside ≡ true → lacks_pair 63 62 inside ≡ true → until instruction_close (inside ++ (instruction_close ++ r)) ≡ Some (length inside)
unfolding until
until_instruction [] r all lacks = refl
until_instruction (c ∷ cs) r all lacks =
    let h = lacks_head 63 62 c cs lacks in
    let a = all_head is_xml_char c cs all in
    let not-here = starts_not (c ∷ (cs ++ (instruction_close ++ r))) instruction_close (λ rest e. no_instruction_end c cs r rest h.0 e) in
    let next = until_instruction cs r a.1 h.1 in
    let n : length cs + 1 ≡ length (c ∷ cs) = omega arith in
    rw (not-here, a.0, next) (ap (λ (k : ℕ). Some k) n)

no_comment_end : (c : ℕ) (cs r rest : List ℕ) → (c == 45) && begins (λ d. d == 45) cs ≡ false → c ∷ (cs ++ (45 ∷ (45 ∷ (62 ∷ r)))) ≡ 45 ∷ (45 ∷ (62 ∷ rest)) → ⊥
no_comment_end c [] r rest lacks e = let bad : ◌≡◌ {A = ℕ} 45 62 = cc in absurd (omega (arith, bad))
no_comment_end c (d ∷ cs) r rest lacks e =
    let first : c ≡ 45 = cc in
    let second : d ≡ 45 = cc in
    let a : (c == 45) ≡ true = eq-eqb c 45 first in
    let b : (d == 45) ≡ true = eq-eqb d 45 second in
    let both : (c == 45) && (d == 45) ≡ true = rw (a, b) refl in
    absurd (let bad : true ≡ false = sym both ∙ lacks in cc)

until_comment : (inside r : List ℕ) → list_all is_xml_char inside ≡ true → lacks_pair 45 45 inside ≡ true → until comment_close (inside ++ (comment_close ++ r)) ≡ Some (length inside)
unfolding until
until_comment [] r all lacks = refl
until_comment (c ∷ cs) r all lacks =
    let h = lacks_head 45 45 c cs lacks in
    let a = all_head is_xml_char c cs all in
    let not-here = starts_not (c ∷ (cs ++ (comment_close ++ r))) comment_close (λ rest e. no_comment_end c cs r rest h.0 e) in
    let next = until_comment cs r a.1 h.1 in
    let n : length cs + 1 ≡ length (c ∷ cs) = omega arith in
    rw (not-here, a.0, next) (ap (λ (k : ℕ). Some k) n)

abbrev pub PieceFront : Piece → List ℕ → List ℕ → Type 0
PieceFront p cs rest = (x : List ℕ) × IsPiece p x × (cs ≡ x ++ rest)

comment_takes : (cs : List ℕ) (p : Piece) (rest : List ℕ) → comment_at cs ≡ Some (p, rest) → PieceFront p (60 ∷ (33 ∷ cs)) rest
unfolding comment_at
comment_takes [] p rest e = absurd cc
comment_takes (c ∷ []) p rest e = absurd cc
comment_takes (c ∷ d ∷ cs) p rest e =
    let g = chosen_some ((c == 45) && (d == 45)) (skipped_at Comment comment_close 45 45 cs) (p, rest) e in
    let t = and_parts (c == 45) (d == 45) g.0 in
    let (p-is, inside, all, lacks, whole) = skipped_takes Comment comment_close 45 45 cs p rest g.1 in
    let x = 60 ∷ (33 ∷ (45 ∷ (45 ∷ (inside ++ comment_close)))) in
    let spelled : IsPiece Comment x = (inside, all, lacks, refl) in
    let opening : 60 ∷ (33 ∷ (c ∷ (d ∷ cs))) ≡ 60 ∷ (33 ∷ (45 ∷ (45 ∷ cs))) = ap (λ (k : ℕ). 60 ∷ (33 ∷ (k ∷ (d ∷ cs)))) (eqb-true c 45 t.0) ∙ ap (λ (k : ℕ). 60 ∷ (33 ∷ (45 ∷ (k ∷ cs)))) (eqb-true d 45 t.1) in
    rw p-is (x, spelled, opening ∙ ap (λ (u : List ℕ). 60 ∷ (33 ∷ (45 ∷ (45 ∷ u)))) (whole ∙ sym (append_assoc inside comment_close rest)))

instruction_takes : (cs : List ℕ) (p : Piece) (rest : List ℕ) → skipped_at Instruction instruction_close 63 62 cs ≡ Some (p, rest) → PieceFront p (60 ∷ (63 ∷ cs)) rest
instruction_takes cs p rest e =
    let (p-is, inside, all, lacks, whole) = skipped_takes Instruction instruction_close 63 62 cs p rest e in
    let x = 60 ∷ (63 ∷ (inside ++ instruction_close)) in
    let spelled : IsPiece Instruction x = (inside, all, lacks, refl) in
    rw p-is (x, spelled, ap (λ (u : List ℕ). 60 ∷ (63 ∷ u)) (whole ∙ sym (append_assoc inside instruction_close rest)))

tag_is_piece : (b : Bool) (t : Tag) (x : List ℕ) → IsTag (close_text b) t x → IsPiece (tag_piece (b, t)) x
tag_is_piece true t x h = h
tag_is_piece false t x h = h

tag_piece_takes : (cs : List ℕ) (p : Piece) (rest : List ℕ) → tag_piece_at cs ≡ Some (p, rest) → PieceFront p (60 ∷ cs) rest
unfolding tag_piece_at
tag_piece_takes cs p rest e =
    let t = bind_some (tag_at cs) (λ t. Some (tag_piece t.0, t.1)) (p, rest) e in
    let (x, h, whole) = tag_takes cs t.0.0 t.0.1 t.1 in
    let spelled = tag_is_piece t.0.0.0 t.0.0.1 (60 ∷ x) h in
    subst (λ (q : Piece × List ℕ). PieceFront q.0 (60 ∷ cs) q.1) (some_is (tag_piece t.0.0, t.0.1) (p, rest) t.2) (60 ∷ x, spelled, ap (λ (u : List ℕ). 60 ∷ u) whole)

markup_takes : (cs : List ℕ) (p : Piece) (rest : List ℕ) → markup_at cs ≡ Some (p, rest) → PieceFront p (60 ∷ cs) rest
unfolding markup_at
markup_takes [] p rest e = absurd cc
markup_takes (c ∷ cs) p rest e =
    elim (chosen (c == 47) (end_at cs) (cond (c == 33) (comment_at cs) (cond (c == 63) (skipped_at Instruction instruction_close 63 62 cs) (tag_piece_at (c ∷ cs)))) (Some (p, rest)) e) [
      | inl (is, f) ↦
          let t = end_takes cs p rest f in
          rw (eqb-true c 47 is) (60 ∷ (47 ∷ t.0), t.1, ap (λ (u : List ℕ). 60 ∷ (47 ∷ u)) t.2)
      | inr (is, f) ↦ elim (chosen (c == 33) (comment_at cs) (cond (c == 63) (skipped_at Instruction instruction_close 63 62 cs) (tag_piece_at (c ∷ cs))) (Some (p, rest)) f) [
        | inl (is, g) ↦ rw (eqb-true c 33 is) (comment_takes cs p rest g)
        | inr (is, g) ↦ elim (chosen (c == 63) (skipped_at Instruction instruction_close 63 62 cs) (tag_piece_at (c ∷ cs)) (Some (p, rest)) g) [
          | inl (is, h) ↦ rw (eqb-true c 63 is) (instruction_takes cs p rest h)
          | inr (is, h) ↦ tag_piece_takes (c ∷ cs) p rest h
        ]
      ]
    ]

pub piece_takes : (cs : List ℕ) (p : Piece) (rest : List ℕ) → piece_at cs ≡ Some (p, rest) → PieceFront p cs rest
unfolding piece_at
piece_takes [] p rest e = absurd cc
piece_takes (c ∷ cs) p rest e =
    elim (chosen (c == 60) (markup_at cs) (data_at (c ∷ cs) >>= λ d. Some (Data d.0, d.1)) (Some (p, rest)) e) [
      | inl (is, f) ↦ rw (eqb-true c 60 is) (markup_takes cs p rest f)
      | inr (is, f) ↦
          let d = bind_some (data_at (c ∷ cs)) (λ d. Some (Data d.0, d.1)) (p, rest) f in
          let t = data_takes (c ∷ cs) d.0.0 d.0.1 d.1 in
          subst (λ (q : Piece × List ℕ). PieceFront q.0 (c ∷ cs) q.1) (some_is (Data d.0.0, d.0.1) (p, rest) d.2) t
    ]

-- ---- what is spelled is read

data_is_no_markup : (d : CharData) (x r : List ℕ) → IsCharData d x → piece_at (x ++ r) ≡ (data_at (x ++ r) >>= λ d. Some (Data d.0, d.1))
unfolding piece_at
data_is_no_markup (Literal c) x r (lit, e) =
    let split : x ++ r ≡ c ∷ r = ap (λ (t : List ℕ). t ++ r) e in
    let parts = literal_parts c lit in
    rw (split, parts.1) refl
data_is_no_markup (Reference c) x r (inside, all, is, e) =
    let split : x ++ r ≡ 38 ∷ ((inside ++ (59 ∷ [])) ++ r) = ap (λ (t : List ℕ). t ++ r) e in
    rw split refl

tag_is_no_other : (c : ℕ) (cs : List ℕ) → is_name_start c ≡ true → markup_at (c ∷ cs) ≡ tag_piece_at (c ∷ cs)
unfolding markup_at
tag_is_no_other c cs h = rw (apart is_name_start 47 c refl h, apart is_name_start 33 c refl h, apart is_name_start 63 c refl h) refl

tag_piece_again : (b : Bool) (t : Tag) (x r : List ℕ) → IsTag (close_text b) t x → piece_at (x ++ r) ≡ Some (tag_piece (b, t), r)
unfolding piece_at tag_piece_at
tag_piece_again b t x r (name, attributes, s, hn, ha, differ, hs, e) =
    let y = name ++ (attributes ++ (s ++ close_text b)) in
    let (c, cs, start, name-is) = name_first t.name name hn in
    let split : x ++ r ≡ 60 ∷ (y ++ r) = ap (λ (u : List ℕ). u ++ r) e in
    let first : y ++ r ≡ c ∷ (cs ++ ((attributes ++ (s ++ close_text b)) ++ r)) = append_assoc name (attributes ++ (s ++ close_text b)) r ∙ ap (λ (u : List ℕ). u ++ ((attributes ++ (s ++ close_text b)) ++ r)) name-is in
    let read = tag_again b t y r (name, attributes, s, hn, ha, differ, hs, refl) in
    let tagged : tag_piece_at (y ++ r) ≡ Some (tag_piece (b, t), r) = rw read refl in
    let dispatched : markup_at (y ++ r) ≡ tag_piece_at (y ++ r) = rw first (tag_is_no_other c (cs ++ ((attributes ++ (s ++ close_text b)) ++ r)) start) in
    rw split (dispatched ∙ tagged)

pub piece_again : (p : Piece) (x r : List ℕ) → IsPiece p x → piece_at (x ++ r) ≡ Some (p, r)
unfolding piece_at markup_at comment_at
piece_again (Start t) x r h = tag_piece_again false t x r h
piece_again (Empty t) x r h = tag_piece_again true t x r h
piece_again (End n) x r (name, s, hn, hs, e) =
    let split : x ++ r ≡ 60 ∷ (47 ∷ ((name ++ (s ++ (62 ∷ []))) ++ r)) = ap (λ (u : List ℕ). u ++ r) e in
    rw split (end_again n name s r hn hs)
piece_again Comment x r (inside, all, lacks, e) =
    let split : x ++ r ≡ 60 ∷ (33 ∷ (45 ∷ (45 ∷ (inside ++ (comment_close ++ r))))) = ap (λ (u : List ℕ). u ++ r) e ∙ ap (λ (u : List ℕ). 60 ∷ (33 ∷ (45 ∷ (45 ∷ u)))) (append_assoc inside comment_close r) in
    rw split (skipped_again Comment comment_close 45 45 inside r lacks (until_comment inside r all lacks))
piece_again Instruction x r (inside, all, lacks, e) =
    let split : x ++ r ≡ 60 ∷ (63 ∷ (inside ++ (instruction_close ++ r))) = ap (λ (u : List ℕ). u ++ r) e ∙ ap (λ (u : List ℕ). 60 ∷ (63 ∷ u)) (append_assoc inside instruction_close r) in
    rw split (skipped_again Instruction instruction_close 63 62 inside r lacks (until_instruction inside r all lacks))
piece_again (Data d) x r h = data_is_no_markup d x r h ∙ ap (λ (o : Option (CharData × List ℕ)). o >>= λ d. Some (Data d.0, d.1)) (data_again d x r h)

-- one piece begins at one place at most
pub one_piece : (p q : Piece) (x y r s : List ℕ) → IsPiece p x → IsPiece q y → x ++ r ≡ y ++ s → (p ≡ q) × (x ≡ y) × (r ≡ s)
one_piece p q x y r s hp hq e =
    let a = piece_again p x r hp in
    let b = piece_again q y s hq in
    let same = some_is (p, r) (q, s) (sym a ∙ ap piece_at e ∙ b) in
    let rest-is : r ≡ s = ap (λ (z : Piece × List ℕ). z.1) same in
    (ap (λ (z : Piece × List ℕ). z.0) same, append_cancel_right x y s (ap (λ (z : List ℕ). x ++ z) (sym rest-is) ∙ e), rest-is)

pub no_piece : (cs : List ℕ) → piece_at cs ≡ None → (p : Piece) (x r : List ℕ) → IsPiece p x → cs ≡ x ++ r → ⊥
no_piece cs e p x r h whole =
    let a : piece_at cs ≡ Some (p, r) = ap piece_at whole ∙ piece_again p x r h in
    none_is_not_some (p, r) (sym e ∙ a)

-- what a reader of pieces gave
pub found_piece : {B : Type 0} (now : B → List ℕ) (cs : List ℕ) (r : Result (Piece × B) Unread) → Gives (λ x. (x.0, now x.1)) r (piece_at cs) → IfOk r (λ x. (s : List ℕ) × IsPiece x.0 s × (cs ≡ s ++ now x.1))
found_piece now cs (Ok x) h = piece_takes cs x.0 (now x.1) h
found_piece now cs (Err e) h = tt

pub absent_piece : {B : Type 0} (now : B → List ℕ) (cs : List ℕ) (r : Result (Piece × B) Unread) → Gives (λ x. (x.0, now x.1)) r (piece_at cs) → IsErrOf r Absent → (p : Piece) (x rest : List ℕ) → IsPiece p x → cs ≡ x ++ rest → ⊥
absent_piece now cs (Ok y) h is p x rest = absurd cc
absent_piece now cs (Err Absent) h is p x rest = no_piece cs h p x rest
absent_piece now cs (Err NoMemory) h is p x rest = absurd cc
