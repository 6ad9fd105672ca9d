-- The reader's stack holds what the pieces so far are, and reads each document.
use Rattle.std.proofs.Common.{◌≡◌, ℕ, ◌+◌, ◌<◌, ◌≤◌, Bool, true, false, cond, ◌&&◌, List, [], ◌∷◌, ◌++◌, length, Option, Some, None, refl, sym, ap, subst, ◌∙◌, arith, append_assoc}
use Rattle.std.specs.Prelude.{count_by}
use Rattle.std.specs.List.{list_all}
use Rattle.std.proofs.lemmas.Bool.{and_parts}
use Rattle.std.proofs.lemmas.List.{append-nil}
use Rattle.std.proofs.lemmas.List.Sums.{sum_by-cons}
use Rattle.rosa_pieces.specs.declared.piece.Name.{Name}
use Rattle.rosa_pieces.specs.declared.piece.Tag.{Tag}
use Rattle.rosa_pieces.specs.declared.piece.Piece.{Piece}
use Rattle.rosa_pieces.specs.declared.piece.Piece.TheVariants.{Start, Empty, End, Comment, Instruction, Data}
use Rattle.rosa_pieces.specs.Pieces.{same_name}
use Rattle.rosa_doc.specs.declared.tree.Element.{Element}
use Rattle.rosa_doc.specs.declared.tree.Node.{Node}
use Rattle.rosa_doc.specs.Documents.{element_of, is_return_piece, ends_in_return, IsContent, IsElement, nothing, comment, instruction, character, empty, element, empty_tag, tags, is_around, IsDocument}
use Rattle.rosa_doc.specs.Refusals.{BeginDocument, is_start, is_end, opens, depth}
use Rattle.rosa_doc.specs.Machine.{Level, State, Before, Within, After, opened, closed, with_child, with_char, leave, step_around, step, next, run, depth_of}
use Rattle.rosa_doc.proofs.Names.{same_names, name_alike}

abbrev some : {A : Type 0} → A → Option A
some x = Some x

some_is : {A : Type 0} (x y : A) → some x ≡ some y → x ≡ y
some_is x y e = cc

chosen_some : {A : Type 0} (b : Bool) (x y : A) → cond b (some x) None ≡ some y → (b ≡ true) × (x ≡ y)
chosen_some true x y e = (refl, cc)
chosen_some false x y e = absurd cc

-- ---- the last piece

pub ends_behind : (xs : List Piece) (p : Piece) (ps : List Piece) → is_return_piece p ≡ false → ends_in_return (xs ++ (p ∷ ps)) ≡ ends_in_return ps
ends_behind [] p [] h = h
ends_behind [] p (q ∷ ps) h = refl
ends_behind (x ∷ []) p ps h = ends_behind [] p ps h
ends_behind (x ∷ y ∷ xs) p ps h = ends_behind (y ∷ xs) p ps h

pub ends_last : (xs : List Piece) (p : Piece) → ends_in_return (xs ++ (p ∷ [])) ≡ is_return_piece p
ends_last [] p = refl
ends_last (x ∷ []) p = refl
ends_last (x ∷ y ∷ xs) p = ends_last (y ∷ xs) p

all_snoc : (xs : List Piece) (p : Piece) → list_all is_around xs ≡ true → is_around p ≡ true → list_all is_around (xs ++ (p ∷ [])) ≡ true
all_snoc [] p h k = rw k refl
all_snoc (x ∷ xs) p h k =
    elim (is_around x) as (λ b. b && list_all is_around xs ≡ true → b && list_all is_around (xs ++ (p ∷ [])) ≡ true) [
      | true ↦ λ rest. all_snoc xs p rest k
      | false ↦ λ rest. absurd cc
    ] h

-- ---- what the stack holds

-- the pieces open these levels, the innermost first
abbrev pub Opens : List Level → List Piece → Type 0
Opens [] ps = list_all is_around ps ≡ true
Opens (l ∷ outer) ps = (outside : List Piece) × (inside : List Piece) × Opens outer outside × IsContent inside l.children l.words × (ps ≡ outside ++ (Start l.tag ∷ inside))

abbrev pub Holds : State → List Piece → Type 0
Holds Before ps = Opens [] ps
Holds (Within top outer) ps = Opens (top ∷ outer) ps
Holds (After root) ps = IsDocument ps root

regroup : (outside : List Piece) (p : Piece) (inside : List Piece) (q : Piece) (ps : List Piece) → ps ≡ outside ++ (p ∷ inside) → ps ++ (q ∷ []) ≡ outside ++ (p ∷ (inside ++ (q ∷ [])))
regroup outside p inside q ps e = ap (λ (x : List Piece). x ++ (q ∷ [])) e ∙ append_assoc outside (p ∷ inside) (q ∷ [])

leaves : (top : Level) (outer : List Level) (ps : List Piece) → Opens (top ∷ outer) ps → Holds (leave (closed top) outer) (ps ++ (End top.tag.name ∷ []))
leaves top [] ps (outside, inside, around, content, e) =
    record {
      before = outside;
      inside = Start top.tag ∷ (inside ++ (End top.tag.name ∷ []));
      after = [];
      before_is = around;
      inside_is = tags top.tag inside top.children top.words content;
      after_is = refl;
      parts = regroup outside (Start top.tag) inside (End top.tag.name) ps e ∙ ap (λ (x : List Piece). outside ++ x) (sym (append-nil (Start top.tag ∷ (inside ++ (End top.tag.name ∷ [])))));
    }
leaves top (o ∷ others) ps (outside, inside, (beyond, within, opens, held, f), content, e) =
    let whole = Start top.tag ∷ (inside ++ (End top.tag.name ∷ [])) in
    let split : ps ++ (End top.tag.name ∷ []) ≡ beyond ++ (Start o.tag ∷ (within ++ whole)) =
    regroup outside (Start top.tag) inside (End top.tag.name) ps e ∙ ap (λ (x : List Piece). x ++ whole) f ∙ append_assoc beyond (Start o.tag ∷ within) whole in
    (beyond, within ++ whole, opens, element within o.children o.words top.tag inside top.children top.words held content, split)

step_before : (r : Bool) (p : Piece) (t : State) (ps : List Piece) → Holds Before ps → step Before r p ≡ Some t → Holds t (ps ++ (p ∷ []))
step_before r (Start k) t ps h e = subst (λ (x : State). Holds x (ps ++ (Start k ∷ []))) (some_is (Within (opened k) []) t e) (ps, [], h, nothing, refl)
step_before r (Empty k) t ps h e = subst (λ (x : State). Holds x (ps ++ (Empty k ∷ []))) (some_is (After (element_of k [])) t e)
    (record { before = ps; inside = Empty k ∷ []; after = []; before_is = h; inside_is = empty_tag k; after_is = refl; parts = refl })
step_before r (End n) t ps h e = absurd cc
step_before r Comment t ps h e = subst (λ (x : State). Holds x (ps ++ (Comment ∷ []))) (some_is Before t e) (all_snoc ps Comment h refl)
step_before r Instruction t ps h e = subst (λ (x : State). Holds x (ps ++ (Instruction ∷ []))) (some_is Before t e) (all_snoc ps Instruction h refl)
step_before r (Data d) t ps h e =
    let g = chosen_some (is_around (Data d)) Before t e in
    subst (λ (x : State). Holds x (ps ++ (Data d ∷ []))) g.1 (all_snoc ps (Data d) h g.0)

step_within : (top : Level) (outer : List Level) (r : Bool) (p : Piece) (t : State) (ps : List Piece) → Opens (top ∷ outer) ps → r ≡ ends_in_return ps → step (Within top outer) r p ≡ Some t → Holds t (ps ++ (p ∷ []))
step_within top outer r (Start k) t ps h is e = subst (λ (x : State). Holds x (ps ++ (Start k ∷ []))) (some_is (Within (opened k) (top ∷ outer)) t e) (ps, [], h, nothing, refl)
step_within top outer r (Empty k) t ps (outside, inside, opens, content, f) is e = subst (λ (x : State). Holds x (ps ++ (Empty k ∷ []))) (some_is (Within (with_child top (element_of k [])) outer) t e)
    (outside, inside ++ (Empty k ∷ []), opens, empty inside top.children top.words k content, regroup outside (Start top.tag) inside (Empty k) ps f)
step_within top outer r (End n) t ps h is e =
    let g = chosen_some (same_name n top.tag.name) (leave (closed top) outer) t e in
    let same = same_names n top.tag.name g.0 in
    subst (λ (x : State). Holds x (ps ++ (End n ∷ []))) g.1 (subst (λ (m : Name). Holds (leave (closed top) outer) (ps ++ (End m ∷ []))) (sym same) (leaves top outer ps h))
step_within top outer r Comment t ps (outside, inside, opens, content, f) is e = subst (λ (x : State). Holds x (ps ++ (Comment ∷ []))) (some_is (Within top outer) t e)
    (outside, inside ++ (Comment ∷ []), opens, comment inside top.children top.words content, regroup outside (Start top.tag) inside Comment ps f)
step_within top outer r Instruction t ps (outside, inside, opens, content, f) is e = subst (λ (x : State). Holds x (ps ++ (Instruction ∷ []))) (some_is (Within top outer) t e)
    (outside, inside ++ (Instruction ∷ []), opens, instruction inside top.children top.words content, regroup outside (Start top.tag) inside Instruction ps f)
step_within top outer r (Data d) t ps (outside, inside, opens, content, f) is e =
    let flag : r ≡ ends_in_return inside = is ∙ ap ends_in_return f ∙ ends_behind outside (Start top.tag) inside refl in
    subst (λ (x : State). Holds x (ps ++ (Data d ∷ []))) (some_is (Within (with_char top r d) outer) t e)
    (subst (λ (b : Bool). Holds (Within (with_char top b d) outer) (ps ++ (Data d ∷ []))) (sym flag)
    (outside, inside ++ (Data d ∷ []), opens, character inside top.children top.words d content, regroup outside (Start top.tag) inside (Data d) ps f))

step_after : (root : Element) (p : Piece) (t : State) (ps : List Piece) → IsDocument ps root → step_around (After root) p ≡ Some t → Holds t (ps ++ (p ∷ []))
step_after root p t ps h e =
    let g = chosen_some (is_around p) (After root) t e in
    let split : ps ++ (p ∷ []) ≡ h.before ++ (h.inside ++ (h.after ++ (p ∷ []))) = ap (λ (x : List Piece). x ++ (p ∷ [])) h.parts ∙ append_assoc h.before (h.inside ++ h.after) (p ∷ []) ∙ ap (λ (x : List Piece). h.before ++ x) (append_assoc h.inside h.after (p ∷ [])) in
    subst (λ (x : State). Holds x (ps ++ (p ∷ []))) g.1
    (record { before = h.before; inside = h.inside; after = h.after ++ (p ∷ []); before_is = h.before_is; inside_is = h.inside_is; after_is = all_snoc h.after p h.after_is g.0; parts = split })

pub step_holds : (s : State) (r : Bool) (p : Piece) (t : State) (ps : List Piece) → Holds s ps → r ≡ ends_in_return ps → step s r p ≡ Some t → Holds t (ps ++ (p ∷ []))
step_holds Before r p t ps h is e = step_before r p t ps h e
step_holds (Within top outer) r p t ps h is e = step_within top outer r p t ps h is e
step_holds (After root) r p t ps h is e = step_after root p t ps h e

next_some : (others : State → Bool → Option State) (p : Piece) (o : Option State) (t : State) → next others p o ≡ Some t → (s : State) × (o ≡ Some s) × (others s (is_return_piece p) ≡ Some t)
next_some others p None t e = absurd cc
next_some others p (Some s) t e = (s, refl, e)

next_at : (others : State → Bool → Option State) (p : Piece) (o : Option State) (s : State) (x : Option State) → o ≡ Some s → others s (is_return_piece p) ≡ x → next others p o ≡ x
next_at others p o s x e f = rw e f

pub run_holds : (ps : List Piece) (s : State) (r : Bool) (t : State) (done : List Piece) → Holds s done → r ≡ ends_in_return done → run ps s r ≡ Some t → Holds t (done ++ ps)
run_holds [] s r t done h is e = subst (λ (x : List Piece). Holds t x) (sym (append-nil done)) (subst (λ (x : State). Holds x done) (some_is s t e) h)
run_holds (p ∷ ps) s r t done h is e =
    let n = next_some (λ u b. run ps u b) p (step s r p) t e in
    let held = step_holds s r p n.0 done h is n.1 in
    let rest = run_holds ps n.0 (is_return_piece p) t (done ++ (p ∷ [])) held (sym (ends_last done p)) n.2 in
    subst (λ (x : List Piece). Holds t x) (append_assoc done (p ∷ []) ps) rest

pub read_holds : (ps : List Piece) (t : State) → run ps Before false ≡ Some t → Holds t ps
read_holds ps t e = run_holds ps Before false t [] refl refl e

-- ---- each document is read

abbrev level_of : Tag → List Node → List ℕ → Level
level_of tag children words = record { tag = tag; children = children; words = words }

step_data : (tag : Tag) (outer : List Level) (more : List Piece) (children : List Node) (words : List ℕ) (r s : Bool) → s ≡ r → run more (Within (level_of tag children words) outer) s ≡ run more (Within (level_of tag children words) outer) r
step_data tag outer more children words r s e = rw e refl

pub content_runs : (tag : Tag) (outer : List Level) (more : List Piece) (ps : List Piece) (children : List Node) (words : List ℕ) → IsContent ps children words
    → run (ps ++ more) (Within (opened tag) outer) false ≡ run more (Within (level_of tag children words) outer) (ends_in_return ps)
content_runs tag outer more ps children words nothing = refl
content_runs tag outer more all children words (comment ps _ _ c) =
    let flag = ends_last ps Comment in
    rw (append_assoc ps (Comment ∷ []) more, flag) (content_runs tag outer (Comment ∷ more) ps children words c)
content_runs tag outer more all children words (instruction ps _ _ c) =
    let flag = ends_last ps Instruction in
    rw (append_assoc ps (Instruction ∷ []) more, flag) (content_runs tag outer (Instruction ∷ more) ps children words c)
content_runs tag outer more all children words (character ps _ before d c) =
    let flag = ends_last ps (Data d) in
    rw (append_assoc ps (Data d ∷ []) more, flag) (content_runs tag outer (Data d ∷ more) ps children before c)
content_runs tag outer more all children words (empty ps kids text t c) =
    let flag = ends_last ps (Empty t) in
    rw (append_assoc ps (Empty t ∷ []) more, flag) (content_runs tag outer (Empty t ∷ more) ps kids text c)
content_runs tag outer more all children words (element ps kids text t inside inner said c d) =
    let whole = Start t ∷ (inside ++ (End t.name ∷ [])) in
    let top = level_of tag kids text in
    let flag : ends_in_return (ps ++ whole) ≡ false = ends_behind ps (Start t) (inside ++ (End t.name ∷ [])) refl ∙ ends_last inside (End t.name) in
    let split : (ps ++ whole) ++ more ≡ ps ++ (Start t ∷ (inside ++ (End t.name ∷ more))) = append_assoc ps whole more ∙ ap (λ (x : List Piece). ps ++ (Start t ∷ x)) (append_assoc inside (End t.name ∷ []) more) in
    let first = content_runs tag outer (Start t ∷ (inside ++ (End t.name ∷ more))) ps kids text c in
    let second = content_runs t (top ∷ outer) (End t.name ∷ more) inside inner said d in
    let ended : run (End t.name ∷ more) (Within (level_of t inner said) (top ∷ outer)) (ends_in_return inside) ≡ run more (Within (with_child top (closed (level_of t inner said))) outer) false = rw (name_alike t.name) refl in
    rw (split, flag) (first ∙ second ∙ ended)

pub element_runs : (r : Bool) (more : List Piece) (ps : List Piece) (root : Element) → IsElement ps root → run (ps ++ more) Before r ≡ run more (After root) false
element_runs r more all root (empty_tag t) = refl
element_runs r more all root (tags t inside inner text c) =
    let split : (inside ++ (End t.name ∷ [])) ++ more ≡ inside ++ (End t.name ∷ more) = append_assoc inside (End t.name ∷ []) more in
    let first = content_runs t [] (End t.name ∷ more) inside inner text c in
    let ended : run (End t.name ∷ more) (Within (level_of t inner text) []) (ends_in_return inside) ≡ run more (After (closed (level_of t inner text))) false = rw (name_alike t.name) refl in
    rw split (first ∙ ended)

around_step_before : (r : Bool) (p : Piece) → is_around p ≡ true → step Before r p ≡ Some Before
around_step_before r (Start t) h = absurd cc
around_step_before r (Empty t) h = absurd cc
around_step_before r (End n) h = absurd cc
around_step_before r Comment h = refl
around_step_before r Instruction h = refl
around_step_before r (Data d) h = rw h refl

before_runs : (more : List Piece) (ps : List Piece) (r : Bool) → list_all is_around ps ≡ true → (s : Bool) × (run (ps ++ more) Before r ≡ run more Before s)
before_runs more [] r h = (r, refl)
before_runs more (p ∷ ps) r h =
    let a = and_parts (is_around p) (list_all is_around ps) h in
    let rest = before_runs more ps (is_return_piece p) a.1 in
    (rest.0, rw (around_step_before r p a.0) rest.1)

after_runs : (root : Element) (ps : List Piece) (r : Bool) → list_all is_around ps ≡ true → run ps (After root) r ≡ Some (After root)
after_runs root [] r h = refl
after_runs root (p ∷ ps) r h =
    let a = and_parts (is_around p) (list_all is_around ps) h in
    rw (a.0) (after_runs root ps (is_return_piece p) a.1)

pub document_runs : (ps : List Piece) (root : Element) → IsDocument ps root → run ps Before false ≡ Some (After root)
document_runs ps root h =
    let b = before_runs (h.inside ++ h.after) h.before false h.before_is in
    let i = element_runs b.0 h.after h.inside root h.inside_is in
    rw (h.parts) (b.1 ∙ i ∙ after_runs root h.after false h.after_is)

-- ---- a front of what runs runs

pub run_front : (ps : List Piece) (qs : List Piece) (s : State) (r : Bool) (t : State) → run (ps ++ qs) s r ≡ Some t → (u : State) × (run ps s r ≡ Some u)
run_front [] qs s r t e = (s, refl)
run_front (p ∷ ps) qs s r t e =
    let n = next_some (λ u b. run (ps ++ qs) u b) p (step s r p) t e in
    let f = run_front ps qs n.0 (is_return_piece p) t n.2 in
    (f.0, next_at (λ u b. run ps u b) p (step s r p) n.0 (Some f.0) n.1 f.1)

abbrev flag_behind : Bool → List Piece → Bool
flag_behind r [] = r
flag_behind r (p ∷ ps) = flag_behind (is_return_piece p) ps

flag_is : (p : Piece) (ps : List Piece) → flag_behind (is_return_piece p) ps ≡ ends_in_return (p ∷ ps)
flag_is p [] = refl
flag_is p (q ∷ ps) = flag_is q ps

flag_at_start : (ps : List Piece) → flag_behind false ps ≡ ends_in_return ps
flag_at_start [] = refl
flag_at_start (p ∷ ps) = flag_is p ps

run_snoc_by : (ps : List Piece) (p : Piece) (s : State) (r : Bool) (t : State) (o : Option State) → run ps s r ≡ Some t → step t (flag_behind r ps) p ≡ o → run (ps ++ (p ∷ [])) s r ≡ o
run_snoc_by [] p s r t o e f =
    let same = some_is s t e in
    elim o as (λ x. step t r p ≡ x → next (λ u b. Some u) p (step s r p) ≡ x) [
      | None ↦ λ g. rw (same, g) refl
      | Some u ↦ λ g. rw (same, g) refl
    ] f
run_snoc_by (q ∷ ps) p s r t o e f =
    let n = next_some (λ u b. run ps u b) q (step s r q) t e in
    next_at (λ u b. run (ps ++ (p ∷ [])) u b) q (step s r q) n.0 o n.1 (run_snoc_by ps p n.0 (is_return_piece q) t o n.2 f)

-- one more piece
pub run_snoc : (ps : List Piece) (p : Piece) (t : State) (o : Option State) → run ps Before false ≡ Some t → step t (ends_in_return ps) p ≡ o → run (ps ++ (p ∷ [])) Before false ≡ o
run_snoc ps p t o e f = run_snoc_by ps p Before false t o e (rw (flag_at_start ps) f)

-- ---- some document begins with what runs

abbrev any_tag : Tag
any_tag = record { name = record { prefix = None; local = 97 ∷ [] }; attributes = [] }

levels_begin : (outer : List Level) (top : Level) (ps : List Piece) → Opens (top ∷ outer) ps → BeginDocument ps
levels_begin [] top ps h = record { more = End top.tag.name ∷ []; root = closed top; whole = leaves top [] ps h }
levels_begin (o ∷ others) top ps h =
    let b = levels_begin others (with_child o (closed top)) (ps ++ (End top.tag.name ∷ [])) (leaves top (o ∷ others) ps h) in
    record { more = End top.tag.name ∷ b.more; root = b.root; whole = subst (λ (x : List Piece). IsDocument x b.root) (append_assoc ps (End top.tag.name ∷ []) b.more) b.whole }

holds_begin : (s : State) (ps : List Piece) → Holds s ps → BeginDocument ps
holds_begin Before ps h = record { more = Empty any_tag ∷ []; root = element_of any_tag []; whole = record { before = ps; inside = Empty any_tag ∷ []; after = []; before_is = h; inside_is = empty_tag any_tag; after_is = refl; parts = refl } }
holds_begin (Within top outer) ps h = levels_begin outer top ps h
holds_begin (After root) ps h = record { more = []; root = root; whole = subst (λ (x : List Piece). IsDocument x root) (sym (append-nil ps)) h }

pub runs_begin : (ps : List Piece) (s : State) → run ps Before false ≡ Some s → BeginDocument ps
runs_begin ps s e = holds_begin s ps (read_holds ps s e)

pub begin_runs : (ps : List Piece) → BeginDocument ps → (s : State) × (run ps Before false ≡ Some s)
begin_runs ps b = run_front ps b.more Before false (After b.root) (document_runs (ps ++ b.more) b.root b.whole)

-- a state that is the end of a document
pub after_is_document : (ps : List Piece) (root : Element) → run ps Before false ≡ Some (After root) → IsDocument ps root
after_is_document ps root e = read_holds ps (After root) e

-- ---- how deep

leave_depth : (e : Element) (outer : List Level) → depth_of (leave e outer) ≡ length outer
leave_depth e [] = refl
leave_depth e (o ∷ others) = omega arith

around_depth : (s t : State) (r : Bool) (p : Piece) → is_around p ≡ true → s ≡ t → depth_of s + cond (is_start p) 1 0 ≡ cond (is_end p) 1 0 + depth_of t
around_depth s t r (Start k) h e = absurd cc
around_depth s t r (Empty k) h e = absurd cc
around_depth s t r (End n) h e = absurd cc
around_depth s t r Comment h e = omega (arith, ap depth_of e)
around_depth s t r Instruction h e = omega (arith, ap depth_of e)
around_depth s t r (Data d) h e = omega (arith, ap depth_of e)

same_depth : (s t : State) → some s ≡ some t → depth_of s ≡ depth_of t
same_depth s t e = ap depth_of (some_is s t e)

step_depth : (s : State) (r : Bool) (p : Piece) (t : State) → step s r p ≡ Some t → depth_of s + cond (is_start p) 1 0 ≡ cond (is_end p) 1 0 + depth_of t
step_depth Before r (Start k) t e = omega (arith, same_depth (Within (opened k) []) t e)
step_depth Before r (Empty k) t e = omega (arith, same_depth (After (element_of k [])) t e)
step_depth Before r (End n) t e = absurd cc
step_depth Before r Comment t e = omega (arith, same_depth Before t e)
step_depth Before r Instruction t e = omega (arith, same_depth Before t e)
step_depth Before r (Data d) t e = let g = chosen_some (is_around (Data d)) Before t e in omega (arith, ap depth_of g.1)
step_depth (Within top outer) r (Start k) t e = omega (arith, same_depth (Within (opened k) (top ∷ outer)) t e)
step_depth (Within top outer) r (Empty k) t e = omega (arith, same_depth (Within (with_child top (element_of k [])) outer) t e)
step_depth (Within top outer) r (End n) t e = let g = chosen_some (same_name n top.tag.name) (leave (closed top) outer) t e in omega (arith, ap depth_of g.1, leave_depth (closed top) outer)
step_depth (Within top outer) r Comment t e = omega (arith, same_depth (Within top outer) t e)
step_depth (Within top outer) r Instruction t e = omega (arith, same_depth (Within top outer) t e)
step_depth (Within top outer) r (Data d) t e = omega (arith, same_depth (Within (with_char top r d) outer) t e)
step_depth (After root) r p t e = let g = chosen_some (is_around p) (After root) t e in around_depth (After root) t r p g.0 g.1

run_depth : (ps : List Piece) (s : State) (r : Bool) (t : State) → run ps s r ≡ Some t → depth_of s + count_by is_start ps ≡ count_by is_end ps + depth_of t
run_depth [] s r t e = omega (arith, same_depth s t e)
run_depth (p ∷ ps) s r t e =
    let n = next_some (λ u b. run ps u b) p (step s r p) t e in
    let one = step_depth s r p n.0 n.1 in
    let rest = run_depth ps n.0 (is_return_piece p) t n.2 in
    let starts : count_by is_start (p ∷ ps) ≡ cond (is_start p) 1 0 + count_by is_start ps = sum_by-cons (λ x. cond (is_start x) 1 0) p ps in
    let ends : count_by is_end (p ∷ ps) ≡ cond (is_end p) 1 0 + count_by is_end ps = sum_by-cons (λ x. cond (is_end x) 1 0) p ps in
    omega (arith, one, rest, starts, ends)

-- the stack is as deep as the pieces
pub runs_depth : (ps : List Piece) (t : State) → run ps Before false ≡ Some t → depth ps ≡ depth_of t
runs_depth ps t e = let h = run_depth ps Before false t e in omega (arith, h)

start_opens : (p : Piece) → cond (is_start p) 1 0 ≤ cond (opens p) 1 0
start_opens (Start t) = omega arith
start_opens (Empty t) = omega arith
start_opens (End n) = omega arith
start_opens Comment = omega arith
start_opens Instruction = omega arith
start_opens (Data d) = omega arith

opened_count : (b : Bool) → b ≡ true → cond {A = ℕ} b 1 0 ≤ 1
opened_count true e = omega arith
opened_count false e = omega arith

unopened_count : (b : Bool) → b ≡ false → cond {A = ℕ} b 1 0 ≤ 0
unopened_count true e = absurd cc
unopened_count false e = omega arith

-- the stack grows by no level that is too deep
pub step_low : (s : State) (r : Bool) (p : Piece) (t : State) → step s r p ≡ Some t → (opens p ≡ true → depth_of s < 16) → depth_of s ≤ 16 → depth_of t ≤ 16
step_low s r p t e low h =
    let one = step_depth s r p t e in
    let more = start_opens p in
    elim (opens p) as (λ b. opens p ≡ b → depth_of t ≤ 16) [
      | true ↦ λ o. let l = low o in let k = opened_count (opens p) o in omega (arith, one, more, l, k)
      | false ↦ λ o. let k = unopened_count (opens p) o in omega (arith, one, more, h, k)
    ] refl
