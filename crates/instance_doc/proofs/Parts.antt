-- The elements of the fields as they are written, followed by the steps of the reader.
use Rattle.std.proofs.Common.{◌≡◌, ℕ, ◌≤◌, ◌+◌, ◌||◌, not, nat_le, Bool, true, false, cond, List, [], ◌∷◌}
use Rattle.std.proofs.Common.{◌++◌, Option, Some, None, codes, refl, sym, ap, subst, ◌∙◌, arith, append_assoc}
use Rattle.std.proofs.Common.{encode_utf8_all, map, length}
use Rattle.std.specs.Prelude.{find}
use Rattle.std.specs.List.{cons_option, flat_map, list_all}
use Rattle.std.specs.Str.{bytes_eq, chars, is_utf8}
use Rattle.std.proofs.Math.Utf8.{encode}
use Rattle.std.proofs.lemmas.Bool.{and_from, and_parts, leb-true}
use Rattle.std.proofs.lemmas.List.{append-nil}
use Rattle.std.proofs.lemmas.Slice.Eq.{bytes_eq-Decides}
use Rattle.std.proofs.lemmas.Str.{encodes-chars, IsUtf8-from_is_utf8}
use Rattle.field_text.specs.Xml.{is_local_name, xml_char_of}
use Rattle.form_def.specs.Paths.{is_path, parent_path}
use Rattle.rosa_pieces.specs.declared.piece.Tag.{Tag}
use Rattle.rosa_doc.specs.declared.tree.Element.{Element}
use Rattle.rosa_doc.specs.declared.tree.Node.{Node}
use Rattle.rosa_doc.specs.declared.tree.Node.TheVariants.{Child}
use Rattle.rosa_doc.specs.Documents.{with_words}
use Rattle.rosa_doc.specs.Escapes.{in_text}
use Rattle.rosa_doc.specs.LocalNames.{spells_local_name}
use Rattle.rosa_doc.specs.Machine.{Level, Within, opened}
use Rattle.rosa_nodes.specs.Nodes.{child_named, element_in, elements}
use Rattle.rosa_nodes.proofs.NodeLemmas.{element_in-Child}
use Rattle.rosa_nodes.proofs.Written.{Written, level, nothing_written, text_written, written_then}
use Rattle.instance_doc.specs.Trees.{field_element, field_nodes, kept_text}
use Rattle.instance_doc.specs.Markup.{element, escaped, in_utf8}
use Rattle.instance_doc.specs.Rows.{Row, content, is_group, is_in_meta, last_name}
use Rattle.instance_doc.specs.Elements.{Placed, behind, children, field_text, is_right_below, is_written, placed}
use Rattle.instance_doc.specs.Elements.{values}
use Rattle.instance_doc.specs.ReadBack.{is_no_meta, is_right, names}
use Rattle.instance_doc.proofs.Characters.{of_text, of_utf8}
use Rattle.instance_doc.proofs.Levels.{names_above, names_of_path}
use Rattle.instance_doc.proofs.Tags.{Content, element_written, own, own_name}

-- ---- nothing is written of nothing alone

some_none : {A : Type 0} (x : A) (xs : List A) → x ∷ xs ≡ [] → ⊥
some_none x xs is = cc

pub both_none : {A : Type 0} (xs ys : List A) → xs ++ ys ≡ [] → (xs ≡ []) × (ys ≡ [])
both_none [] ys h = (refl, h)
both_none (x ∷ xs) ys h = absurd (some_none x (xs ++ ys) h)

abbrev is_some : List ℕ → Bool
is_some [] = false
is_some (b ∷ bs) = true

some_char : (c : ℕ) → is_some (encode c) ≡ true
some_char c = of_utf8 (λ bs. is_some bs ≡ true) c refl (λ b bs high. refl)

-- ---- nodes by their names

pub skipped : (name : List ℕ) (ns ms : List Node) → child_named name ns ≡ None
    → child_named name (ns ++ ms) ≡ child_named name ms
skipped name [] ms h = refl
skipped name (n ∷ ns) ms h =
    let is = λ (e : Element). bytes_eq e.name name in
    elim (element_in n) as (λ (o : Option Element). find is (cons_option o (elements ns)) ≡ None
    → find is (cons_option o (elements (ns ++ ms))) ≡ child_named name ms) [
      | None ↦ λ k. skipped name ns ms k
      | Some e ↦ λ k. elim
          (bytes_eq e.name name) as (λ b. cond b (Some e) (find is (elements ns)) ≡ None
          → cond b (Some e) (find is (elements (ns ++ ms))) ≡ child_named name ms) [
            | true ↦ λ some. absurd cc
            | false ↦ λ none. skipped name ns ms none
          ] k
    ] h

-- the first child, by whether it has the name
pub first_child : (name : List ℕ) (e : Element) (ns : List Node)
    → child_named name (Child e ∷ ns) ≡ cond (bytes_eq e.name name) (Some e) (child_named name ns)
first_child name e ns = ap
    (λ (o : Option Element). find (λ (x : Element). bytes_eq x.name name) (cons_option o (elements ns)))
    (element_in-Child e)

-- ---- one part after the other

abbrev pub Text : Type 0
Text = Placed (List ℕ)

abbrev pub Nodes : Type 0
Nodes = Placed (List Node)

-- a text is these nodes
pub record Part (meta : List ℕ) (p : Text) (q : Nodes) : Type 0 where
  pub same : q.path ≡ p.path
  pub none : p.value ≡ [] → q.value ≡ []
  pub writes : (t : Tag) (before : List Node) (outer : List Level) → length outer + 2 ≤ names p.path
      → Written (Within (level t before) outer) (Within (level t (before ++ q.value)) outer) p.value
  pub other : is_no_meta meta p ≡ true → child_named (codes "meta") q.value ≡ None

abbrev pub Parts : List ℕ → List Text → List Nodes → Type 0
Parts meta [] [] = Unit {0}
Parts meta [] (q ∷ qs) = ⊥
Parts meta (p ∷ ps) [] = ⊥
Parts meta (p ∷ ps) (q ∷ qs) = Part meta p q × Parts meta ps qs

-- each path has so many names at least
abbrev pub Deep : ℕ → List Text → Type 0
Deep n [] = Unit {0}
Deep n (p ∷ ps) = (n ≤ names p.path) × Deep n ps

pub parts_written : (meta : List ℕ) (ps : List Text) (qs : List Nodes) → Parts meta ps qs
    → (t : Tag) (before : List Node) (outer : List Level)
    → Deep (length outer + 2) ps
    → Written (Within (level t before) outer) (Within (level t (before ++ values qs)) outer) (values ps)
parts_written meta [] [] w t before outer d =
    subst (λ (ns : List Node). Written (Within (level t before) outer) (Within (level t ns) outer) [])
    (sym (append-nil before))
    (nothing_written (Within (level t before) outer))
parts_written meta [] (q ∷ qs) w t before outer d = absurd w
parts_written meta (p ∷ ps) [] w t before outer d = absurd w
parts_written meta (p ∷ ps) (q ∷ qs) w t before outer d =
    let s0 = Within (level t before) outer in
    let s1 = Within (level t (before ++ q.value)) outer in
    let s2 = Within (level t ((before ++ q.value) ++ values qs)) outer in
    subst (λ (ns : List Node). Written s0 (Within (level t ns) outer) (p.value ++ values ps))
    (append_assoc before q.value (values qs))
    (written_then s0 s1 s2 p.value (values ps) (w.0.writes t before outer d.0)
    (parts_written meta ps qs w.1 t (before ++ q.value) outer d.1))

no_parts : (meta : List ℕ) (ps : List Text) (qs : List Nodes) → Parts meta ps qs → values ps ≡ [] → values qs ≡ []
no_parts meta [] [] w h = refl
no_parts meta [] (q ∷ qs) w h = absurd w
no_parts meta (p ∷ ps) [] w h = absurd w
no_parts meta (p ∷ ps) (q ∷ qs) w h =
    let none = both_none p.value (values ps) h in
    ap (λ (ns : List Node). ns ++ values qs) (w.0.none none.0) ∙ no_parts meta ps qs w.1 none.1

pub parts_other : (meta : List ℕ) (ps : List Text) (qs : List Nodes) → Parts meta ps qs
    → list_all (is_no_meta meta) ps ≡ true
    → child_named (codes "meta") (values qs) ≡ None
parts_other meta [] [] w h = refl
parts_other meta [] (q ∷ qs) w h = absurd w
parts_other meta (p ∷ ps) [] w h = absurd w
parts_other meta (p ∷ ps) (q ∷ qs) w h =
    let both = and_parts (is_no_meta meta p) (list_all (is_no_meta meta) ps) h in
    skipped (codes "meta") q.value (values qs) (w.0.other both.0) ∙ parts_other meta ps qs w.1 both.1

-- ---- those below a path, and those behind them

abbrev pub is_named : List ℕ → Text → Bool
is_named root p = is_path root p.path

same_place : (parent : List ℕ) (p : Text) (q : Nodes) → q.path ≡ p.path
    → is_right_below parent p ≡ is_right_below parent q
same_place parent p q same = ap (λ (x : List ℕ). bytes_eq (parent_path x) parent) (sym same)

children_parts : (meta parent : List ℕ) (ps : List Text) (qs : List Nodes) → Parts meta ps qs
    → Parts meta (children parent ps) (children parent qs)
children_parts meta parent [] [] w = tt
children_parts meta parent [] (q ∷ qs) w = absurd w
children_parts meta parent (p ∷ ps) [] w = absurd w
children_parts meta parent (p ∷ ps) (q ∷ qs) w =
    let some = p ∷ children parent ps in
    let nodes = q ∷ children parent qs in
    subst (λ b. Parts meta (cond (is_right_below parent p) some []) (cond b nodes [])) (same_place parent p q w.0.same)
    (elim (is_right_below parent p) as (λ b. Parts meta (cond b some []) (cond b nodes [])) [
      | true ↦ (w.0, children_parts meta parent ps qs w.1)
      | false ↦ tt
    ])

behind_parts : (meta parent : List ℕ) (ps : List Text) (qs : List Nodes) → Parts meta ps qs
    → Parts meta (behind parent ps) (behind parent qs)
behind_parts meta parent [] [] w = tt
behind_parts meta parent [] (q ∷ qs) w = absurd w
behind_parts meta parent (p ∷ ps) [] w = absurd w
behind_parts meta parent (p ∷ ps) (q ∷ qs) w =
    subst (λ b. Parts meta (cond (is_right_below parent p) (behind parent ps) (p ∷ ps))
    (cond b (behind parent qs) (q ∷ qs)))
    (same_place parent p q w.0.same)
    (elim (is_right_below parent p) as (λ b. Parts meta (cond b (behind parent ps) (p ∷ ps))
    (cond b (behind parent qs) (q ∷ qs))) [
      | true ↦ behind_parts meta parent ps qs w.1
      | false ↦ w
    ])

behind_named : (root parent : List ℕ) (ps : List Text) → list_all (is_named root) ps ≡ true
    → list_all (is_named root) (behind parent ps) ≡ true
behind_named root parent [] h = refl
behind_named root parent (p ∷ ps) h =
    elim (is_right_below parent p) as (λ b. list_all (is_named root) (cond b (behind parent ps) (p ∷ ps)) ≡ true) [
      | true ↦ behind_named root parent ps (and_parts (is_named root p) (list_all (is_named root) ps) h).1
      | false ↦ h
    ]

children_deep : (root parent : List ℕ) (n : ℕ) (ps : List Text) → list_all (is_named root) ps ≡ true
    → n ≤ names parent + 1
    → Deep n (children parent ps)
children_deep root parent n [] h low = tt
children_deep root parent n (p ∷ ps) h low =
    let both = and_parts (is_named root p) (list_all (is_named root) ps) h in
    elim (is_right_below parent p) as (λ b. is_right_below parent p ≡ b → Deep n (cond b (p ∷ children parent ps) [])) [
      | true ↦ λ e. (
        let two = names_of_path root p.path both.0 in
            let one = names_above p.path (omega (arith, two)) in
            let same : names (parent_path p.path) ≡ names parent = ap names
            ((bytes_eq-Decides (parent_path p.path) parent).0 e) in
            omega (arith, low, one, same),
        children_deep root parent n ps both.1 low,
      )
      | false ↦ λ e. tt
    ] refl

pub outermost_deep : (root : List ℕ) (ps : List Text) → list_all (is_named root) ps ≡ true → Deep 2 ps
outermost_deep root [] h = tt
outermost_deep root (p ∷ ps) h =
    let both = and_parts (is_named root p) (list_all (is_named root) ps) h in
    (names_of_path root p.path both.0, outermost_deep root ps both.1)

-- ---- what stands inside a field's element

pub record Filled (deep : ℕ) (inside : List ℕ) : Type 0 where
  pub nodes : List Node
  pub words : List ℕ
  pub content : Content deep inside nodes words

some_text_char : (c : ℕ) → is_some (in_text c) ≡ true
some_text_char c = of_text (λ bs. is_some bs ≡ true) c refl refl refl refl (λ e. some_char (xml_char_of c))

none_of_some : (xs : List ℕ) → is_some xs ≡ true → xs ≡ [] → ⊥
none_of_some [] h e = cc
none_of_some (x ∷ xs) h e = cc

no_text : (cs : List ℕ) → flat_map in_text cs ≡ [] → encode_utf8_all (map xml_char_of cs) ≡ []
no_text [] h = refl
no_text (c ∷ cs) h = absurd
    (none_of_some (in_text c) (some_text_char c) (both_none (in_text c) (flat_map in_text cs) h).0)

pub text_content : (deep : ℕ) (text : List ℕ) → Content deep (escaped text) [] (kept_text text)
text_content deep text = record {
  none = λ h. (refl, no_text (chars text) h);
  writes = λ t outer low. text_written (opened t) outer (chars text);
}

deeper : (n m : ℕ) (ps : List Text) → n ≤ m → Deep m ps → Deep n ps
deeper n m [] low d = tt
deeper n m (p ∷ ps) low d = (omega (arith, low, d.0), deeper n m ps low d.1)

group_content : (meta : List ℕ) (deep : ℕ) (ps : List Text) (qs : List Nodes) → Parts meta ps qs → Deep (deep + 1) ps
    → Content deep (values ps) (values qs) []
group_content meta deep ps qs w d = record {
  none = λ h. (no_parts meta ps qs w h, refl);
  writes = λ t outer low. parts_written meta ps qs w t [] outer
      (deeper (length outer + 2) (deep + 1) ps (omega (arith, low)) d);
}

-- bytes that inside an element are these children
record Inner (deep : ℕ) (inside : List ℕ) (children : List Node) : Type 0 where
  nodes : List Node
  words : List ℕ
  content : Content deep inside nodes words
  whole : with_words nodes words ≡ children

inner_of : (meta : List ℕ) (r : Row) (deep : ℕ) (ps : List Text) (qs : List Nodes) → Parts meta ps qs
    → Deep (deep + 1) ps
    → Inner deep (content r (values ps)) (field_element r (values qs)).children
inner_of meta r deep ps qs w d =
    elim (is_group r.field.kind) as (λ b. Inner deep (cond b (values ps) (escaped r.text))
    (cond b (values qs) (with_words [] (kept_text r.text)))) [
      | true ↦ record { nodes = values qs; words = []; content = group_content meta deep ps qs w d; whole = refl }
      | false ↦ record { nodes = []; words = kept_text r.text; content = text_content deep r.text; whole = refl }
    ]

-- ---- a field

some_element : (name inside : List ℕ) → element name inside ≡ [] → ⊥
unfolding encode
some_element name [] h = cc
some_element name (b ∷ bs) h = cc

abbrev with_path : {A : Type 0} → Row → A → Placed A
with_path r value = record { path = r.field.path; value = value }

in_or : (x y : Bool) → not x ≡ true → x || y ≡ true → y ≡ true
in_or true y off h = absurd cc
in_or false y off h = h

not_named : (name other : List ℕ) → is_utf8 name ≡ true → not (bytes_eq name other) ≡ true
    → bytes_eq (in_utf8 name) other ≡ false
not_named name other utf8 h = ap (λ (x : List ℕ). bytes_eq x other) (encodes-chars name (IsUtf8-from_is_utf8 name utf8))
    ∙ is_not (bytes_eq name other) h
  where
    is_not : (b : Bool) → not b ≡ true → b ≡ false
    is_not true k = absurd cc
    is_not false k = refl

part_written : (meta : List ℕ) (r : Row) (inside : List ℕ) (nodes : List Node) → is_written meta r ≡ true
    → is_right meta r ≡ true
    → Inner (names r.field.path) inside (field_element r nodes).children
    → Part meta (with_path r (element (last_name r.field.path) inside))
    (with_path r (Child (field_element r nodes) ∷ []))
part_written meta r inside nodes h right f =
    let path = r.field.path in
    let name = last_name path in
    let outside = (and_parts r.shown (not (is_in_meta meta path)) h).1 in
    let both = and_parts (spells_local_name name) (nat_le (names path) 16)
    (in_or (is_in_meta meta path) _ outside right) in
    let low = leb-true (names path) 16 both.1 in
    let e = field_element r nodes in
    record {
      same = refl;
      none = λ none. absurd (some_element name inside none);
      writes = λ t before outer fits.
          subst (λ (ns : List Node). Written (Within (level t before) outer)
          (Within (level t (before ++ (Child (record { name = in_utf8 name; attributes = []; children = ns }) ∷ [])))
          outer) (element name inside)) f.whole
          (element_written (own name) name inside f.nodes f.words (names path) t before outer
          (own_name name both.0) f.content
          (omega (arith, fits)) (omega (arith, fits, low)));
      other = λ k. first_child (codes "meta") e [] ∙ ap (λ (b : Bool). cond b (Some e) None)
          (not_named name (codes "meta") (and_parts (is_utf8 name) (is_local_name (chars name)) both.0).0
          (in_or (is_in_meta meta path) _ outside k));
    }

field_part : (meta : List ℕ) (r : Row) (inside : List ℕ) (nodes : List Node) → is_right meta r ≡ true
    → Inner (names r.field.path) (content r inside) (field_element r nodes).children
    → Part meta (with_path r (field_text meta r inside)) (with_path r (field_nodes meta r nodes))
field_part meta r inside nodes right f =
    let text = element (last_name r.field.path) (content r inside) in
    let node = Child (field_element r nodes) in
    elim (is_written meta r) as (λ b. is_written meta r ≡ b
    → Part meta (with_path r (cond b text [])) (with_path r (cond b (node ∷ []) []))) [
      | true ↦ λ e. part_written meta r (content r inside) nodes e right f
      | false ↦ λ e. record {
        same = refl;
        none = λ none. refl;
        writes = λ t before outer fits.
            subst (λ (ns : List Node). Written (Within (level t before) outer) (Within (level t ns) outer) [])
            (sym (append-nil before))
            (nothing_written (Within (level t before) outer));
        other = λ k. refl;
      }
    ] refl

-- ---- all fields

abbrev pub has_path : List ℕ → Row → Bool
has_path root r = is_path root r.field.path

pub placed_named : (root meta : List ℕ) (rows : List Row) → list_all (has_path root) rows ≡ true
    → list_all (is_named root) (placed (field_text meta) rows) ≡ true
placed_named root meta [] h = refl
placed_named root meta (r ∷ rows) h =
    let both = and_parts (has_path root r) (list_all (has_path root) rows) h in
    let others = placed (field_text meta) rows in
    and_from (is_path root r.field.path) (list_all (is_named root) (behind r.field.path others)) both.0
    (behind_named root r.field.path others (placed_named root meta rows both.1))

pub placed_parts : (root meta : List ℕ) (rows : List Row) → list_all (has_path root) rows ≡ true
    → list_all (is_right meta) rows ≡ true
    → Parts meta (placed (field_text meta) rows) (placed (field_nodes meta) rows)
placed_parts root meta [] h right = tt
placed_parts root meta (r ∷ rows) h right =
    let paths = and_parts (has_path root r) (list_all (has_path root) rows) h in
    let rights = and_parts (is_right meta r) (list_all (is_right meta) rows) right in
    let path = r.field.path in
    let texts = placed (field_text meta) rows in
    let nodes = placed (field_nodes meta) rows in
    let w = placed_parts root meta rows paths.1 rights.1 in
    let deep = children_deep root path (names path + 1) texts (placed_named root meta rows paths.1) (omega arith) in (
      field_part meta r (values (children path texts)) (values (children path nodes)) rights.0
          (inner_of meta r (names path) (children path texts) (children path nodes)
          (children_parts meta path texts nodes w) deep),
      behind_parts meta path texts nodes w,
    )
