-- The tree of a document has local names.
use Rattle.std.proofs.Common.{◌≡◌, ℕ, ◌<◌, ◌≤◌, Bool, true, ◌&&◌, ◌||◌, ◌==◌, nat_le, List, [], ◌∷◌, ◌++◌, Option, Some, None, map, refl, sym, ap, ◌∙◌, inl, inr, arith, encode_utf8_all}
use Rattle.std.proofs.Math.Utf8.{scalar, scalars, low_scalar}
use Rattle.std.specs.Prelude.{Result, Ok, Err, IfOk}
use Rattle.std.specs.List.{list_all}
use Rattle.std.specs.Str.{is_utf8, chars}
use Rattle.std.proofs.lemmas.Bool.{and_parts, and_from, or_cases, leb-true, eqb-true, le-ltb, le-leb, lt-ltb}
use Rattle.std.proofs.lemmas.List.Folds.{list_all-append}
use Rattle.std.proofs.lemmas.Str.{chars-encodes, is_utf8-from_IsUtf8}
use Rattle.field_text.specs.Xml.{is_between, is_xml_char, is_name_start, is_name_char, begins_as_name, is_local_name}
use Rattle.rosa_pieces.specs.declared.piece.Tag.{Tag}
use Rattle.rosa_pieces.specs.declared.piece.Piece.{Piece}
use Rattle.rosa_pieces.specs.declared.piece.Piece.TheVariants.{Start, Empty, End, Comment, Instruction, Data}
use Rattle.rosa_pieces.specs.Pieces.{SpellsName, Spelled, IsPiece}
use Rattle.rosa_doc.specs.declared.tree.Element.{Element}
use Rattle.rosa_doc.specs.declared.tree.Doc.{Doc}
use Rattle.rosa_doc.specs.declared.tree.Node.{Node}
use Rattle.rosa_doc.specs.declared.tree.Node.TheFolds.{fold-roll-Node, fold_out-Element}
use Rattle.rosa_doc.specs.declared.tree.Node.TheVariants.{Child, Words, rolls-Child, rolls-Words}
use Rattle.rosa_doc.specs.declared.tree.Node.TheOpen.{Node-F}
use Rattle.rosa_doc.specs.declared.refusal.DocRefused.{DocRefused}
use Rattle.rosa_doc.specs.Documents.{with_words, element_of, IsContent, IsElement, nothing, comment, instruction, character, empty, element, empty_tag, tags, IsDocument, body_of}
use Rattle.rosa_doc.specs.Refusals.{IsDoc}
use Rattle.rosa_doc.specs.LocalNames.{spells_local_name, element_with_children, node_with_element, has_local_names, node_has_local_names}

children_answers : (ns : List Node) → list_all (λ b. b) (map node_has_local_names ns) ≡ list_all node_has_local_names ns
children_answers [] = refl
children_answers (n ∷ ns) = ap (λ b. node_has_local_names n && b) (children_answers ns)

pub has_local_names-Element : (e : Element) → has_local_names e ≡ spells_local_name e.name && list_all node_has_local_names e.children
has_local_names-Element e = fold_out-Element Bool Bool node_with_element element_with_children e ∙ ap (λ b. spells_local_name e.name && b) (children_answers e.children)

pub has_local_names-Child : (e : Element) → node_has_local_names (Child e) ≡ has_local_names e
has_local_names-Child e = ap node_has_local_names (sym (rolls-Child e)) ∙ fold-roll-Node Bool Bool node_with_element element_with_children (Node-F.Child e)

pub has_local_names-Words : (text : List ℕ) → node_has_local_names (Words text) ≡ true
has_local_names-Words text = ap node_has_local_names (sym (rolls-Words text)) ∙ fold-roll-Node Bool Bool node_with_element element_with_children (Node-F.Words text)

-- ---- a name is its characters in UTF-8

either : {P : Type 0} (x y : Bool) → (x ≡ true → P) → (y ≡ true → P) → (x || y) ≡ true → P
either x y f g h = elim (or_cases x y h) [ inl a ↦ f a | inr b ↦ g b ]

between : (low high c : ℕ) → is_between low high c ≡ true → (low ≤ c) × (c ≤ high)
between low high c h =
    let both = and_parts (nat_le low c) (nat_le c high) h in
    (leb-true low c both.0, leb-true c high both.1)

high_scalar : (c : ℕ) → 57344 ≤ c → c < 1114112 → scalar c ≡ true
high_scalar c low high = rw (le-ltb c 55296 (omega (arith, low)), le-leb 57344 c low, lt-ltb c 1114112 high) refl

pub xml_char_is_scalar : (c : ℕ) → is_xml_char c ≡ true → scalar c ≡ true
xml_char_is_scalar c =
    either _ _ (either _ _ (either _ _ (either _ _ (either _ _
    (λ (e : (c == 9) ≡ true). low_scalar c (omega (arith, eqb-true c 9 e)))
    (λ (e : (c == 10) ≡ true). low_scalar c (omega (arith, eqb-true c 10 e))))
    (λ e. low_scalar c (omega (arith, eqb-true c 13 e))))
    (λ e. let b = between 0x20 0xD7FF c e in low_scalar c (omega (arith, b.1))))
    (λ e. let b = between 0xE000 0xFFFD c e in high_scalar c b.0 (omega (arith, b.1))))
    (λ e. let b = between 0x10000 0x10FFFF c e in high_scalar c (omega (arith, b.0)) (omega (arith, b.1)))

name_start_is_scalar : (c : ℕ) → is_name_start c ≡ true → scalar c ≡ true
name_start_is_scalar c =
    either _ _ (either _ _ (either _ _
    (λ e. let b = between 65 90 c e in low_scalar c (omega (arith, b.1)))
    (λ e. let b = between 97 122 c e in low_scalar c (omega (arith, b.1))))
    (λ e. low_scalar c (omega (arith, eqb-true c 95 e))))
    (λ e. xml_char_is_scalar c (and_parts (nat_le 128 c) (is_xml_char c) e).1)

name_char_is_scalar : (c : ℕ) → is_name_char c ≡ true → scalar c ≡ true
name_char_is_scalar c =
    either _ _ (either _ _ (either _ _
    (name_start_is_scalar c)
    (λ e. let b = between 48 57 c e in low_scalar c (omega (arith, b.1))))
    (λ e. low_scalar c (omega (arith, eqb-true c 46 e))))
    (λ e. low_scalar c (omega (arith, eqb-true c 45 e)))

name_chars_are_scalars : (cs : List ℕ) → list_all is_name_char cs ≡ true → scalars cs ≡ true
name_chars_are_scalars [] h = refl
name_chars_are_scalars (c ∷ cs) h =
    let both = and_parts (is_name_char c) (list_all is_name_char cs) h in
    and_from (scalar c) (scalars cs) (name_char_is_scalar c both.0) (name_chars_are_scalars cs both.1)

encoded_name : (cs local : List ℕ) → is_local_name cs ≡ true → local ≡ encode_utf8_all cs → spells_local_name local ≡ true
encoded_name cs local h e =
    let are = name_chars_are_scalars cs (and_parts (begins_as_name cs) (list_all is_name_char cs) h).1 in
    and_from (is_utf8 local) (is_local_name (chars local)) (is_utf8-from_IsUtf8 local (cs, (are, sym e)))
    (ap (λ (x : List ℕ). is_local_name (chars x)) e ∙ ap is_local_name (chars-encodes cs are) ∙ h)

spelled_name : (prefix : Option (List ℕ)) (local cs : List ℕ) → SpellsName prefix local cs → spells_local_name local ≡ true
spelled_name None local cs h = encoded_name cs local h.0 h.1
spelled_name (Some p) local cs (a, b, ha, hb, pa, lb, whole) = encoded_name b local hb lb

-- ---- each tag of a document has a local name

abbrev piece_has_local_name : Piece → Bool
piece_has_local_name (Start t) = spells_local_name t.name.local
piece_has_local_name (Empty t) = spells_local_name t.name.local
piece_has_local_name (End n) = true
piece_has_local_name Comment = true
piece_has_local_name Instruction = true
piece_has_local_name (Data d) = true

spelled_piece : (p : Piece) (cs : List ℕ) → IsPiece p cs → piece_has_local_name p ≡ true
spelled_piece (Start t) cs h = spelled_name t.name.prefix t.name.local h.0 h.3
spelled_piece (Empty t) cs h = spelled_name t.name.prefix t.name.local h.0 h.3
spelled_piece (End n) cs h = refl
spelled_piece Comment cs h = refl
spelled_piece Instruction cs h = refl
spelled_piece (Data d) cs h = refl

spelled_pieces : (ps : List Piece) (cs : List ℕ) → Spelled IsPiece ps cs → list_all piece_has_local_name ps ≡ true
spelled_pieces [] cs h = refl
spelled_pieces (p ∷ ps) cs (x, y, hp, hps, parts) = and_from (piece_has_local_name p) (list_all piece_has_local_name ps) (spelled_piece p x hp) (spelled_pieces ps y hps)

-- ---- what holds of each item of a list holds of each item of its parts

parts_hold : {A : Type 0} (p : A → Bool) (xs ys : List A) → list_all p (xs ++ ys) ≡ true → (list_all p xs ≡ true) × (list_all p ys ≡ true)
parts_hold p xs ys h = and_parts (list_all p xs) (list_all p ys) (sym (list_all-append p xs ys) ∙ h)

pub both_hold : {A : Type 0} (p : A → Bool) (xs ys : List A) → list_all p xs ≡ true → list_all p ys ≡ true → list_all p (xs ++ ys) ≡ true
both_hold p xs ys h k = list_all-append p xs ys ∙ and_from (list_all p xs) (list_all p ys) h k

-- ---- the tree

abbrev HaveNames : List Piece → Type 0
HaveNames ps = list_all piece_has_local_name ps ≡ true

abbrev HoldNames : List Node → Type 0
HoldNames ns = list_all node_has_local_names ns ≡ true

names_with_words : (children : List Node) (words : List ℕ) → HoldNames children → HoldNames (with_words children words)
names_with_words children [] h = h
names_with_words children (b ∷ bs) h = both_hold node_has_local_names children (Words (b ∷ bs) ∷ []) h (and_from (node_has_local_names (Words (b ∷ bs))) true (has_local_names-Words (b ∷ bs)) refl)

names_with_child : (children : List Node) (words : List ℕ) (e : Element) → HoldNames children → has_local_names e ≡ true → HoldNames (with_words children words ++ (Child e ∷ []))
names_with_child children words e h k = both_hold node_has_local_names (with_words children words) (Child e ∷ []) (names_with_words children words h)
    (and_from (node_has_local_names (Child e)) true (has_local_names-Child e ∙ k) refl)

names_of_element : (t : Tag) (children : List Node) → spells_local_name t.name.local ≡ true → HoldNames children → has_local_names (element_of t children) ≡ true
names_of_element t children h k = has_local_names-Element (element_of t children) ∙ and_from (spells_local_name t.name.local) (list_all node_has_local_names children) h k

-- the tags round an element, and the pieces between them
between_tags : (t : Tag) (inside : List Piece) → HaveNames (Start t ∷ (inside ++ (End t.name ∷ []))) → (spells_local_name t.name.local ≡ true) × HaveNames inside
between_tags t inside h =
    let both = and_parts (piece_has_local_name (Start t)) (list_all piece_has_local_name (inside ++ (End t.name ∷ []))) h in
    (both.0, (parts_hold piece_has_local_name inside (End t.name ∷ []) both.1).0)

names_of_content : (ps : List Piece) (children : List Node) (words : List ℕ) → IsContent ps children words → HaveNames ps → HoldNames children
names_of_content ps children words nothing h = refl
names_of_content ps children words (comment qs before old c) h = names_of_content qs before old c (parts_hold piece_has_local_name qs (Comment ∷ []) h).0
names_of_content ps children words (instruction qs before old c) h = names_of_content qs before old c (parts_hold piece_has_local_name qs (Instruction ∷ []) h).0
names_of_content ps children words (character qs before old d c) h = names_of_content qs before old c (parts_hold piece_has_local_name qs (Data d ∷ []) h).0
names_of_content ps children words (empty qs before old t c) h =
    let parts = parts_hold piece_has_local_name qs (Empty t ∷ []) h in
    let named = (and_parts (piece_has_local_name (Empty t)) true parts.1).0 in
    names_with_child before old (element_of t []) (names_of_content qs before old c parts.0) (names_of_element t [] named refl)
names_of_content ps children words (element qs before old t inside inner text c k) h =
    let parts = parts_hold piece_has_local_name qs (Start t ∷ (inside ++ (End t.name ∷ []))) h in
    let tags = between_tags t inside parts.1 in
    let within = names_with_words inner text (names_of_content inside inner text k tags.1) in
    names_with_child before old (element_of t (with_words inner text)) (names_of_content qs before old c parts.0) (names_of_element t (with_words inner text) tags.0 within)

names_of_root : (ps : List Piece) (e : Element) → IsElement ps e → HaveNames ps → has_local_names e ≡ true
names_of_root ps e (empty_tag t) h = names_of_element t [] (and_parts (piece_has_local_name (Empty t)) true h).0 refl
names_of_root ps e (tags t inside inner text c) h =
    let between = between_tags t inside h in
    names_of_element t (with_words inner text) between.0 (names_with_words inner text (names_of_content inside inner text c between.1))

names_of_document : (ps : List Piece) (root : Element) → IsDocument ps root → HaveNames ps → has_local_names root ≡ true
names_of_document ps root d h =
    let whole : HaveNames (d.before ++ (d.inside ++ d.after)) = ap (list_all piece_has_local_name) (sym d.parts) ∙ h in
    let behind = (parts_hold piece_has_local_name d.before (d.inside ++ d.after) whole).1 in
    names_of_root d.inside root d.inside_is (parts_hold piece_has_local_name d.inside d.after behind).0

pub document_has_local_names : (bytes : List ℕ) (doc : Doc) → IsDoc bytes doc → has_local_names doc.root ≡ true
document_has_local_names bytes doc h = names_of_document h.pieces doc.root h.document (spelled_pieces h.pieces (body_of bytes) h.spells)

pub read_names : (bytes : List ℕ) (r : Result Doc DocRefused) → IfOk r (λ doc. IsDoc bytes doc) → IfOk r (λ doc. has_local_names doc.root ≡ true)
read_names bytes (Ok doc) h = document_has_local_names bytes doc h
read_names bytes (Err refusal) h = tt
