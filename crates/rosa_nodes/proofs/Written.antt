-- Markup as it is written, followed by the steps of the reader.
use Rattle.std.proofs.Common.{◌≡◌, ℕ, ◌<◌, ◌≤◌, ◌==◌, ◌&&◌, not, Bool, true, false, cond, List, [], ◌∷◌, ◌++◌, Some, None, refl, sym, ap, subst, ◌∙◌, arith, append_assoc, encode_utf8_all, map, length}
use Rattle.std.specs.List.{flat_map, list_all}
use Rattle.std.specs.Char.{encode_utf8}
use Rattle.std.specs.Str.{bytes_eq, chars, is_utf8}
use Rattle.std.proofs.Math.Utf8.{encode, encodes, scalars}
use Rattle.std.proofs.lemmas.Bool.{and_parts}
use Rattle.std.proofs.lemmas.Slice.Eq.{bytes_eq-Decides}
use Rattle.std.proofs.lemmas.Str.{encodes-append, encodes-chars, chars-encodes, IsUtf8-from_is_utf8}
use Rattle.std.proofs.lemmas.List.{append-nil}
use Rattle.field_text.specs.Xml.{is_xml_char, xml_char_of, is_local_name}
use Rattle.rosa_pieces.specs.declared.piece.Tag.{Tag}
use Rattle.rosa_pieces.specs.declared.piece.Attribute.{Attribute}
use Rattle.rosa_pieces.specs.declared.piece.CharData.TheVariants.{Literal}
use Rattle.rosa_pieces.specs.declared.piece.Piece.{Piece}
use Rattle.rosa_pieces.specs.declared.piece.Piece.TheVariants.{Start, End, Data}
use Rattle.rosa_pieces.specs.Pieces.{IsAttribute, IsPiece, IsValueChar, Spelled, is_literal, read_char, read_value}
use Rattle.rosa_doc.specs.declared.tree.Element.{Element}
use Rattle.rosa_doc.specs.declared.tree.Node.{Node}
use Rattle.rosa_doc.specs.declared.tree.Node.TheVariants.{Child}
use Rattle.rosa_doc.specs.Documents.{body_of, element_of, is_return_piece, past_mark, with_words}
use Rattle.rosa_doc.specs.Escapes.{in_text}
use Rattle.rosa_doc.specs.Machine.{Level, State, Before, Within, After, depth_of, opened, step, with_char}
use Rattle.rosa_doc.specs.Reading.{HasReached}
use Rattle.rosa_doc.specs.Refusals.{IsDoc, longest_document, opens}
use Rattle.rosa_doc.proofs.Escaping.{text_char}
use Rattle.rosa_doc.proofs.Names.{name_alike}
use Rattle.rosa_doc.proofs.Reached.{reached_more, reached_start}
use Rattle.rosa_doc.proofs.Runs.{after_is_document}
use Rattle.rosa_nodes.specs.Trimming.{trimmed}
use Rattle.rosa_nodes.specs.Writing.{Leaf, end_text, is_plain, leaf_text, start_text}
use Rattle.rosa_nodes.proofs.Scalars.{data_is_scalars, scalars-append}

-- from the one state the reader gets into the other by these characters, whatever follows
abbrev Moves : State → State → List ℕ → Type 0
Moves s t x = (cs after : List ℕ) → HasReached cs s false (x ++ after) → HasReached cs t false after

-- these bytes are characters by which the reader gets from the one state into the other
pub record Written (s t : State) (bytes : List ℕ) : Type 0 where
  pub characters : List ℕ
  pub moves : Moves s t characters
  pub utf8 : encode_utf8_all characters ≡ bytes
  pub are_scalars : scalars characters ≡ true

pub nothing_written : (s : State) → Written s s []
nothing_written s = record { characters = []; moves = λ cs after h. h; utf8 = refl; are_scalars = refl }

pub written_then : (s t u : State) (a b : List ℕ) → Written s t a → Written t u b → Written s u (a ++ b)
written_then s t u a b w v = record {
  characters = w.characters ++ v.characters;
  moves = λ cs after h. v.moves cs after (w.moves cs (v.characters ++ after) (subst (λ x. HasReached cs s false x) (append_assoc w.characters v.characters after) h));
  utf8 = encodes-append w.characters v.characters ∙ (ap (λ x. x ++ encode_utf8_all v.characters) w.utf8 ∙ ap (λ x. a ++ x) v.utf8);
  are_scalars = scalars-append w.characters v.characters w.are_scalars v.are_scalars;
}

-- one piece
pub piece_written : (s t : State) (p : Piece) (x : List ℕ) → IsPiece p x → is_return_piece p ≡ false → step s false p ≡ Some t
    → (opens p ≡ true → depth_of s < 16) → scalars x ≡ true → Written s t (encode_utf8_all x)
piece_written s t p x is flag stepped low scalar_x = record {
  characters = x;
  moves = λ cs after h. subst (λ b. HasReached cs t b after) flag (reached_more cs (x ++ after) after s t false p x h is refl stepped low);
  utf8 = refl;
  are_scalars = scalar_x;
}

abbrev with_text : Level → List ℕ → Level
with_text l text = record { tag = l.tag; children = l.children; words = l.words ++ text }

-- one character of a text, and then a whole text
no_opening : {P : Type 0} → false ≡ true → P
no_opening e = absurd cc

char_written : (top : Level) (outer : List Level) (c : ℕ) → Written (Within top outer) (Within (with_text top (encode_utf8 (xml_char_of c))) outer) (in_text c)
char_written top outer c =
    let t = text_char c in
    let said : encode_utf8_all (read_char false t.part) ≡ encode_utf8 (xml_char_of c) = ap encode_utf8_all t.reads ∙ append-nil (encode_utf8 (xml_char_of c)) in
    let w = piece_written (Within top outer) (Within (with_char top false t.part) outer) (Data t.part) t.spelled t.spells t.flag refl no_opening (data_is_scalars t.part t.spelled t.spells) in
    subst (λ (x : List ℕ). Written (Within top outer) (Within (with_text top x) outer) (in_text c)) said
    (subst (λ (x : List ℕ). Written (Within top outer) (Within (with_char top false t.part) outer) x) t.utf8 w)

pub text_written : (top : Level) (outer : List Level) (cs : List ℕ)
    → Written (Within top outer) (Within (with_text top (encode_utf8_all (map xml_char_of cs))) outer) (flat_map in_text cs)
text_written top outer [] =
    subst (λ (x : List ℕ). Written (Within top outer) (Within (record { tag = top.tag; children = top.children; words = x }) outer) []) (sym (append-nil top.words))
    (nothing_written (Within top outer))
text_written top outer (c ∷ cs) =
    let first = encode_utf8 (xml_char_of c) in
    let others = encode_utf8_all (map xml_char_of cs) in
    subst (λ (x : List ℕ). Written (Within top outer) (Within (record { tag = top.tag; children = top.children; words = x }) outer) (in_text c ++ flat_map in_text cs))
    (append_assoc top.words first others)
    (written_then (Within top outer) (Within (with_text top first) outer) (Within (with_text (with_text top first) others) outer) (in_text c) (flat_map in_text cs)
    (char_written top outer c) (text_written (with_text top first) outer cs))

-- ---- tags

abbrev pub plain : List ℕ → Tag
plain name = record { name = record { prefix = None; local = name }; attributes = [] }

-- an ASCII name
pub record IsPlainName (name : List ℕ) : Type 0 where
  pub local : is_local_name name ≡ true
  pub are_scalars : scalars name ≡ true
  pub utf8 : encode_utf8_all name ≡ name

pub start_is_piece : (name : List ℕ) → IsPlainName name → IsPiece (Start (plain name)) (start_text name)
start_is_piece name is = (name, [], [], (is.local, sym is.utf8), refl, refl, refl, refl)

end_is_piece : (name : List ℕ) → IsPlainName name → IsPiece (End (plain name).name) (end_text name)
end_is_piece name is = (name, [], (is.local, sym is.utf8), refl, refl)

-- ---- leaves

abbrev pub level : Tag → List Node → Level
level t children = record { tag = t; children = children; words = [] }

abbrev pub leaf_element : Leaf → Element
leaf_element l = element_of (plain l.name) (with_words [] l.text)

all_stay : (cs : List ℕ) → list_all is_xml_char cs ≡ true → map xml_char_of cs ≡ cs
all_stay [] h = refl
all_stay (c ∷ cs) h =
    let both = and_parts (is_xml_char c) (list_all is_xml_char cs) h in
    let first : xml_char_of c ≡ c = ap (λ (b : Bool). cond b c 0xFFFD) both.0 in
    ap (λ (x : ℕ). x ∷ map xml_char_of cs) first ∙ ap (λ (x : List ℕ). c ∷ x) (all_stay cs both.1)

text_of : (top : Level) (outer : List Level) (text : List ℕ) → is_plain text ≡ true → Written (Within top outer) (Within (with_text top text) outer) (flat_map in_text (chars text))
text_of top outer text plain =
    let all = and_parts (is_utf8 text && list_all is_xml_char (chars text)) (bytes_eq (trimmed text) text) plain in
    let both = and_parts (is_utf8 text) (list_all is_xml_char (chars text)) all.0 in
    let same = ap encode_utf8_all (all_stay (chars text) both.1) ∙ encodes-chars text (IsUtf8-from_is_utf8 text both.0) in
    subst (λ (x : List ℕ). Written (Within top outer) (Within (with_text top x) outer) (flat_map in_text (chars text))) same
    (text_written top outer (chars text))

pub start_is_ascii : (name : List ℕ) → IsPlainName name → encode_utf8_all (start_text name) ≡ start_text name
unfolding encode
start_is_ascii name is = ap (λ (x : List ℕ). 60 ∷ x) (encodes-append name (62 ∷ []) ∙ ap (λ (x : List ℕ). x ++ 62 ∷ []) is.utf8)

end_is_ascii : (name : List ℕ) → IsPlainName name → encode_utf8_all (end_text name) ≡ end_text name
unfolding encode
end_is_ascii name is = ap (λ (x : List ℕ). 60 ∷ 47 ∷ x) (encodes-append name (62 ∷ []) ∙ ap (λ (x : List ℕ). x ++ 62 ∷ []) is.utf8)

-- a start tag of an ASCII name, and an end tag
pub start_written : (s t : State) (name : List ℕ) → IsPlainName name → step s false (Start (plain name)) ≡ Some t → depth_of s < 16 → Written s t (start_text name)
start_written s t name is stepped low =
    subst (λ (x : List ℕ). Written s t x) (start_is_ascii name is)
    (piece_written s t (Start (plain name)) (start_text name) (start_is_piece name is) refl stepped (λ _. low) (scalars-append name (62 ∷ []) is.are_scalars refl))

pub end_written : (s t : State) (name : List ℕ) → IsPlainName name → step s false (End (plain name).name) ≡ Some t → Written s t (end_text name)
end_written s t name is stepped =
    subst (λ (x : List ℕ). Written s t x) (end_is_ascii name is)
    (piece_written s t (End (plain name).name) (end_text name) (end_is_piece name is) refl stepped no_opening (scalars-append name (62 ∷ []) is.are_scalars refl))

pub leaf_written : (l : Leaf) (t : Tag) (children : List Node) (outer : List Level) → IsPlainName l.name → is_plain l.text ≡ true → length outer < 14
    → Written (Within (level t children) outer) (Within (level t (children ++ Child (leaf_element l) ∷ [])) outer) (leaf_text l)
unfolding leaf_text
leaf_written l t children outer name text low =
    let s0 = Within (level t children) outer in
    let s1 = Within (opened (plain l.name)) (level t children ∷ outer) in
    let s2 = Within (with_text (opened (plain l.name)) l.text) (level t children ∷ outer) in
    let s3 = Within (level t (children ++ Child (leaf_element l) ∷ [])) outer in
    let ended : step s2 false (End (plain l.name).name) ≡ Some s3 = ap (λ (b : Bool). cond b (Some s3) None) (name_alike (plain l.name).name) in
    written_then s0 s1 s3 (start_text l.name) (flat_map in_text (chars l.text) ++ end_text l.name)
    (start_written s0 s1 l.name name refl (omega (arith, low)))
    (written_then s1 s2 s3 (flat_map in_text (chars l.text)) (end_text l.name)
    (text_of (opened (plain l.name)) (level t children ∷ outer) l.text text)
    (end_written s2 s3 l.name name ended))

-- ---- nodes, one behind the other

pub nodes_written : {A : Type 0} (text : A → List ℕ) (node : A → Node) (right : A → Bool) (t : Tag) (outer : List Level)
    → ((a : A) (children : List Node) → right a ≡ true → Written (Within (level t children) outer) (Within (level t (children ++ node a ∷ [])) outer) (text a))
    → (items : List A) → list_all right items ≡ true → (children : List Node)
    → Written (Within (level t children) outer) (Within (level t (children ++ map node items)) outer) (flat_map text items)
nodes_written text node right t outer one [] h children =
    subst (λ (ns : List Node). Written (Within (level t children) outer) (Within (level t ns) outer) []) (sym (append-nil children))
    (nothing_written (Within (level t children) outer))
nodes_written text node right t outer one (a ∷ others) h children =
    let both = and_parts (right a) (list_all right others) h in
    let ns = children ++ node a ∷ [] in
    subst (λ (ms : List Node). Written (Within (level t children) outer) (Within (level t ms) outer) (text a ++ flat_map text others))
    (append_assoc children (node a ∷ []) (map node others))
    (written_then (Within (level t children) outer) (Within (level t ns) outer) (Within (level t (ns ++ map node others)) outer) (text a) (flat_map text others)
    (one a children both.0) (nodes_written text node right t outer one others both.1 ns))

-- ---- an element with leaves

abbrev pub leaf_node : Leaf → Node
leaf_node l = Child (leaf_element l)

abbrev pub with_attributes : List ℕ → List Attribute → Tag
with_attributes name attributes = record { name = (plain name).name; attributes = attributes }

abbrev pub is_plain_name : List ℕ → Bool
is_plain_name name = is_local_name name && scalars name && bytes_eq (encode_utf8_all name) name

pub plain_name : (name : List ℕ) → is_plain_name name ≡ true → IsPlainName name
plain_name name h =
    let all = and_parts (is_local_name name && scalars name) (bytes_eq (encode_utf8_all name) name) h in
    let both = and_parts (is_local_name name) (scalars name) all.0 in
    record { local = both.0; are_scalars = both.1; utf8 = (bytes_eq-Decides (encode_utf8_all name) name).0 all.1 }

abbrev pub is_plain_leaf : Leaf → Bool
is_plain_leaf l = is_plain_name l.name && is_plain l.text

one_leaf : (t : Tag) (outer : List Level) → length outer < 14 → (l : Leaf) (children : List Node) → is_plain_leaf l ≡ true
    → Written (Within (level t children) outer) (Within (level t (children ++ leaf_node l ∷ [])) outer) (leaf_text l)
one_leaf t outer low l children h =
    let both = and_parts (is_plain_name l.name) (is_plain l.text) h in
    leaf_written l t children outer (plain_name l.name both.0) both.1 low

pub element_written : (name : List ℕ) (attributes : List Attribute) (x : List ℕ) (leaves : List Leaf) (t : Tag) (children : List Node)
    → is_plain_name name ≡ true → IsPiece (Start (with_attributes name attributes)) x → scalars x ≡ true → list_all is_plain_leaf leaves ≡ true
    → Written (Within (level t children) []) (Within (level t (children ++ Child (element_of (with_attributes name attributes) (map leaf_node leaves)) ∷ [])) []) (encode_utf8_all x ++ (flat_map leaf_text leaves ++ end_text name))
element_written name attributes x leaves t children plain_n is scalar_x h =
    let tag = with_attributes name attributes in
    let s0 = Within (level t children) [] in
    let s1 = Within (level tag []) (level t children ∷ []) in
    let s2 = Within (level tag (map leaf_node leaves)) (level t children ∷ []) in
    let s3 = Within (level t (children ++ Child (element_of tag (map leaf_node leaves)) ∷ [])) [] in
    let ended : step s2 false (End (plain name).name) ≡ Some s3 = ap (λ (b : Bool). cond b (Some s3) None) (name_alike (plain name).name) in
    written_then s0 s1 s3 (encode_utf8_all x) (flat_map leaf_text leaves ++ end_text name)
    (piece_written s0 s1 (Start tag) x is refl refl (λ _. omega arith) scalar_x)
    (written_then s1 s2 s3 (flat_map leaf_text leaves) (end_text name)
    (nodes_written leaf_text leaf_node is_plain_leaf tag (level t children ∷ []) (one_leaf tag (level t children ∷ []) (omega arith)) leaves h [])
    (end_written s2 s3 name (plain_name name plain_n) ended))

-- ---- attributes whose values are characters that stand for themselves

abbrev pub is_plain_value_char : ℕ → Bool
is_plain_value_char c = is_literal c && not (c == 34)

not_false : (b : Bool) → not b ≡ true → b ≡ false
not_false true h = absurd cc
not_false false h = refl

plain_value : (cs : List ℕ) → list_all is_plain_value_char cs ≡ true → Spelled (IsValueChar 34) (map Literal cs) cs
plain_value [] h = refl
plain_value (c ∷ cs) h =
    let both = and_parts (is_plain_value_char c) (list_all is_plain_value_char cs) h in
    let is = and_parts (is_literal c) (not (c == 34)) both.0 in
    (c ∷ [], cs, (not_false (c == 34) is.1, (is.0, refl)), plain_value cs both.1, refl)

abbrev pub plain_attribute : List ℕ → List ℕ → Attribute
plain_attribute name value = record { name = (plain name).name; value = encode_utf8_all (read_value false (map Literal value)) }

abbrev pub attribute_text : List ℕ → List ℕ → List ℕ
attribute_text name value = 32 ∷ (name ++ (61 ∷ (34 ∷ (value ++ (34 ∷ [])))))

attribute_is : (name value : List ℕ) → IsPlainName name → list_all is_plain_value_char value ≡ true → IsAttribute (plain_attribute name value) (attribute_text name value)
attribute_is name value is h = (
  32 ∷ [],
  name,
  [],
  [],
  34 ∷ (value ++ (34 ∷ [])),
  refl,
  (λ (e : 32 ∷ [] ≡ []). absurd cc),
  (is.local, sym is.utf8),
  refl,
  refl,
  (34, map Literal value, value, refl, plain_value value h, refl, refl),
  refl,
)

pub tag_is : (name attribute value : List ℕ) → IsPlainName name → IsPlainName attribute → list_all is_plain_value_char value ≡ true
    → IsPiece (Start (with_attributes name (plain_attribute attribute value ∷ []))) (60 ∷ (name ++ (attribute_text attribute value ++ (62 ∷ []))))
tag_is name attribute value n a h = (
  name,
  attribute_text attribute value,
  [],
  (n.local, sym n.utf8),
  (attribute_text attribute value, [], attribute_is attribute value a h, refl, sym (append-nil (attribute_text attribute value))),
  refl,
  refl,
  refl,
)

-- ---- a document

-- behind the start tag of the root, which begins with `<`
pub document_written : (t : Tag) (x rest : List ℕ) (root : Element) → IsPiece (Start t) (60 ∷ x) → scalars (60 ∷ x) ≡ true
    → Written (Within (opened t) []) (After root) rest → length (encode_utf8_all (60 ∷ x) ++ rest) ≤ longest_document
    → IsDoc (encode_utf8_all (60 ∷ x) ++ rest) (record { root = root })
document_written t x rest root is scalar_x w low =
    let cs = (60 ∷ x) ++ w.characters in
    let utf8 : encode_utf8_all cs ≡ encode_utf8_all (60 ∷ x) ++ rest = encodes-append (60 ∷ x) w.characters ∙ ap (λ (b : List ℕ). encode_utf8_all (60 ∷ x) ++ b) w.utf8 in
    let are = scalars-append (60 ∷ x) w.characters scalar_x w.are_scalars in
    let body : body_of (encode_utf8_all (60 ∷ x) ++ rest) ≡ cs = ap past_mark (ap chars (sym utf8) ∙ chars-encodes cs are) in
    let begun = reached_more cs cs w.characters Before (Within (opened t) []) false (Start t) (60 ∷ x) (reached_start cs) is refl refl (λ _. omega arith) in
    let h = w.moves cs [] (subst (λ (y : List ℕ). HasReached cs (Within (opened t) []) false y) (sym (append-nil w.characters)) begun) in
    let spelled : cs ≡ h.first.spelled = h.first.parts ∙ append-nil h.first.spelled in
    record {
      pieces = h.pieces;
      text = (low, (cs, (are, utf8)));
      spells = subst (λ (y : List ℕ). Spelled IsPiece h.pieces y) (sym (body ∙ spelled)) h.first.spells;
      shallow = h.shallow;
      document = after_is_document h.pieces root h.runs;
    }
