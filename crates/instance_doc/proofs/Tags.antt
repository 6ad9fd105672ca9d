-- Tags and elements as they are written, followed by the steps of the reader.
use Rattle.std.proofs.Common.{◌≡◌, ℕ, ◌<◌, ◌+◌, ◌==◌, ◌&&◌, Bool, true, false, cond, List, [], ◌∷◌, ◌++◌, Some, None}
use Rattle.std.proofs.Common.{codes, refl, sym, ap, subst, ◌∙◌, inl, inr, not, arith, encode_utf8_all, length}
use Rattle.std.specs.List.{flat_map, list_any}
use Rattle.std.specs.Str.{chars, is_utf8}
use Rattle.std.proofs.Math.Utf8.{encode, scalar, scalars}
use Rattle.std.proofs.lemmas.Bool.{and_from, and_parts, eqb-true, or_cases}
use Rattle.std.proofs.lemmas.Str.{encodes-append, scalars-chars, IsUtf8-from_is_utf8}
use Rattle.field_text.specs.Xml.{is_local_name}
use Rattle.rosa_pieces.specs.declared.piece.Name.{Name}
use Rattle.rosa_pieces.specs.declared.piece.Tag.{Tag}
use Rattle.rosa_pieces.specs.declared.piece.Attribute.{Attribute}
use Rattle.rosa_pieces.specs.declared.piece.CharData.{CharData}
use Rattle.rosa_pieces.specs.declared.piece.Piece.TheVariants.{Start, Empty, End}
use Rattle.rosa_pieces.specs.Pieces.{IsAttribute, IsName, IsPiece, IsValue, IsValueChar, Spelled, have_different_names}
use Rattle.rosa_pieces.specs.Pieces.{is_quote, same_name}
use Rattle.rosa_doc.specs.declared.tree.Node.{Node}
use Rattle.rosa_doc.specs.declared.tree.Node.TheVariants.{Child}
use Rattle.rosa_doc.specs.Documents.{element_of, with_words}
use Rattle.rosa_doc.specs.Escapes.{in_value}
use Rattle.rosa_doc.specs.LocalNames.{spells_local_name}
use Rattle.rosa_doc.specs.Machine.{Level, State, Within, depth_of, opened, step}
use Rattle.rosa_doc.proofs.Escaping.{value_reads}
use Rattle.rosa_doc.proofs.Names.{name_alike}
use Rattle.rosa_nodes.proofs.Scalars.{data_is_scalars, scalars-append}
use Rattle.rosa_nodes.proofs.Written.{Written, level, piece_written, written_then}
use Rattle.instance_doc.specs.Trees.{kept_text}
use Rattle.instance_doc.specs.Markup.{attribute, element, end_tag, in_utf8, start_tag}

-- ---- names

-- the name of the tree that is written so
pub record NameIs (n : Name) (name : List ℕ) : Type 0 where
  pub spelled : List ℕ
  pub is : IsName n spelled
  pub utf8 : encode_utf8_all spelled ≡ in_utf8 name
  pub are_scalars : scalars spelled ≡ true

abbrev pub own : List ℕ → Name
own name = record { prefix = None; local = in_utf8 name }

pub own_name : (name : List ℕ) → spells_local_name name ≡ true → NameIs (own name) name
own_name name h =
    let parts = and_parts (is_utf8 name) (is_local_name (chars name)) h in
    record {
      spelled = chars name;
      is = (parts.1, refl);
      utf8 = refl;
      are_scalars = scalars-chars name
          (IsUtf8-from_is_utf8 name parts.0);
    }

-- ---- attributes

pub record AttributeIs (a : Attribute) (bytes : List ℕ) : Type 0 where
  pub spelled : List ℕ
  pub is : IsAttribute a spelled
  pub utf8 : encode_utf8_all spelled ≡ bytes
  pub are_scalars : scalars spelled ≡ true

quote_is_scalar : (q : ℕ) → is_quote q ≡ true → scalar q ≡ true
quote_is_scalar q h = elim (or_cases (q == 34) (q == 39) h) [
  | inl e ↦ ap scalar (eqb-true q 34 e)
  | inr e ↦ ap scalar (eqb-true q 39 e)
]

value_chars_are_scalars : (q : ℕ) (ds : List CharData) (x : List ℕ) → Spelled (IsValueChar q) ds x → scalars x ≡ true
value_chars_are_scalars q [] x h = ap scalars h
value_chars_are_scalars q (d ∷ ds) x (y, z, hd, hs, parts) =
    ap scalars parts ∙ scalars-append y z (data_is_scalars d y hd.1) (value_chars_are_scalars q ds z hs)

value_is_scalars : (value cs : List ℕ) → IsValue value cs → scalars cs ≡ true
value_is_scalars value cs (q, ds, inside, quote, spells, said, parts) =
    let mark = quote_is_scalar q quote in
    ap scalars parts ∙ and_from (scalar q) (scalars (inside ++ (q ∷ []))) mark
    (scalars-append inside (q ∷ []) (value_chars_are_scalars q ds inside spells) (and_from (scalar q) true mark refl))

pub attribute_is : (n : Name) (name value : List ℕ) → NameIs n name
    → AttributeIs (record { name = n; value = kept_text value }) (attribute name value)
unfolding encode
attribute_is n name value is =
    let v = value_reads (chars value) in
    let written = 34 ∷ (v.inside ++ (34 ∷ [])) in
    let inside : encode_utf8_all (v.inside ++ (34 ∷ [])) ≡ flat_map in_value (chars value) ++ (34 ∷ []) =
    encodes-append v.inside (34 ∷ []) ∙ ap (λ (x : List ℕ). x ++ (34 ∷ [])) v.utf8 in
    record {
      spelled = 32 ∷ (is.spelled ++ (61 ∷ written));
      is = (
        32 ∷ [],
        is.spelled,
        [],
        [],
        written,
        refl,
        (λ (e : 32 ∷ [] ≡ []). absurd cc),
        is.is,
        refl,
        refl,
        v.value,
        refl,
      );
      utf8 = ap (λ (x : List ℕ). 32 ∷ x) (encodes-append is.spelled (61 ∷ written)
          ∙ (ap (λ (x : List ℕ). x ++ encode_utf8_all (61 ∷ written)) is.utf8
          ∙ ap (λ (x : List ℕ). in_utf8 name ++ (61 ∷ (34 ∷ x))) inside));
      are_scalars = scalars-append is.spelled (61 ∷ written) is.are_scalars
          (value_is_scalars (kept_text value) written v.value);
    }

pub record AttributesAre (attributes : List Attribute) (bytes : List ℕ) : Type 0 where
  pub spelled : List ℕ
  pub are : Spelled IsAttribute attributes spelled
  pub differ : have_different_names attributes ≡ true
  pub utf8 : encode_utf8_all spelled ≡ bytes
  pub are_scalars : scalars spelled ≡ true

abbrev pub no_attributes : AttributesAre [] []
no_attributes = record { spelled = []; are = refl; differ = refl; utf8 = refl; are_scalars = refl }

pub with_attribute : (a : Attribute) (others : List Attribute) (x bytes : List ℕ) → AttributeIs a x
    → AttributesAre others bytes
    → list_any (λ b. same_name a.name b.name) others ≡ false → AttributesAre (a ∷ others) (x ++ bytes)
with_attribute a others x bytes is are new = record {
  spelled = is.spelled ++ are.spelled;
  are = (is.spelled, are.spelled, is.is, are.are, refl);
  differ = ap (λ (b : Bool). not b && have_different_names others) new ∙ are.differ;
  utf8 = encodes-append is.spelled are.spelled
      ∙ (ap (λ (y : List ℕ). y ++ encode_utf8_all are.spelled) is.utf8 ∙ ap (λ (y : List ℕ). x ++ y) are.utf8);
  are_scalars = scalars-append is.spelled are.spelled is.are_scalars are.are_scalars;
}

-- ---- tags

abbrev pub tag : Name → List Attribute → Tag
tag n attributes = record { name = n; attributes = attributes }

no_opening : {P : Type 0} → false ≡ true → P
no_opening e = absurd cc

-- what stands in a start tag, and what closes it
abbrev spelled_tag : List ℕ → List ℕ → List ℕ → List ℕ
spelled_tag name attributes close = 60 ∷ (name ++ (attributes ++ close))

encoded_tag : (n : Name) (name bytes : List ℕ) (attributes : List Attribute) (is : NameIs n name)
    (are : AttributesAre attributes bytes) (close : List ℕ)
    → encode_utf8_all (spelled_tag is.spelled are.spelled close) ≡ 60 ∷
    (in_utf8 name ++ (bytes ++ encode_utf8_all close))
unfolding encode
encoded_tag n name bytes attributes is are close =
    ap (λ (x : List ℕ). 60 ∷ x) (encodes-append is.spelled (are.spelled ++ close)
    ∙ (ap (λ (x : List ℕ). x ++ encode_utf8_all (are.spelled ++ close)) is.utf8
    ∙ ap (λ (x : List ℕ). in_utf8 name ++ x)
    (encodes-append are.spelled close ∙ ap (λ (x : List ℕ). x ++ encode_utf8_all close) are.utf8)))

pub piece_of_start : (n : Name) (name bytes : List ℕ) (attributes : List Attribute) (is : NameIs n name)
    (are : AttributesAre attributes bytes)
    → IsPiece (Start (tag n attributes)) (spelled_tag is.spelled are.spelled (codes ">"))
piece_of_start n name bytes attributes is are = (is.spelled, are.spelled, [], is.is, are.are, are.differ, refl, refl)

pub start_written : (s u : State) (n : Name) (name bytes : List ℕ) (attributes : List Attribute) → NameIs n name
    → AttributesAre attributes bytes
    → step s false (Start (tag n attributes)) ≡ Some u → depth_of s < 16
    → Written s u (codes "<" ++ (in_utf8 name ++ (bytes ++ codes ">")))
unfolding encode
start_written s u n name bytes attributes is are stepped low =
    subst (λ (x : List ℕ). Written s u x) (encoded_tag n name bytes attributes is are (codes ">"))
    (piece_written s u (Start (tag n attributes)) (spelled_tag is.spelled are.spelled (codes ">"))
    (piece_of_start n name bytes attributes is are) refl stepped (λ _. low)
    (scalars-append is.spelled (are.spelled ++ codes ">") is.are_scalars
    (scalars-append are.spelled (codes ">") are.are_scalars refl)))

pub empty_written : (s u : State) (n : Name) (name : List ℕ) → NameIs n name
    → step s false (Empty (tag n [])) ≡ Some u → depth_of s < 16
    → Written s u (codes "<" ++ (in_utf8 name ++ codes "/>"))
unfolding encode
empty_written s u n name is stepped low =
    subst (λ (x : List ℕ). Written s u x) (encoded_tag n name [] [] is no_attributes (codes "/>"))
    (piece_written s u (Empty (tag n [])) (spelled_tag is.spelled [] (codes "/>"))
    (is.spelled, [], [], is.is, refl, refl, refl, refl) refl stepped (λ _. low)
    (scalars-append is.spelled (codes "/>") is.are_scalars refl))

pub end_written : (s u : State) (n : Name) (name : List ℕ) → NameIs n name → step s false (End n) ≡ Some u
    → Written s u (end_tag name)
unfolding encode
end_written s u n name is stepped =
    subst (λ (x : List ℕ). Written s u x)
    (ap (λ (x : List ℕ). 60 ∷ 47 ∷ x) (encodes-append is.spelled (62 ∷ []) ∙ ap (λ (x : List ℕ). x ++ 62 ∷ []) is.utf8))
    (piece_written s u (End n) (60 ∷ 47 ∷ (is.spelled ++ (62 ∷ [])))
    (is.spelled, [], is.is, refl, refl) refl stepped no_opening
    (scalars-append is.spelled (62 ∷ []) is.are_scalars refl))

-- ---- elements

abbrev pub with_content : Tag → List Node → List ℕ → Level
with_content t nodes words = record { tag = t; children = nodes; words = words }

-- bytes that inside an element are these children and then this text, where fewer elements than a number are open
pub record Content (deep : ℕ) (inside : List ℕ) (nodes : List Node) (words : List ℕ) : Type 0 where
  pub none : inside ≡ [] → (nodes ≡ []) × (words ≡ [])
  pub writes : (t : Tag) (outer : List Level) → length outer < deep
      → Written (Within (opened t) outer) (Within (with_content t nodes words) outer) inside

abbrev pub element_node : Name → List Attribute → List Node → List ℕ → Node
element_node n attributes nodes words = Child (element_of (tag n attributes) (with_words nodes words))

-- what the reader gets to by an element
abbrev pub with_node : Tag → List Node → Node → Level
with_node t children node = level t (children ++ node ∷ [])

pub closes : (n : Name) (attributes : List Attribute) (nodes : List Node) (words : List ℕ) (t : Tag)
    (children : List Node) (outer : List Level)
    → step (Within (with_content (tag n attributes) nodes words) (level t children ∷ outer)) false (End n) ≡ Some
    (Within (with_node t children (element_node n attributes nodes words)) outer)
closes n attributes nodes words t children outer =
    ap (λ (b : Bool). cond b (Some (Within (with_node t children (element_node n attributes nodes words)) outer)) None)
    (name_alike n)

pub element_written : (n : Name) (name inside : List ℕ) (nodes : List Node) (words : List ℕ) (deep : ℕ) (t : Tag)
    (children : List Node) (outer : List Level)
    → NameIs n name → Content deep inside nodes words → length outer + 1 < deep → length outer + 1 < 16
    → Written (Within (level t children) outer) (Within (with_node t children (element_node n [] nodes words)) outer)
    (element name inside)
element_written n name [] nodes words deep t children outer is content fits low =
    let none = content.none refl in
    subst (λ (ns : List Node). Written (Within (level t children) outer)
    (Within (with_node t children (element_node n [] ns words)) outer) (element name [])) (sym none.0)
    (subst (λ (ws : List ℕ). Written (Within (level t children) outer)
    (Within (with_node t children (element_node n [] [] ws)) outer) (element name [])) (sym none.1)
    (empty_written (Within (level t children) outer)
    (Within (with_node t children (element_node n [] [] [])) outer) n name is refl low))
element_written n name (b ∷ bs) nodes words deep t children outer is content fits low =
    let s0 = Within (level t children) outer in
    let s1 = Within (opened (tag n [])) (level t children ∷ outer) in
    let s2 = Within (with_content (tag n []) nodes words) (level t children ∷ outer) in
    let s3 = Within (with_node t children (element_node n [] nodes words)) outer in
    written_then s0 s1 s3 (start_tag name) ((b ∷ bs) ++ end_tag name)
    (start_written s0 s1 n name [] [] is no_attributes refl low)
    (written_then s1 s2 s3 (b ∷ bs) (end_tag name)
    (content.writes (tag n []) (level t children ∷ outer) (omega (arith, fits)))
    (end_written s2 s3 n name is (closes n [] nodes words t children outer)))
