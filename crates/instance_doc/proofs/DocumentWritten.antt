-- The document of an instance is read back as what was given.
use Rattle.std.proofs.Common.{◌≡◌, ℕ, ◌≤◌, ◌&&◌, Bool, true, false, cond, List, [], ◌∷◌, ◌++◌, Option, Some}
use Rattle.std.proofs.Common.{None, codes, refl, sym, ap, subst, ◌∙◌, arith, append_assoc, encode_utf8_all, map, length}
use Rattle.std.specs.Prelude.{option_map, option_and_then, unwrap_or}
use Rattle.std.specs.List.{list_all}
use Rattle.std.specs.Option.{option_map_or}
use Rattle.std.specs.Str.{chars, is_utf8}
use Rattle.std.proofs.Math.Utf8.{encode, scalars}
use Rattle.std.proofs.lemmas.Bool.{and_parts}
use Rattle.std.proofs.lemmas.List.{append-nil}
use Rattle.std.proofs.lemmas.Str.{chars-encodes, encodes-append, encodes-chars, IsUtf8-from_is_utf8}
use Rattle.field_text.specs.Xml.{is_xml_char, xml_char_of}
use Rattle.form_def.specs.declared.field.Field.{Field}
use Rattle.form_def.specs.declared.form.FormDef.{FormDef}
use Rattle.form_def.specs.Fields.{have_paths}
use Rattle.form_def.specs.Paths.{is_path}
use Rattle.rosa_pieces.specs.declared.piece.Name.{Name}
use Rattle.rosa_pieces.specs.declared.piece.Tag.{Tag}
use Rattle.rosa_pieces.specs.declared.piece.Attribute.{Attribute}
use Rattle.rosa_pieces.specs.declared.piece.Piece.TheVariants.{Instruction, End}
use Rattle.rosa_pieces.specs.Pieces.{IsPiece, Spelled}
use Rattle.rosa_doc.specs.declared.tree.Element.{Element}
use Rattle.rosa_doc.specs.declared.tree.Node.{Node}
use Rattle.rosa_doc.specs.declared.tree.Node.TheVariants.{Child}
use Rattle.rosa_doc.specs.Documents.{body_of, element_of, past_mark, with_words}
use Rattle.rosa_doc.specs.LocalNames.{spells_local_name}
use Rattle.rosa_doc.specs.Machine.{After, Before, Within, opened, step}
use Rattle.rosa_doc.specs.Reading.{HasReached}
use Rattle.rosa_doc.specs.Refusals.{IsDoc, longest_document}
use Rattle.rosa_doc.proofs.Names.{name_alike}
use Rattle.rosa_doc.proofs.Reached.{reached_more, reached_start}
use Rattle.rosa_doc.proofs.Runs.{after_is_document}
use Rattle.rosa_nodes.specs.Nodes.{child_named, words_of}
use Rattle.rosa_nodes.proofs.NodeLemmas.{words_in-Words}
use Rattle.rosa_nodes.proofs.Scalars.{scalars-append}
use Rattle.rosa_nodes.proofs.Written.{Written, level, written_then}
use Rattle.instance_doc.specs.declared.instance.Read.{Read}
use Rattle.instance_doc.specs.declared.meta.Meta.{Meta}
use Rattle.instance_doc.specs.Markup.{attribute, end_tag, in_utf8}
use Rattle.instance_doc.specs.Rows.{Row, meta_path, rows_of}
use Rattle.instance_doc.specs.Elements.{field_text, fields_text, placed}
use Rattle.instance_doc.specs.Documents.{declaration, doc_of, document, document_limit, meta_text, namespaces}
use Rattle.instance_doc.specs.Documents.{root_content, root_tag, root_text}
use Rattle.instance_doc.specs.Instances.{ReadsAs, read_of, text_in_meta}
use Rattle.instance_doc.specs.Trees.{HasFields, field_nodes, fields_nodes, kept_text}
use Rattle.instance_doc.specs.ReadBack.{are_kept, are_right, given, is_kept, is_no_meta, is_readable, is_right}
use Rattle.instance_doc.proofs.Tags.{AttributesAre, NameIs, attribute_is, end_written, no_attributes, own, own_name}
use Rattle.instance_doc.proofs.Tags.{start_written, tag, with_attribute}
use Rattle.instance_doc.proofs.Parts.{Parts, first_child, has_path, outermost_deep, parts_other, parts_written}
use Rattle.instance_doc.proofs.Parts.{placed_named, placed_parts, skipped}
use Rattle.instance_doc.proofs.MetaWritten.{alone, deprecated_found, deprecated_read, instance_id_read, meta_element}
use Rattle.instance_doc.proofs.MetaWritten.{meta_nodes, meta_written}

-- ---- the root's tag

abbrev xmlns : List ℕ → Name
xmlns local = record { prefix = Some (codes "xmlns"); local = local }

orx_is : NameIs (xmlns (codes "orx")) (codes "xmlns:orx")
unfolding encode chars
orx_is = record {
  spelled = codes "xmlns:orx";
  is = (codes "xmlns", codes "orx", refl, refl, refl, refl, refl);
  utf8 = refl;
  are_scalars = refl;
}

entities_is : NameIs (xmlns (codes "entities")) (codes "xmlns:entities")
unfolding encode chars
entities_is = record {
  spelled = codes "xmlns:entities";
  is = (codes "xmlns", codes "entities", refl, refl, refl, refl, refl);
  utf8 = refl;
  are_scalars = refl;
}

id_is : NameIs (alone (codes "id")) (codes "id")
unfolding encode chars
id_is = record { spelled = codes "id"; is = (refl, refl); utf8 = refl; are_scalars = refl }

version_is : NameIs (alone (codes "version")) (codes "version")
unfolding encode chars
version_is = record { spelled = codes "version"; is = (refl, refl); utf8 = refl; are_scalars = refl }

abbrev orx_space : List ℕ
orx_space = codes "http://openrosa.org/xforms"

abbrev entities_space : List ℕ
entities_space = codes "http://www.opendatakit.org/xforms/entities"

abbrev with_value : Name → List ℕ → Attribute
with_value n value = record { name = n; value = kept_text value }

abbrev root_attribute_list : FormDef → List Attribute
root_attribute_list form = with_value (xmlns (codes "orx")) orx_space ∷ with_value
    (xmlns (codes "entities")) entities_space
    ∷ with_value (alone (codes "id")) form.id ∷ with_value (alone (codes "version")) form.version ∷ []

abbrev attribute_bytes : FormDef → List ℕ
attribute_bytes form = attribute (codes "xmlns:orx") orx_space ++ (attribute (codes "xmlns:entities") entities_space
    ++ (attribute (codes "id") form.id ++ (attribute (codes "version") form.version ++ [])))

root_attributes_are : (form : FormDef) → AttributesAre (root_attribute_list form) (attribute_bytes form)
unfolding encode
root_attributes_are form =
    let orx = with_value (xmlns (codes "orx")) orx_space in
    let entities = with_value (xmlns (codes "entities")) entities_space in
    let id = with_value (alone (codes "id")) form.id in
    let version = with_value (alone (codes "version")) form.version in
    let b4 = attribute (codes "version") form.version ++ [] in
    let b3 = attribute (codes "id") form.id ++ b4 in
    let b2 = attribute (codes "xmlns:entities") entities_space ++ b3 in
    with_attribute orx (entities ∷ id ∷ version ∷ []) (attribute (codes "xmlns:orx") orx_space) b2
    (attribute_is (xmlns (codes "orx")) (codes "xmlns:orx") orx_space orx_is)
    (with_attribute entities (id ∷ version ∷ []) (attribute (codes "xmlns:entities") entities_space) b3
    (attribute_is (xmlns (codes "entities")) (codes "xmlns:entities") entities_space entities_is)
    (with_attribute id (version ∷ []) (attribute (codes "id") form.id) b4
    (attribute_is (alone (codes "id")) (codes "id") form.id id_is)
    (with_attribute version [] (attribute (codes "version") form.version) []
    (attribute_is (alone (codes "version")) (codes "version") form.version version_is) no_attributes refl) refl) refl)
    refl

namespaces_are : namespaces ≡ attribute (codes "xmlns:orx") orx_space ++ attribute
    (codes "xmlns:entities") entities_space
unfolding encode chars namespaces
namespaces_are = refl

-- the parts of the tag, however they are put together
regrouped : (r n a b i v g : List ℕ) → n ≡ a ++ b
    → 60 ∷ (r ++ ((a ++ (b ++ (i ++ (v ++ [])))) ++ g)) ≡ (60 ∷ (r ++ n)) ++ ((i ++ v) ++ g)
regrouped r n a b i v g e =
    let inside : a ++ (b ++ (i ++ (v ++ []))) ≡ n ++ (i ++ v) =
    ap (λ (x : List ℕ). a ++ (b ++ (i ++ x))) (append-nil v)
    ∙ (sym (append_assoc a b (i ++ v)) ∙ ap (λ (x : List ℕ). x ++ (i ++ v)) (sym e)) in
    ap (λ (x : List ℕ). 60 ∷ (r ++ (x ++ g))) inside
    ∙ ap (λ (x : List ℕ). 60 ∷ x)
    (ap (λ (x : List ℕ). r ++ x) (append_assoc n (i ++ v) g) ∙ sym (append_assoc r n ((i ++ v) ++ g)))

tag_text : (form : FormDef) → codes "<" ++ (in_utf8 form.root ++ (attribute_bytes form ++ codes ">")) ≡ root_tag form
unfolding encode
tag_text form =
    regrouped (in_utf8 form.root) namespaces (attribute (codes "xmlns:orx") orx_space)
    (attribute (codes "xmlns:entities") entities_space)
    (attribute (codes "id") form.id) (attribute (codes "version") form.version) (codes ">") namespaces_are

-- ---- the root

abbrev root_tag_of : FormDef → Tag
root_tag_of form = tag (own form.root) (root_attribute_list form)

abbrev root_element : FormDef → List Node → Element
root_element form nodes = element_of (root_tag_of form) (with_words nodes [])

root_written : (form : FormDef) (rows : List Row) (meta : Meta) → spells_local_name form.root ≡ true
    → list_all (has_path form.root) rows ≡ true
    → Parts (meta_path form.root []) (placed (field_text (meta_path form.root [])) rows)
    (placed (field_nodes (meta_path form.root [])) rows)
    → Written Before
    (After (root_element form (fields_nodes form.root rows ++ (Child (meta_element form rows meta) ∷ []))))
    (root_text form rows meta)
root_written form rows meta name paths w =
    let path = meta_path form.root [] in
    let ps = placed (field_text path) rows in
    let qs = placed (field_nodes path) rows in
    let t = root_tag_of form in
    let nodes = fields_nodes form.root rows in
    let all = nodes ++ (Child (meta_element form rows meta) ∷ []) in
    let is = own_name form.root name in
    let s1 = Within (opened t) [] in
    let s2 = Within (level t nodes) [] in
    let s3 = Within (level t all) [] in
    let s4 = After (root_element form all) in
    let ended : step s3 false (End (own form.root)) ≡ Some s4 = ap (λ (b : Bool). cond b (Some s4) None)
    (name_alike (own form.root)) in
    let start = subst (λ (x : List ℕ). Written Before s1 x) (tag_text form)
    (start_written Before s1 (own form.root) form.root (attribute_bytes form) (root_attribute_list form) is
    (root_attributes_are form) refl (omega arith)) in
    written_then Before s1 s4 (root_tag form) (root_content form rows meta ++ end_tag form.root) start
    (written_then s1 s3 s4 (root_content form rows meta) (end_tag form.root)
    (written_then s1 s2 s3 (fields_text form.root rows) (meta_text form rows meta)
    (parts_written path ps qs w t [] [] (outermost_deep form.root ps (placed_named form.root path rows paths)))
    (meta_written form rows meta t nodes))
    (end_written s3 s4 (own form.root) form.root is ended))

-- ---- the document, whose declaration is an instruction

no_opening : {P : Type 0} → false ≡ true → P
no_opening e = absurd cc

behind_instruction : (x rest : List ℕ) (root : Element) → IsPiece Instruction (60 ∷ x) → scalars (60 ∷ x) ≡ true
    → Written Before (After root) rest → length (encode_utf8_all (60 ∷ x) ++ rest) ≤ longest_document
    → IsDoc (encode_utf8_all (60 ∷ x) ++ rest) (record { root = root })
behind_instruction x rest root is scalar_x w low =
    let cs = (60 ∷ x) ++ w.characters in
    let utf8 : encode_utf8_all cs ≡ encode_utf8_all (60 ∷ x) ++ rest = encodes-append (60 ∷ x) w.characters
    ∙ ap (λ (b : List ℕ). encode_utf8_all (60 ∷ x) ++ b) w.utf8 in
    let are = scalars-append (60 ∷ x) w.characters scalar_x w.are_scalars in
    let body : body_of (encode_utf8_all (60 ∷ x) ++ rest) ≡ cs = ap past_mark
    (ap chars (sym utf8) ∙ chars-encodes cs are) in
    let begun = reached_more cs cs w.characters Before Before false Instruction (60 ∷ x)
    (reached_start cs) is refl refl no_opening in
    let h = w.moves cs []
    (subst (λ (y : List ℕ). HasReached cs Before false y) (sym (append-nil w.characters)) begun) in
    let spelled : cs ≡ h.first.spelled = h.first.parts ∙ append-nil h.first.spelled in
    record {
      pieces = h.pieces;
      text = (low, (cs, (are, utf8)));
      spells = subst (λ (y : List ℕ). Spelled IsPiece h.pieces y) (sym (body ∙ spelled)) h.first.spells;
      shallow = h.shallow;
      document = after_is_document h.pieces root h.runs;
    }

abbrev declared : List ℕ
declared = codes "?xml version=\"1.0\" encoding=\"UTF-8\"?>"

declaration_is : encode_utf8_all (60 ∷ declared) ≡ declaration
unfolding encode declaration
declaration_is = refl

is_instruction : IsPiece Instruction (60 ∷ declared)
unfolding encode
is_instruction = (codes "xml version=\"1.0\" encoding=\"UTF-8\"", refl, refl, refl)

is_scalars : scalars (60 ∷ declared) ≡ true
unfolding encode
is_scalars = refl

document_is : (form : FormDef) (rows : List Row) (meta : Meta) (root : Element)
    → Written Before (After root) (root_text form rows meta)
    → length (document form rows meta) ≤ document_limit → IsDoc (document form rows meta) (record { root = root })
document_is form rows meta root w low =
    subst (λ (x : List ℕ). IsDoc (x ++ root_text form rows meta) (record { root = root })) declaration_is
    (behind_instruction declared (root_text form rows meta) root is_instruction is_scalars w
    (let same : length (encode_utf8_all (60 ∷ declared) ++ root_text form rows meta) ≡ length
    (document form rows meta) =
    ap (λ (x : List ℕ). length (x ++ root_text form rows meta)) declaration_is in omega (arith, low, same)))

-- ---- what is read

all_stay : (cs : List ℕ) → list_all is_xml_char cs ≡ true → map xml_char_of cs ≡ cs
all_stay [] h = refl
all_stay (c ∷ cs) h =
    let both = and_parts (is_xml_char c) (list_all is_xml_char cs) h in
    let first : xml_char_of c ≡ c = ap (λ (b : Bool). cond b c 0xFFFD) both.0 in
    ap (λ (x : ℕ). x ∷ map xml_char_of cs) first ∙ ap (λ (x : List ℕ). c ∷ x) (all_stay cs both.1)

kept_stays : (text : List ℕ) → is_kept text ≡ true → kept_text text ≡ text
kept_stays text h =
    let both = and_parts (is_utf8 text) (list_all is_xml_char (chars text)) h in
    ap encode_utf8_all (all_stay (chars text) both.1) ∙ encodes-chars text (IsUtf8-from_is_utf8 text both.0)

words_are : (text : List ℕ) → words_of (with_words [] text) ≡ text
words_are [] = refl
words_are (b ∷ bs) = append-nil _ ∙ words_in-Words (b ∷ bs)

abbrev words_in : Element → List ℕ
words_in e = words_of e.children

found_in_meta : (name : List ℕ) (nodes : List Node) (form : FormDef) (rows : List Row) (meta : Meta)
    → child_named (codes "meta") nodes ≡ None
    → text_in_meta name
    (root_element form (nodes ++ (Child (meta_element form rows meta) ∷ []))) ≡ option_map
    words_in (child_named name (meta_nodes form rows meta))
unfolding encode
found_in_meta name nodes form rows meta none =
    ap (λ (o : Option Element). option_and_then (λ (m : Element). option_map words_in (child_named name m.children)) o)
    (skipped (codes "meta") nodes (Child (meta_element form rows meta) ∷ []) none
    ∙ first_child (codes "meta") (meta_element form rows meta) [])

deprecated_stays : (deprecated : Option (List ℕ)) → option_map_or is_kept deprecated true ≡ true
    → option_map words_in (deprecated_found deprecated) ≡ deprecated
deprecated_stays None h = refl
deprecated_stays (Some id) h = ap (λ (x : List ℕ). Some x) (words_are (kept_text id) ∙ kept_stays id h)

same_read : (a b : Read) → a.form_id ≡ b.form_id → a.version ≡ b.version → a.instance_id ≡ b.instance_id
    → a.deprecated ≡ b.deprecated → a ≡ b
same_read a b id version instance_id deprecated =
    ap (λ (x : List ℕ). record a { form_id = x }) id
    ∙ (ap (λ (x : List ℕ). record a { form_id = b.form_id; version = x }) version
    ∙ (ap (λ (x : List ℕ). record a { form_id = b.form_id; version = b.version; instance_id = x }) instance_id
    ∙ ap (λ (x : Option (List ℕ)). record b { deprecated = x }) deprecated))

record AreKept (form : FormDef) (meta : Meta) : Type 0 where
  id : is_kept form.id ≡ true
  version : is_kept form.version ≡ true
  instance_id : is_kept meta.instance_id ≡ true
  deprecated : option_map_or is_kept meta.deprecated true ≡ true

kept_parts : (form : FormDef) (meta : Meta) → are_kept form meta ≡ true → AreKept form meta
kept_parts form meta h =
    let c = and_parts _ (option_map_or is_kept meta.deprecated true) h in
    let b = and_parts _ (is_kept meta.instance_id) c.0 in
    let a = and_parts (is_kept form.id) (is_kept form.version) b.0 in
    record { id = a.0; version = a.1; instance_id = b.1; deprecated = c.1 }

form_id_read : (form : FormDef) (nodes : List Node) → (read_of (root_element form nodes)).form_id ≡ kept_text form.id
unfolding encode
form_id_read form nodes = refl

version_read : (form : FormDef) (nodes : List Node)
    → (read_of (root_element form nodes)).version ≡ kept_text form.version
unfolding encode
version_read form nodes = refl

read_is : (form : FormDef) (rows : List Row) (meta : Meta) (nodes : List Node) → child_named (codes "meta") nodes ≡ None
    → are_kept form meta ≡ true
    → read_of (root_element form (nodes ++ (Child (meta_element form rows meta) ∷ []))) ≡ given form meta
read_is form rows meta nodes none kept =
    let all = nodes ++ (Child (meta_element form rows meta) ∷ []) in
    let k = kept_parts form meta kept in
    same_read (read_of (root_element form all)) (given form meta)
    (form_id_read form all ∙ kept_stays form.id k.id)
    (version_read form all ∙ kept_stays form.version k.version)
    (ap (λ (o : Option (List ℕ)). unwrap_or o [])
    (found_in_meta (codes "instanceID") nodes form rows meta none
    ∙ ap (λ (o : Option Element). option_map words_in o) (instance_id_read form rows meta))
    ∙ (words_are (kept_text meta.instance_id) ∙ kept_stays meta.instance_id k.instance_id))
    (found_in_meta (codes "deprecatedID") nodes form rows meta none
    ∙ (ap (λ (o : Option Element). option_map words_in o) (deprecated_read form rows meta)
    ∙ deprecated_stays meta.deprecated k.deprecated))

-- ---- the law

rows_have_paths : (root : List ℕ) (fields : List Field) (texts : List (List ℕ)) (shown : List Bool)
    → have_paths root fields ≡ true
    → list_all (has_path root) (rows_of fields texts shown) ≡ true
rows_have_paths root [] texts shown h = refl
rows_have_paths root (f ∷ fields) [] shown h = refl
rows_have_paths root (f ∷ fields) (text ∷ texts) [] h = refl
rows_have_paths root (f ∷ fields) (text ∷ texts) (is_shown ∷ shown) h =
    let both = and_parts (is_path root f.path) (have_paths root fields) h in
    ap (λ (b : Bool). b && list_all (has_path root) (rows_of fields texts shown)) both.0
    ∙ rows_have_paths root fields texts shown both.1

abbrev all_nodes : FormDef → List Row → Meta → List Node
all_nodes form rows meta = fields_nodes form.root rows ++ (Child (meta_element form rows meta) ∷ [])

record Reads (form : FormDef) (rows : List Row) (meta : Meta) : Type 0 where
  document_is : IsDoc (document form rows meta) (record { root = root_element form (all_nodes form rows meta) })
  no_meta : child_named (codes "meta") (fields_nodes form.root rows) ≡ None

reads_so : (form : FormDef) (texts : List (List ℕ)) (shown : List Bool) (meta : Meta)
    → is_readable form (rows_of form.fields texts shown) ≡ true → length (doc_of form texts shown meta) ≤ document_limit
    → Reads form (rows_of form.fields texts shown) meta
reads_so form texts shown meta h low =
    let rows = rows_of form.fields texts shown in
    let path = meta_path form.root [] in
    let ps = placed (field_text path) rows in
    let qs = placed (field_nodes path) rows in
    let names = and_parts (spells_local_name form.root) (are_right path rows) h in
    let right = and_parts (list_all (is_right path) rows) (list_all (is_no_meta path) ps) names.1 in
    let paths = rows_have_paths form.root form.fields texts shown form.paths_named in
    let w = placed_parts form.root path rows paths right.0 in
    let root = root_element form (all_nodes form rows meta) in
    record {
      document_is = document_is form rows meta root (root_written form rows meta names.0 paths w) low;
      no_meta = parts_other path ps qs w right.1;
    }

pub document_reads : (form : FormDef) (texts : List (List ℕ)) (shown : List Bool) (meta : Meta)
    → is_readable form (rows_of form.fields texts shown) ≡ true → are_kept form meta ≡ true
    → length (doc_of form texts shown meta) ≤ document_limit → ReadsAs (doc_of form texts shown meta) (given form meta)
document_reads form texts shown meta h kept low =
    let rows = rows_of form.fields texts shown in
    let reads = reads_so form texts shown meta h low in (
      record { root = root_element form (all_nodes form rows meta) },
      reads.document_is,
      sym (read_is form rows meta (fields_nodes form.root rows) reads.no_meta kept),
    )

root_children : (form : FormDef) (nodes : List Node) → (root_element form nodes).children ≡ nodes
root_children form nodes = refl

meta_named : (form : FormDef) (rows : List Row) (meta : Meta) → (meta_element form rows meta).name ≡ codes "meta"
meta_named form rows meta = refl

pub document_has_fields : (form : FormDef) (texts : List (List ℕ)) (shown : List Bool) (meta : Meta)
    → is_readable form (rows_of form.fields texts shown) ≡ true → length (doc_of form texts shown meta) ≤ document_limit
    → HasFields (doc_of form texts shown meta) form.root (rows_of form.fields texts shown)
document_has_fields form texts shown meta h low =
    let rows = rows_of form.fields texts shown in
    let reads = reads_so form texts shown meta h low in
    let all = all_nodes form rows meta in
    record {
      doc = record { root = root_element form all };
      document = reads.document_is;
      meta = meta_element form rows meta;
      named = meta_named form rows meta;
      fields = root_children form all;
    }
