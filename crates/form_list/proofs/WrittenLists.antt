-- What is written is read back as the same items.
use Rattle.std.proofs.Common.{◌≡◌, ℕ, ◌+◌, ◌≤◌, ◌&&◌, nat_le, Bool, true, false, cond, List, [], ◌∷◌, ◌++◌, Option, Some, None, Ok, Err, codes, refl, ap, subst, ◌∙◌, arith, map, length}
use Rattle.std.specs.Prelude.{find, option_map}
use Rattle.std.specs.List.{cons_option, flat_map, list_all}
use Rattle.std.specs.Option.{option_map_or, option_or}
use Rattle.std.specs.Str.{bytes_eq, chars, is_utf8}
use Rattle.std.proofs.Math.Utf8.{encode}
use Rattle.std.proofs.lemmas.Bool.{and_from, and_parts, leb-true, le-ltb}
use Rattle.std.proofs.lemmas.Slice.Eq.{bytes_eq-Decides}
use Rattle.std.proofs.lemmas.List.{append-nil, length-map}
use Rattle.field_ids.specs.Hashes.{is_hash}
use Rattle.field_text.specs.Finds.{◌>>=◌}
use Rattle.field_text.specs.Xml.{is_xml_char}
use Rattle.rosa_pieces.specs.declared.piece.Tag.{Tag}
use Rattle.rosa_pieces.specs.declared.piece.Attribute.{Attribute}
use Rattle.rosa_doc.specs.declared.tree.Element.{Element}
use Rattle.rosa_doc.specs.declared.tree.Node.{Node}
use Rattle.rosa_doc.specs.declared.tree.Node.TheVariants.{Child}
use Rattle.rosa_doc.specs.Documents.{element_of, with_words}
use Rattle.rosa_doc.specs.Refusals.{IsDoc, longest_document}
use Rattle.rosa_nodes.specs.Nodes.{child_named, elements, words_of}
use Rattle.rosa_nodes.specs.Trimming.{text_of_child, trimmed}
use Rattle.rosa_nodes.specs.Writing.{Leaf, end_text, is_plain, leaf_text, start_text}
use Rattle.rosa_nodes.proofs.NodeLemmas.{element_in-Child, words_in-Words}
use Rattle.rosa_nodes.proofs.Written.{Written, document_written, element_written, end_written, is_plain_leaf, is_plain_name, leaf_element, leaf_node, level, nodes_written, plain_attribute, plain_name, start_is_piece, tag_is, with_attributes, written_then}
use Rattle.rosa_doc.specs.Machine.{Within, After, opened}
use Rattle.form_list.specs.declared.entries.Listed.{Listed}
use Rattle.form_list.specs.declared.entries.MediaFile.{MediaFile}
use Rattle.form_list.specs.declared.refusal.Child.{Child as Needed}
use Rattle.form_list.specs.declared.refusal.Child.TheVariants.{FormId, Hash, DownloadUrl, Filename}
use Rattle.form_list.specs.declared.refusal.ListRefused.{ListRefused}
use Rattle.form_list.specs.declared.refusal.ListRefused.TheVariants.{BadHash, TooMany}
use Rattle.form_list.specs.Entries.{bad_hash, first_fault, is_entity_list, listed_fault, listed_of, media_file_fault, media_file_of, missing, unless_empty}
use Rattle.form_list.specs.Lists.{ReadsAs, entries, form_list, if_named, items_of, manifest, tree, unless_fault}
use Rattle.form_list.specs.Writing.{are_plain, file_leaves, file_text, form_leaves, form_text, is_file, is_form, is_present, list_text, manifest_leaf, manifest_text, reads_back}

-- ---- the children of an element with leaves

words_are : (text : List ℕ) → words_of (with_words [] text) ≡ text
words_are [] = refl
words_are (b ∷ bs) = append-nil _ ∙ words_in-Words (b ∷ bs)

abbrev text_in : List ℕ → List Leaf → List ℕ
text_in name leaves = option_map_or (λ l. trimmed l.text) (find (λ l. bytes_eq l.name name) leaves) []

child_named-leaves : (name : List ℕ) (leaves : List Leaf) → child_named name (map leaf_node leaves) ≡ option_map leaf_element (find (λ l. bytes_eq l.name name) leaves)
child_named-leaves name [] = refl
child_named-leaves name (l ∷ leaves) =
    ap (λ (o : Option Element). find (λ (e : Element). bytes_eq e.name name) (cons_option o (elements (map leaf_node leaves)))) (element_in-Child (leaf_element l))
    ∙ elim (bytes_eq l.name name) as (λ b. cond b (Some (leaf_element l)) (child_named name (map leaf_node leaves)) ≡ option_map leaf_element (cond b (Some l) (find (λ l. bytes_eq l.name name) leaves))) [
      | true ↦ refl
      | false ↦ child_named-leaves name leaves
    ]

text_of_found : (o : Option Leaf) → option_map_or (λ (e : Element). trimmed (words_of e.children)) (option_map leaf_element o) [] ≡ option_map_or (λ (l : Leaf). trimmed l.text) o []
text_of_found None = refl
text_of_found (Some l) = ap trimmed (words_are l.text)

leaves_read : (name : List ℕ) (leaves : List Leaf) → text_of_child name (map leaf_node leaves) ≡ text_in name leaves
leaves_read name leaves =
    ap (λ (o : Option Element). option_map_or (λ (e : Element). trimmed (words_of e.children)) o []) (child_named-leaves name leaves)
    ∙ text_of_found (find (λ (l : Leaf). bytes_eq l.name name) leaves)

plain_stays : (text : List ℕ) → is_plain text ≡ true → trimmed text ≡ text
plain_stays text h = (bytes_eq-Decides (trimmed text) text).0 (and_parts (is_utf8 text && list_all is_xml_char (chars text)) (bytes_eq (trimmed text) text) h).1

-- ---- what an entry lacks

present_is_there : (entry : ℕ) (child : Needed) (text : List ℕ) → is_present text ≡ true → missing entry child text ≡ None
present_is_there entry child [] h = absurd cc
present_is_there entry child (b ∷ bs) h = refl

hash_is_good : (entry : ℕ) (hash : List ℕ) → is_hash hash ≡ true → bad_hash entry hash ≡ None
hash_is_good entry hash h = ap (λ (b : Bool). cond b None (Some (BadHash entry))) h

present_stays : (text : List ℕ) → is_present text ≡ true → unless_empty text ≡ Some text
present_stays [] h = absurd cc
present_stays (b ∷ bs) h = refl

none_lack : (a b c d : Option ListRefused) → a ≡ None → b ≡ None → c ≡ None → d ≡ None → option_or a (option_or b (option_or c d)) ≡ None
none_lack a b c d ha hb hc hd = rw (ha, hb, hc) hd

nothing_lacks : {A : Type 0} (fault : ℕ → A → Option ListRefused) (right : A → Bool) → ((entry : ℕ) (a : A) → right a ≡ true → fault entry a ≡ None)
    → (entry : ℕ) (items : List A) → list_all right items ≡ true → first_fault fault entry items ≡ None
nothing_lacks fault right each entry [] h = refl
nothing_lacks fault right each entry (a ∷ others) h =
    let both = and_parts (right a) (list_all right others) h in
    ap (λ (o : Option ListRefused). option_or o (first_fault fault (entry + 1) others)) (each entry a both.0) ∙ nothing_lacks fault right each (entry + 1) others both.1

-- ---- the entries below a root

entries_are : {A : Type 0} (name : List ℕ) (element : A → Element) → ((a : A) → bytes_eq (element a).name name ≡ true) → (items : List A) → entries name (map (λ a. Child (element a)) items) ≡ map element items
entries_are name element named [] = refl
entries_are name element named (a ∷ others) =
    ap (λ (o : Option Element). cons_option (o >>= if_named name) (entries name (map (λ b. Child (element b)) others))) (element_in-Child (element a))
    ∙ (ap (λ (b : Bool). cons_option (cond b (Some (element a)) None) (entries name (map (λ b. Child (element b)) others))) (named a)
    ∙ ap (λ (es : List Element). element a ∷ es) (entries_are name element named others))

items_are : {A : Type 0} (item : Element → A) (element : A → Element) (right : A → Bool) → ((a : A) → right a ≡ true → item (element a) ≡ a)
    → (items : List A) → list_all right items ≡ true → map item (map element items) ≡ items
items_are item element right each [] h = refl
items_are item element right each (a ∷ others) h =
    let both = and_parts (right a) (list_all right others) h in
    ap (λ (x : _). x ∷ map item (map element others)) (each a both.0) ∙ ap (λ (xs : List _). a ∷ xs) (items_are item element right each others both.1)

items_read : {A : Type 0} (item : Element → A) (fault : ℕ → A → Option ListRefused) (limit : ℕ) (element : A → Element) (right : A → Bool)
    → ((a : A) → right a ≡ true → item (element a) ≡ a) → ((entry : ℕ) (a : A) → right a ≡ true → fault entry a ≡ None)
    → (items : List A) → list_all right items ≡ true → length items ≤ limit → items_of item fault limit (map element items) ≡ Ok items
items_read item fault limit element right same lacks items h few =
    let short : length (map element items) ≤ limit = omega (arith, few, length-map items element) in
    ap (λ (b : Bool). cond b (Err (TooMany (length (map element items)))) (unless_fault (first_fault fault 1 (map item (map element items))) (map item (map element items))))
    (le-ltb limit (length (map element items)) short)
    ∙ (ap (λ (xs : List _). unless_fault (first_fault fault 1 xs) xs) (items_are item element right same items h)
    ∙ ap (λ (o : Option ListRefused). unless_fault o items) (nothing_lacks fault right lacks 1 items h))

-- ---- leaves with their names

abbrev is_named : Leaf → Bool
is_named l = is_plain_name l.name

plain_leaves : (leaves : List Leaf) → list_all is_named leaves ≡ true → are_plain leaves ≡ true → list_all is_plain_leaf leaves ≡ true
plain_leaves [] n h = refl
plain_leaves (l ∷ leaves) n h =
    let names = and_parts (is_named l) (list_all is_named leaves) n in
    let texts = and_parts (is_plain l.text) (are_plain leaves) h in
    and_from (is_plain_leaf l) (list_all is_plain_leaf leaves) (and_from (is_plain_name l.name) (is_plain l.text) names.0 texts.0) (plain_leaves leaves names.1 texts.1)

-- ---- forms

abbrev form_element : Listed → Element
form_element form = element_of (with_attributes (codes "xform") []) (map leaf_node (form_leaves form))

record IsRightForm (f : Listed) : Type 0 where
  leaves : are_plain (form_leaves f) ≡ true
  id : is_present f.form_id ≡ true
  hash : is_present f.hash ≡ true
  download : is_present f.download ≡ true
  is_a_hash : is_hash f.hash ≡ true
  manifest : option_map_or is_present f.manifest true ≡ true

right_form : (f : Listed) → is_form f ≡ true → IsRightForm f
right_form f h =
    let e = and_parts _ (option_map_or is_present f.manifest true) h in
    let d = and_parts _ (is_hash f.hash) e.0 in
    let c = and_parts _ (is_present f.download) d.0 in
    let b = and_parts _ (is_present f.hash) c.0 in
    let a = and_parts (are_plain (form_leaves f)) (is_present f.form_id) b.0 in
    record { leaves = a.0; id = a.1; hash = b.1; download = c.1; is_a_hash = d.1; manifest = e.1 }

manifest_named : (o : Option (List ℕ)) → list_all is_named (manifest_leaf o) ≡ true
unfolding encode
manifest_named None = refl
manifest_named (Some m) = refl

form_named : (f : Listed) → list_all is_named (form_leaves f) ≡ true
unfolding encode
form_named f = manifest_named f.manifest

manifest_same : (o : Option (List ℕ)) → are_plain (manifest_leaf o) ≡ true → option_map_or is_present o true ≡ true
    → unless_empty (text_in (codes "manifestUrl") (manifest_leaf o)) ≡ o
manifest_same None h p = refl
manifest_same (Some m) h p = ap unless_empty (plain_stays m (and_parts (is_plain m) true h).0) ∙ present_stays m p

same_listed : (a b : Listed) → a.form_id ≡ b.form_id → a.name ≡ b.name → a.version ≡ b.version → a.hash ≡ b.hash → a.download ≡ b.download → a.manifest ≡ b.manifest → a ≡ b
same_listed a b id name version hash download manifest =
    ap (λ (x : List ℕ). record a { form_id = x }) id
    ∙ (ap (λ (x : List ℕ). record a { form_id = b.form_id; name = x }) name
    ∙ (ap (λ (x : List ℕ). record a { form_id = b.form_id; name = b.name; version = x }) version
    ∙ (ap (λ (x : List ℕ). record a { form_id = b.form_id; name = b.name; version = b.version; hash = x }) hash
    ∙ (ap (λ (x : List ℕ). record a { form_id = b.form_id; name = b.name; version = b.version; hash = b.hash; download = x }) download
    ∙ ap (λ (x : Option (List ℕ)). record b { manifest = x }) manifest))))

form_same : (f : Listed) → is_form f ≡ true → listed_of (form_element f) ≡ f
form_same f h =
    let r = right_form f h in
    let id = and_parts (is_plain f.form_id) _ r.leaves in
    let name = and_parts (is_plain f.name) _ id.1 in
    let version = and_parts (is_plain f.version) _ name.1 in
    let hash = and_parts (is_plain f.hash) _ version.1 in
    let download = and_parts (is_plain f.download) (are_plain (manifest_leaf f.manifest)) hash.1 in
    same_listed (listed_of (form_element f)) f
    (leaves_read (codes "formID") (form_leaves f) ∙ plain_stays f.form_id id.0)
    (leaves_read (codes "name") (form_leaves f) ∙ plain_stays f.name name.0)
    (leaves_read (codes "version") (form_leaves f) ∙ plain_stays f.version version.0)
    (leaves_read (codes "hash") (form_leaves f) ∙ plain_stays f.hash hash.0)
    (leaves_read (codes "downloadUrl") (form_leaves f) ∙ plain_stays f.download download.0)
    (ap unless_empty (leaves_read (codes "manifestUrl") (form_leaves f)) ∙ manifest_same f.manifest download.1 r.manifest)

form_lacks : (entry : ℕ) (f : Listed) → is_form f ≡ true → listed_fault entry f ≡ None
form_lacks entry f h =
    let r = right_form f h in
    none_lack (missing entry FormId f.form_id) (missing entry Hash f.hash) (missing entry DownloadUrl f.download) (bad_hash entry f.hash)
    (present_is_there entry FormId f.form_id r.id) (present_is_there entry Hash f.hash r.hash)
    (present_is_there entry DownloadUrl f.download r.download) (hash_is_good entry f.hash r.is_a_hash)

form_written : (t : Tag) (f : Listed) (children : List Node) → is_form f ≡ true
    → Written (Within (level t children) []) (Within (level t (children ++ Child (form_element f) ∷ [])) []) (form_text f)
unfolding encode form_text
form_written t f children h =
    element_written (codes "xform") [] (start_text (codes "xform")) (form_leaves f) t children refl
    (start_is_piece (codes "xform") (plain_name (codes "xform") refl)) refl (plain_leaves (form_leaves f) (form_named f) (right_form f h).leaves)

abbrev list_namespace : List ℕ
list_namespace = codes "http://openrosa.org/xforms/xformsList"

abbrev list_tag : Tag
list_tag = with_attributes (codes "xforms") (plain_attribute (codes "xmlns") list_namespace ∷ [])

abbrev list_root : List Listed → Element
list_root forms = element_of list_tag (map (λ f. Child (form_element f)) forms)

list_is_document : (forms : List Listed) → list_all is_form forms ≡ true → length (list_text forms) ≤ longest_document → IsDoc (list_text forms) (record { root = list_root forms })
unfolding encode list_text
list_is_document forms h low =
    let s1 = Within (opened list_tag) [] in
    let s2 = Within (level list_tag (map (λ f. Child (form_element f)) forms)) [] in
    let s3 = After (list_root forms) in
    let name = plain_name (codes "xforms") refl in
    let w = written_then s1 s2 s3 (flat_map form_text forms) (end_text (codes "xforms"))
    (nodes_written form_text (λ f. Child (form_element f)) is_form list_tag [] (form_written list_tag) forms h [])
    (end_written s2 s3 (codes "xforms") name refl) in
    document_written list_tag (codes "xforms xmlns=\"http://openrosa.org/xforms/xformsList\">") (flat_map form_text forms ++ end_text (codes "xforms")) (list_root forms)
    (tag_is (codes "xforms") (codes "xmlns") list_namespace name (plain_name (codes "xmlns") refl) refl) refl w low

list_is_read : (forms : List Listed) → list_all is_form forms ≡ true → length forms ≤ 1000 → form_list (list_root forms) ≡ Ok forms
list_is_read forms h few =
    ap (items_of listed_of listed_fault 1000) (entries_are (codes "xform") form_element (λ _. refl) forms)
    ∙ items_read listed_of listed_fault 1000 form_element is_form form_same form_lacks forms h few

pub written_list_reads : (forms : List Listed) → reads_back is_form 1000 forms (list_text forms) ≡ true → ReadsAs form_list (list_text forms) (Ok forms)
written_list_reads forms h =
    let all = and_parts _ (nat_le (length (list_text forms)) longest_document) h in
    let both = and_parts (list_all is_form forms) (nat_le (length forms) 1000) all.0 in
    subst (ReadsAs form_list (list_text forms)) (list_is_read forms both.0 (leb-true (length forms) 1000 both.1))
    (tree (record { root = list_root forms }) (list_is_document forms both.0 (leb-true (length (list_text forms)) longest_document all.1)))

-- ---- media files

abbrev file_attributes : Bool → List Attribute
file_attributes true = plain_attribute (codes "type") (codes "entityList") ∷ []
file_attributes false = []

abbrev file_element : MediaFile → Element
file_element file = element_of (with_attributes (codes "mediaFile") (file_attributes file.entity_list)) (map leaf_node (file_leaves file))

record IsRightFile (f : MediaFile) : Type 0 where
  leaves : are_plain (file_leaves f) ≡ true
  filename : is_present f.filename ≡ true
  hash : is_present f.hash ≡ true
  download : is_present f.download ≡ true
  is_a_hash : is_hash f.hash ≡ true

right_file : (f : MediaFile) → is_file f ≡ true → IsRightFile f
right_file f h =
    let d = and_parts _ (is_hash f.hash) h in
    let c = and_parts _ (is_present f.download) d.0 in
    let b = and_parts _ (is_present f.hash) c.0 in
    let a = and_parts (are_plain (file_leaves f)) (is_present f.filename) b.0 in
    record { leaves = a.0; filename = a.1; hash = b.1; download = c.1; is_a_hash = d.1 }

file_named : (f : MediaFile) → list_all is_named (file_leaves f) ≡ true
unfolding encode
file_named f = refl

same_file : (a b : MediaFile) → a.filename ≡ b.filename → a.hash ≡ b.hash → a.download ≡ b.download → a.entity_list ≡ b.entity_list → a ≡ b
same_file a b filename hash download entity_list =
    ap (λ (x : List ℕ). record a { filename = x }) filename
    ∙ (ap (λ (x : List ℕ). record a { filename = b.filename; hash = x }) hash
    ∙ (ap (λ (x : List ℕ). record a { filename = b.filename; hash = b.hash; download = x }) download
    ∙ ap (λ (x : Bool). record b { entity_list = x }) entity_list))

entity_list_is : (b : Bool) (children : List Node) → is_entity_list (element_of (with_attributes (codes "mediaFile") (file_attributes b)) children) ≡ b
unfolding encode
entity_list_is true children = refl
entity_list_is false children = refl

file_same : (f : MediaFile) → is_file f ≡ true → media_file_of (file_element f) ≡ f
file_same f h =
    let r = right_file f h in
    let filename = and_parts (is_plain f.filename) _ r.leaves in
    let hash = and_parts (is_plain f.hash) _ filename.1 in
    let download = and_parts (is_plain f.download) true hash.1 in
    same_file (media_file_of (file_element f)) f
    (leaves_read (codes "filename") (file_leaves f) ∙ plain_stays f.filename filename.0)
    (leaves_read (codes "hash") (file_leaves f) ∙ plain_stays f.hash hash.0)
    (leaves_read (codes "downloadUrl") (file_leaves f) ∙ plain_stays f.download download.0)
    (entity_list_is f.entity_list (map leaf_node (file_leaves f)))

file_lacks : (entry : ℕ) (f : MediaFile) → is_file f ≡ true → media_file_fault entry f ≡ None
file_lacks entry f h =
    let r = right_file f h in
    none_lack (missing entry Filename f.filename) (missing entry Hash f.hash) (missing entry DownloadUrl f.download) (bad_hash entry f.hash)
    (present_is_there entry Filename f.filename r.filename) (present_is_there entry Hash f.hash r.hash)
    (present_is_there entry DownloadUrl f.download r.download) (hash_is_good entry f.hash r.is_a_hash)

file_written : (t : Tag) (f : MediaFile) (children : List Node) → is_file f ≡ true
    → Written (Within (level t children) []) (Within (level t (children ++ Child (file_element f) ∷ [])) []) (file_text f)
unfolding encode file_text
file_written t f children h =
    let leaves = plain_leaves (file_leaves f) (file_named f) (right_file f h).leaves in
    let name = plain_name (codes "mediaFile") refl in
    let nodes = map leaf_node (file_leaves f) in
    let element = λ (b : Bool). element_of (with_attributes (codes "mediaFile") (file_attributes b)) nodes in
    let rest = flat_map leaf_text (file_leaves f) ++ end_text (codes "mediaFile") in
    elim f.entity_list as (λ b. Written (Within (level t children) []) (Within (level t (children ++ Child (element b) ∷ [])) []) (cond b (codes "<mediaFile type=\"entityList\">") (start_text (codes "mediaFile")) ++ rest)) [
      | true ↦ element_written (codes "mediaFile") (file_attributes true) (codes "<mediaFile type=\"entityList\">") (file_leaves f) t children refl
          (tag_is (codes "mediaFile") (codes "type") (codes "entityList") name (plain_name (codes "type") refl) refl) refl leaves
      | false ↦ element_written (codes "mediaFile") [] (start_text (codes "mediaFile")) (file_leaves f) t children refl (start_is_piece (codes "mediaFile") name) refl leaves
    ]

abbrev manifest_namespace : List ℕ
manifest_namespace = codes "http://openrosa.org/xforms/xformsManifest"

abbrev manifest_tag : Tag
manifest_tag = with_attributes (codes "manifest") (plain_attribute (codes "xmlns") manifest_namespace ∷ [])

abbrev manifest_root : List MediaFile → Element
manifest_root files = element_of manifest_tag (map (λ f. Child (file_element f)) files)

manifest_is_document : (files : List MediaFile) → list_all is_file files ≡ true → length (manifest_text files) ≤ longest_document → IsDoc (manifest_text files) (record { root = manifest_root files })
unfolding encode manifest_text
manifest_is_document files h low =
    let s1 = Within (opened manifest_tag) [] in
    let s2 = Within (level manifest_tag (map (λ f. Child (file_element f)) files)) [] in
    let s3 = After (manifest_root files) in
    let name = plain_name (codes "manifest") refl in
    let w = written_then s1 s2 s3 (flat_map file_text files) (end_text (codes "manifest"))
    (nodes_written file_text (λ f. Child (file_element f)) is_file manifest_tag [] (file_written manifest_tag) files h [])
    (end_written s2 s3 (codes "manifest") name refl) in
    document_written manifest_tag (codes "manifest xmlns=\"http://openrosa.org/xforms/xformsManifest\">") (flat_map file_text files ++ end_text (codes "manifest")) (manifest_root files)
    (tag_is (codes "manifest") (codes "xmlns") manifest_namespace name (plain_name (codes "xmlns") refl) refl) refl w low

manifest_is_read : (files : List MediaFile) → list_all is_file files ≡ true → length files ≤ 100 → manifest (manifest_root files) ≡ Ok files
manifest_is_read files h few =
    ap (items_of media_file_of media_file_fault 100) (entries_are (codes "mediaFile") file_element (λ _. refl) files)
    ∙ items_read media_file_of media_file_fault 100 file_element is_file file_same file_lacks files h few

pub written_manifest_reads : (files : List MediaFile) → reads_back is_file 100 files (manifest_text files) ≡ true → ReadsAs manifest (manifest_text files) (Ok files)
written_manifest_reads files h =
    let all = and_parts _ (nat_le (length (manifest_text files)) longest_document) h in
    let both = and_parts (list_all is_file files) (nat_le (length files) 100) all.0 in
    subst (ReadsAs manifest (manifest_text files)) (manifest_is_read files both.0 (leb-true (length files) 100 both.1))
    (tree (record { root = manifest_root files }) (manifest_is_document files both.0 (leb-true (length (manifest_text files)) longest_document all.1)))
