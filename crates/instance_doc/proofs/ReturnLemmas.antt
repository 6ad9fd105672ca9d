-- The document of an instance has no carriage return.
use Rattle.std.proofs.Common.{◌≡◌, ℕ, ◌==◌, ◌||◌, not, Bool, true, false, cond, List, [], ◌∷◌, ◌++◌}
use Rattle.std.proofs.Common.{Option, Some, None, codes, refl, sym, ap, subst, ◌∙◌, arith, encode_utf8_all}
use Rattle.std.proofs.Common.{nat_le}
use Rattle.std.specs.List.{flat_map, list_all}
use Rattle.std.specs.Option.{option_map_or}
use Rattle.std.specs.Str.{bytes_eq, chars}
use Rattle.std.proofs.Math.Utf8.{encode}
use Rattle.std.proofs.lemmas.Bool.{and_from, and_parts, eqb-true, leb-true, ne_eqb}
use Rattle.std.proofs.lemmas.List.Folds.{list_all-append}
use Rattle.field_text.specs.Xml.{is_xml_char, is_name_char, begins_as_name, xml_char_of}
use Rattle.form_def.specs.declared.field.Field.{Field}
use Rattle.form_def.specs.declared.field.EntityDef.{EntityDef}
use Rattle.form_def.specs.declared.form.FormDef.{FormDef}
use Rattle.form_def.specs.Fields.{have_paths}
use Rattle.form_def.specs.Paths.{are_below, are_names, is_attribute, is_name, is_path, parts_of}
use Rattle.rosa_doc.specs.Escapes.{in_text, in_value}
use Rattle.instance_doc.specs.declared.meta.Meta.{Meta}
use Rattle.instance_doc.specs.Markup.{attribute, element, end_tag, escaped, in_utf8, quoted, start_tag}
use Rattle.instance_doc.specs.Rows.{Row, content, is_group, last_name, last_part, meta_path, row_at, rows_of}
use Rattle.instance_doc.specs.Elements.{Placed, behind, children, field_text, fields_text, is_right_below, is_written}
use Rattle.instance_doc.specs.Elements.{placed, values}
use Rattle.instance_doc.specs.Documents.{action_attributes, declaration, deprecated_text, doc_of, entity_attribute}
use Rattle.instance_doc.specs.Documents.{entity_tag, entity_text, ids_text, label_content, label_text, meta_content}
use Rattle.instance_doc.specs.Documents.{meta_text, name_element, name_text, namespaces, root_attributes, root_content}
use Rattle.instance_doc.specs.Documents.{root_name, root_tag, root_text, version_attributes}
use Rattle.instance_doc.specs.Returns.{lacks_return}
use Rattle.instance_doc.proofs.Characters.{are_high, of_text, of_utf8, of_value}

abbrev is_other : ℕ → Bool
is_other b = not (b == 13)

both : (xs ys : List ℕ) → lacks_return xs ≡ true → lacks_return ys ≡ true → lacks_return (xs ++ ys) ≡ true
both xs ys h k = list_all-append is_other xs ys ∙ and_from (lacks_return xs) (lacks_return ys) h k

cons : (b : ℕ) (bs : List ℕ) → is_other b ≡ true → lacks_return bs ≡ true → lacks_return (b ∷ bs) ≡ true
cons b bs h k = and_from (is_other b) (lacks_return bs) h k

-- ---- characters

high_bytes : (bs : List ℕ) → are_high bs ≡ true → lacks_return bs ≡ true
high_bytes [] h = refl
high_bytes (b ∷ bs) h =
    let parts = and_parts (nat_le 128 b) (are_high bs) h in
    let high = leb-true 128 b parts.0 in
    cons b bs (ap not (ne_eqb b 13 (λ (e : b ≡ 13). omega (arith, e, high)))) (high_bytes bs parts.1)

one_char : (c : ℕ) → is_other c ≡ true → lacks_return (encode c) ≡ true
one_char c h = of_utf8 (λ bs. lacks_return bs ≡ true) c (cons c [] h refl) (λ b bs high. high_bytes (b ∷ bs) high)

all_chars : (cs : List ℕ) → lacks_return cs ≡ true → lacks_return (encode_utf8_all cs) ≡ true
all_chars [] h = refl
all_chars (c ∷ cs) h =
    let parts = and_parts (is_other c) (lacks_return cs) h in
    both (encode c) (encode_utf8_all cs) (one_char c parts.0) (all_chars cs parts.1)

-- the character that is written in place of one
kept_char : (c : ℕ) → is_other c ≡ true → is_other (xml_char_of c) ≡ true
kept_char c h = elim (is_xml_char c) as (λ b. is_other (cond b c 0xFFFD) ≡ true) [ true ↦ h | false ↦ refl ]

text_char : (c : ℕ) → lacks_return (in_text c) ≡ true
text_char c =
    of_text (λ bs. lacks_return bs ≡ true) c refl refl refl refl
    (λ e. one_char (xml_char_of c) (kept_char c (ap not e)))

value_char : (c : ℕ) → lacks_return (in_value c) ≡ true
value_char c = of_value (λ bs. lacks_return bs ≡ true) c refl refl refl (text_char c)

each : (f : ℕ → List ℕ) → ((c : ℕ) → lacks_return (f c) ≡ true) → (cs : List ℕ) → lacks_return (flat_map f cs) ≡ true
each f h [] = refl
each f h (c ∷ cs) = both (f c) (flat_map f cs) (h c) (each f h cs)

-- ---- names

name_char : (c : ℕ) → is_name_char c ≡ true → is_other c ≡ true
name_char c h = elim (c == 13) as (λ b. (c == 13) ≡ b → not b ≡ true) [
  | true ↦ λ e. absurd (let k : false ≡ true = subst (λ (x : ℕ). is_name_char x ≡ true) (eqb-true c 13 e) h in cc)
  | false ↦ λ e. refl
] refl

name_chars : (cs : List ℕ) → list_all is_name_char cs ≡ true → lacks_return cs ≡ true
name_chars [] h = refl
name_chars (c ∷ cs) h =
    let parts = and_parts (is_name_char c) (list_all is_name_char cs) h in
    cons c cs (name_char c parts.0) (name_chars cs parts.1)

in_name : (name : List ℕ) → is_name name ≡ true → lacks_return (in_utf8 name) ≡ true
in_name name h = all_chars (chars name)
    (name_chars (chars name) (and_parts (begins_as_name (chars name)) (list_all is_name_char (chars name)) h).1)

past_at_sign : (bs : List ℕ) → chars (64 ∷ bs) ≡ 64 ∷ chars bs
unfolding chars
past_at_sign [] = refl
past_at_sign (b ∷ bs) = refl

in_attribute : (name : List ℕ) → is_attribute name ≡ true → lacks_return (in_utf8 name) ≡ true
in_attribute [] h = absurd cc
in_attribute (b ∷ name) h =
    let parts = and_parts (b == 64) (is_name name) h in
    let signed = past_at_sign name in
    subst (λ (x : ℕ). lacks_return (in_utf8 (x ∷ name)) ≡ true) (sym (eqb-true b 64 parts.0))
    (ap (λ (cs : List ℕ). lacks_return (encode_utf8_all cs)) signed
    ∙ both (encode 64) (encode_utf8_all (chars name)) (one_char 64 refl) (in_name name parts.1))

in_part : (x y : Bool) (name : List ℕ) → x || y ≡ true → (x ≡ true → lacks_return (in_utf8 name) ≡ true)
    → (y ≡ true → lacks_return (in_utf8 name) ≡ true)
    → lacks_return (in_utf8 name) ≡ true
in_part true y name h a b = a refl
in_part false y name h a b = b h

in_last : (parts : List (List ℕ)) → are_names parts ≡ true → lacks_return (in_utf8 (last_part parts)) ≡ true
in_last [] h = absurd cc
in_last (part ∷ []) h = in_part (is_name part) (is_attribute part) part h (in_name part) (in_attribute part)
in_last (part ∷ more ∷ others) h = in_last (more ∷ others) (and_parts (is_name part) (are_names (more ∷ others)) h).1

in_path : (root : List ℕ) (parts : List (List ℕ)) → are_below root parts ≡ true
    → lacks_return (in_utf8 (last_part parts)) ≡ true
in_path root [] h = absurd cc
in_path root ((b ∷ bs) ∷ others) h = absurd cc
in_path root ([] ∷ []) h = absurd cc
in_path root ([] ∷ first ∷ []) h = absurd (let k : false ≡ true = (and_parts (bytes_eq first root) false h).1 in cc)
in_path root ([] ∷ first ∷ name ∷ names) h = in_last (name ∷ names)
    (and_parts (bytes_eq first root) (are_names (name ∷ names)) h).1

-- ---- markup

in_start : (name : List ℕ) → lacks_return (in_utf8 name) ≡ true → lacks_return (start_tag name) ≡ true
unfolding encode
in_start name h = both (codes "<") (in_utf8 name ++ codes ">") refl (both (in_utf8 name) (codes ">") h refl)

in_end : (name : List ℕ) → lacks_return (in_utf8 name) ≡ true → lacks_return (end_tag name) ≡ true
unfolding encode
in_end name h = both (codes "</") (in_utf8 name ++ codes ">") refl (both (in_utf8 name) (codes ">") h refl)

in_element : (name inside : List ℕ) → lacks_return (in_utf8 name) ≡ true → lacks_return inside ≡ true
    → lacks_return (element name inside) ≡ true
unfolding encode
in_element name [] h k = both (codes "<") (in_utf8 name ++ codes "/>") refl (both (in_utf8 name) (codes "/>") h refl)
in_element name (b ∷ bs) h k =
    both (start_tag name) ((b ∷ bs) ++ end_tag name) (in_start name h) (both (b ∷ bs) (end_tag name) k (in_end name h))

in_escaped : (text : List ℕ) → lacks_return (escaped text) ≡ true
in_escaped text = each in_text text_char (chars text)

in_quotes : (value : List ℕ) → lacks_return (quoted value) ≡ true
unfolding encode
in_quotes value =
    let inside = flat_map in_value (chars value) in
    both (codes "=\"") (inside ++ codes "\"") refl
    (both inside (codes "\"") (each in_value value_char (chars value)) refl)

an_attribute : (name value : List ℕ) → lacks_return (in_utf8 name) ≡ true → lacks_return (attribute name value) ≡ true
unfolding encode
an_attribute name value h =
    both (codes " ") (in_utf8 name ++ quoted value) refl (both (in_utf8 name) (quoted value) h (in_quotes value))

in_content : (r : Row) (inside : List ℕ) → lacks_return inside ≡ true → lacks_return (content r inside) ≡ true
in_content r inside h = elim
    (is_group r.field.kind) as (λ b. lacks_return
    (cond b inside (escaped r.text)) ≡ true) [ true ↦ h | false ↦ in_escaped r.text ]

-- ---- fields

abbrev has_name : List ℕ → Row → Bool
has_name root r = is_path root r.field.path

rows_named : (root : List ℕ) (fields : List Field) (texts : List (List ℕ)) (shown : List Bool)
    → have_paths root fields ≡ true
    → list_all (has_name root) (rows_of fields texts shown) ≡ true
rows_named root [] texts shown h = refl
rows_named root (f ∷ fields) [] shown h = refl
rows_named root (f ∷ fields) (text ∷ texts) [] h = refl
rows_named root (f ∷ fields) (text ∷ texts) (is_shown ∷ shown) h =
    let parts = and_parts (is_path root f.path) (have_paths root fields) h in
    and_from (is_path root f.path) (list_all (has_name root) (rows_of fields texts shown)) parts.0
    (rows_named root fields texts shown parts.1)

abbrev is_clear : Placed (List ℕ) → Bool
is_clear p = lacks_return p.value

clear_texts : (ps : List (Placed (List ℕ))) → list_all is_clear ps ≡ true → lacks_return (values ps) ≡ true
clear_texts [] h = refl
clear_texts (p ∷ ps) h =
    let parts = and_parts (is_clear p) (list_all is_clear ps) h in
    both p.value (values ps) parts.0 (clear_texts ps parts.1)

clear_children : (parent : List ℕ) (ps : List (Placed (List ℕ))) → list_all is_clear ps ≡ true
    → list_all is_clear (children parent ps) ≡ true
clear_children parent [] h = refl
clear_children parent (p ∷ ps) h =
    let parts = and_parts (is_clear p) (list_all is_clear ps) h in
    elim (is_right_below parent p) as (λ b. list_all is_clear (cond b (p ∷ children parent ps) []) ≡ true) [
      | true ↦ and_from (is_clear p) (list_all is_clear (children parent ps)) parts.0 (clear_children parent ps parts.1)
      | false ↦ refl
    ]

clear_behind : (parent : List ℕ) (ps : List (Placed (List ℕ))) → list_all is_clear ps ≡ true
    → list_all is_clear (behind parent ps) ≡ true
clear_behind parent [] h = refl
clear_behind parent (p ∷ ps) h =
    elim (is_right_below parent p) as (λ b. list_all is_clear (cond b (behind parent ps) (p ∷ ps)) ≡ true) [
      | true ↦ clear_behind parent ps (and_parts (is_clear p) (list_all is_clear ps) h).1
      | false ↦ h
    ]

clear_field : (root meta : List ℕ) (r : Row) (inside : List ℕ) → has_name root r ≡ true → lacks_return inside ≡ true
    → lacks_return (field_text meta r inside) ≡ true
clear_field root meta r inside h k =
    let name = last_name r.field.path in
    elim (is_written meta r) as (λ b. lacks_return (cond b (element name (content r inside)) []) ≡ true) [
      | true ↦ in_element name (content r inside) (in_path root (parts_of r.field.path) h) (in_content r inside k)
      | false ↦ refl
    ]

clear_placed : (root meta : List ℕ) (rows : List Row) → list_all (has_name root) rows ≡ true
    → list_all is_clear (placed (field_text meta) rows) ≡ true
clear_placed root meta [] h = refl
clear_placed root meta (r ∷ rows) h =
    let parts = and_parts (has_name root r) (list_all (has_name root) rows) h in
    let others = placed (field_text meta) rows in
    let rest = clear_placed root meta rows parts.1 in
    let inside = values (children r.field.path others) in
    and_from (lacks_return (field_text meta r inside)) (list_all is_clear (behind r.field.path others))
    (clear_field root meta r inside parts.0
    (clear_texts (children r.field.path others) (clear_children r.field.path others rest)))
    (clear_behind r.field.path others rest)

clear_fields : (root : List ℕ) (rows : List Row) → list_all (has_name root) rows ≡ true
    → lacks_return (fields_text root rows) ≡ true
clear_fields root rows h = clear_texts (placed (field_text (meta_path root [])) rows)
    (clear_placed root (meta_path root []) rows h)

-- ---- what stands in `meta`

clear_deprecated : (deprecated : Option (List ℕ)) → lacks_return (deprecated_text deprecated) ≡ true
unfolding encode chars
clear_deprecated None = refl
clear_deprecated (Some id) = in_element (codes "orx:deprecatedID") (escaped id) refl (in_escaped id)

clear_ids : (meta : Meta) → lacks_return (ids_text meta) ≡ true
unfolding encode chars
clear_ids meta = both (element (codes "orx:instanceID") (escaped meta.instance_id)) (deprecated_text meta.deprecated)
    (in_element (codes "orx:instanceID") (escaped meta.instance_id) refl (in_escaped meta.instance_id))
    (clear_deprecated meta.deprecated)

clear_option : (f : Row → List ℕ) → ((r : Row) → lacks_return (f r) ≡ true) → (o : Option Row)
    → lacks_return (option_map_or f o []) ≡ true
clear_option f h None = refl
clear_option f h (Some r) = h r

clear_name : (r : Row) → lacks_return (name_element r) ≡ true
unfolding encode chars
clear_name r = in_element (codes "orx:instanceName") (content r []) refl (in_content r [] refl)

an_entity_attribute : (root : List ℕ) (rows : List Row) (name : List ℕ) → lacks_return (in_utf8 name) ≡ true
    → lacks_return (entity_attribute root rows name) ≡ true
an_entity_attribute root rows name h =
    clear_option (λ (r : Row). attribute name r.text) (λ (r : Row). an_attribute name r.text h)
    (row_at (meta_path root (codes "entity/@" ++ name)) rows)

clear_action : (root : List ℕ) (rows : List Row) → lacks_return (action_attributes root rows) ≡ true
unfolding encode chars
clear_action root rows =
    let id = entity_attribute root rows (codes "id") in
    let create = entity_attribute root rows (codes "create") in
    let update = entity_attribute root rows (codes "update") in
    both id (create ++ update) (an_entity_attribute root rows (codes "id") refl)
    (both create update (an_entity_attribute root rows (codes "create") refl)
    (an_entity_attribute root rows (codes "update") refl))

clear_version : (root : List ℕ) (rows : List Row) → lacks_return (version_attributes root rows) ≡ true
unfolding encode chars
clear_version root rows =
    let base = entity_attribute root rows (codes "baseVersion") in
    let trunk = entity_attribute root rows (codes "trunkVersion") in
    let branch = entity_attribute root rows (codes "branchId") in
    both base (trunk ++ branch) (an_entity_attribute root rows (codes "baseVersion") refl)
    (both trunk branch (an_entity_attribute root rows (codes "trunkVersion") refl)
    (an_entity_attribute root rows (codes "branchId") refl))

clear_tag : (root : List ℕ) (rows : List Row) (entity : EntityDef) → lacks_return (entity_tag root rows entity) ≡ true
unfolding encode chars
clear_tag root rows entity =
    let given = attribute (codes "dataset") entity.dataset in
    let action = action_attributes root rows in
    let version = version_attributes root rows in
    both (codes "<entities:entity") ((given ++ (action ++ version)) ++ codes ">") refl
    (both (given ++ (action ++ version)) (codes ">")
    (both given (action ++ version) (an_attribute (codes "dataset") entity.dataset refl)
    (both action version (clear_action root rows) (clear_version root rows))) refl)

clear_label : (root : List ℕ) (rows : List Row) → lacks_return (label_text root rows) ≡ true
unfolding encode chars
clear_label root rows = in_element (codes "entities:label") (label_content root rows) refl
    (clear_option (λ (r : Row). content r []) (λ (r : Row). in_content r [] refl)
    (row_at (meta_path root (codes "entity/label")) rows))

clear_entity : (root : List ℕ) (rows : List Row) (entity : Option EntityDef)
    → lacks_return (entity_text root rows entity) ≡ true
unfolding encode chars
clear_entity root rows None = refl
clear_entity root rows (Some entity) =
    both (entity_tag root rows entity) (label_text root rows ++ end_tag (codes "entities:entity"))
    (clear_tag root rows entity)
    (both (label_text root rows) (end_tag (codes "entities:entity")) (clear_label root rows)
    (in_end (codes "entities:entity") refl))

clear_meta : (form : FormDef) (rows : List Row) (meta : Meta) → lacks_return (meta_text form rows meta) ≡ true
unfolding encode chars
clear_meta form rows meta =
    let name = name_text form.root rows in
    let entity = entity_text form.root rows form.entity in
    let end = end_tag (codes "orx:meta") in
    let content = both (ids_text meta) (name ++ entity) (clear_ids meta)
    (both name entity (clear_option name_element clear_name (row_at (meta_path form.root (codes "instanceName")) rows))
    (clear_entity form.root rows form.entity)) in
    both (start_tag (codes "orx:meta")) (meta_content form rows meta ++ end) (in_start (codes "orx:meta") refl)
    (both (meta_content form rows meta) end content (in_end (codes "orx:meta") refl))

-- ---- the whole

clear_declaration : lacks_return declaration ≡ true
unfolding encode declaration
clear_declaration = refl

clear_namespaces : lacks_return namespaces ≡ true
unfolding encode namespaces
clear_namespaces = refl

clear_root_tag : (form : FormDef) → lacks_return (root_tag form) ≡ true
unfolding encode chars
clear_root_tag form =
    let root = in_utf8 form.root in
    let id = attribute (codes "id") form.id in
    let version = attribute (codes "version") form.version in
    both (root_name form) (root_attributes form ++ codes ">")
    (both (codes "<") (root ++ namespaces) refl
    (both root namespaces (in_name form.root form.root_named) clear_namespaces))
    (both (root_attributes form) (codes ">")
    (both id version (an_attribute (codes "id") form.id refl) (an_attribute (codes "version") form.version refl)) refl)

pub document_lacks_return : (form : FormDef) (texts : List (List ℕ)) (shown : List Bool) (meta : Meta)
    → lacks_return (doc_of form texts shown meta) ≡ true
document_lacks_return form texts shown meta =
    let rows = rows_of form.fields texts shown in
    let fields = fields_text form.root rows in
    let content = both fields (meta_text form rows meta)
    (clear_fields form.root rows (rows_named form.root form.fields texts shown form.paths_named))
    (clear_meta form rows meta) in
    both declaration (root_text form rows meta) clear_declaration
    (both (root_tag form) (root_content form rows meta ++ end_tag form.root) (clear_root_tag form)
    (both (root_content form rows meta) (end_tag form.root) content
    (in_end form.root (in_name form.root form.root_named))))
