-- What stands in `meta` as it is written, followed by the steps of the reader.
use Rattle.std.proofs.Common.{◌≡◌, ℕ, ◌<◌, ◌||◌, not, Bool, true, false, cond, List, [], ◌∷◌, ◌++◌, Option, Some, None}
use Rattle.std.proofs.Common.{codes, refl, sym, ap, subst, ◌∙◌, arith, append_assoc, length}
use Rattle.std.specs.List.{list_all, list_any}
use Rattle.std.specs.Option.{option_map_or}
use Rattle.std.specs.Str.{chars}
use Rattle.std.proofs.Math.Utf8.{encode}
use Rattle.std.proofs.lemmas.Bool.{and_parts}
use Rattle.std.proofs.lemmas.List.{append-nil}
use Rattle.form_def.specs.declared.field.EntityDef.{EntityDef}
use Rattle.form_def.specs.declared.form.FormDef.{FormDef}
use Rattle.rosa_pieces.specs.declared.piece.Name.{Name}
use Rattle.rosa_pieces.specs.declared.piece.Tag.{Tag}
use Rattle.rosa_pieces.specs.declared.piece.Attribute.{Attribute}
use Rattle.rosa_pieces.specs.Pieces.{same_name}
use Rattle.rosa_doc.specs.declared.tree.Element.{Element}
use Rattle.rosa_doc.specs.declared.tree.Node.{Node}
use Rattle.rosa_doc.specs.declared.tree.Node.TheVariants.{Child}
use Rattle.rosa_doc.specs.Documents.{element_of, with_words}
use Rattle.rosa_doc.specs.Machine.{Level, Within, opened}
use Rattle.rosa_nodes.specs.Nodes.{child_named}
use Rattle.rosa_nodes.proofs.Written.{Written, level, nothing_written, written_then}
use Rattle.instance_doc.specs.declared.meta.Meta.{Meta}
use Rattle.instance_doc.specs.Trees.{kept_text}
use Rattle.instance_doc.specs.Markup.{attribute, element, end_tag, escaped, start_tag}
use Rattle.instance_doc.specs.Rows.{Row, content, is_group, meta_path, row_at}
use Rattle.instance_doc.specs.Documents.{action_attributes, deprecated_text, entity_attribute, entity_attributes}
use Rattle.instance_doc.specs.Documents.{entity_tag, entity_text, ids_text, label_content, label_text, meta_content}
use Rattle.instance_doc.specs.Documents.{meta_text, name_element, name_text, version_attributes}
use Rattle.instance_doc.proofs.Tags.{AttributesAre, Content, NameIs, attribute_is, closes, element_node}
use Rattle.instance_doc.proofs.Tags.{element_written, end_written, no_attributes, start_written, tag, with_attribute}
use Rattle.instance_doc.proofs.Tags.{with_content}
use Rattle.instance_doc.proofs.Parts.{Filled, first_child, skipped, text_content}

-- these bytes are these children, at the levels of `meta`
abbrev pub Writes : List ℕ → List Node → Type 0
Writes bytes nodes = (t : Tag) (before : List Node) (outer : List Level) → length outer < 14
    → Written (Within (level t before) outer) (Within (level t (before ++ nodes)) outer) bytes

no_nodes : Writes [] []
no_nodes t before outer low =
    subst (λ (ns : List Node). Written (Within (level t before) outer) (Within (level t ns) outer) [])
    (sym (append-nil before)) (nothing_written (Within (level t before) outer))

nodes_then : (a b : List ℕ) (first others : List Node) → Writes a first → Writes b others
    → Writes (a ++ b) (first ++ others)
nodes_then a b first others w v t before outer low =
    subst (λ (ns : List Node). Written (Within (level t before) outer) (Within (level t ns) outer) (a ++ b))
    (append_assoc before first others)
    (written_then (Within (level t before) outer) (Within (level t (before ++ first)) outer)
    (Within (level t ((before ++ first) ++ others)) outer) a b
    (w t before outer low) (v t (before ++ first) outer low))

-- ---- names

abbrev pub in_orx : List ℕ → Name
in_orx local = record { prefix = Some (codes "orx"); local = local }

abbrev in_entities : List ℕ → Name
in_entities local = record { prefix = Some (codes "entities"); local = local }

abbrev pub alone : List ℕ → Name
alone local = record { prefix = None; local = local }

instance_id_is : NameIs (in_orx (codes "instanceID")) (codes "orx:instanceID")
unfolding encode chars
instance_id_is = record {
  spelled = codes "orx:instanceID";
  is = (codes "orx", codes "instanceID", refl, refl, refl, refl, refl);
  utf8 = refl;
  are_scalars = refl;
}

deprecated_id_is : NameIs (in_orx (codes "deprecatedID")) (codes "orx:deprecatedID")
unfolding encode chars
deprecated_id_is = record {
  spelled = codes "orx:deprecatedID";
  is = (codes "orx", codes "deprecatedID", refl, refl, refl, refl, refl);
  utf8 = refl;
  are_scalars = refl;
}

instance_name_is : NameIs (in_orx (codes "instanceName")) (codes "orx:instanceName")
unfolding encode chars
instance_name_is = record {
  spelled = codes "orx:instanceName";
  is = (codes "orx", codes "instanceName", refl, refl, refl, refl, refl);
  utf8 = refl;
  are_scalars = refl;
}

meta_is : NameIs (in_orx (codes "meta")) (codes "orx:meta")
unfolding encode chars
meta_is = record {
  spelled = codes "orx:meta";
  is = (codes "orx", codes "meta", refl, refl, refl, refl, refl);
  utf8 = refl;
  are_scalars = refl;
}

entity_is : NameIs (in_entities (codes "entity")) (codes "entities:entity")
unfolding encode chars
entity_is = record {
  spelled = codes "entities:entity";
  is = (codes "entities", codes "entity", refl, refl, refl, refl, refl);
  utf8 = refl;
  are_scalars = refl;
}

label_is : NameIs (in_entities (codes "label")) (codes "entities:label")
unfolding encode chars
label_is = record {
  spelled = codes "entities:label";
  is = (codes "entities", codes "label", refl, refl, refl, refl, refl);
  utf8 = refl;
  are_scalars = refl;
}

-- ---- elements with a text

nothing_inside : (deep : ℕ) → Content deep [] [] []
nothing_inside deep = record
    { none = λ h. (refl, refl); writes = λ t outer low. nothing_written (Within (opened t) outer) }

pub own_content : (deep : ℕ) (r : Row) → Filled deep (content r [])
own_content deep r = elim (is_group r.field.kind) as (λ b. Filled deep (cond b [] (escaped r.text))) [
  | true ↦ record { nodes = []; words = []; content = nothing_inside deep }
  | false ↦ record { nodes = []; words = kept_text r.text; content = text_content deep r.text }
]

pub content_at : (deep : ℕ) (o : Option Row) → Filled deep (option_map_or (λ r. content r []) o [])
content_at deep None = record { nodes = []; words = []; content = nothing_inside deep }
content_at deep (Some r) = own_content deep r

node_written : (n : Name) (name inside : List ℕ) (nodes : List Node) (words : List ℕ) → NameIs n name
    → Content 16 inside nodes words
    → Writes (element name inside) (element_node n [] nodes words ∷ [])
node_written n name inside nodes words is content t before outer low =
    element_written n name inside nodes words 16 t before outer is content (omega (arith, low)) (omega (arith, low))

-- ---- the ids

abbrev pub id_element : List ℕ → Element
id_element id = element_of (tag (in_orx (codes "instanceID")) []) (with_words [] (kept_text id))

abbrev pub deprecated_element : List ℕ → Element
deprecated_element id = element_of (tag (in_orx (codes "deprecatedID")) []) (with_words [] (kept_text id))

abbrev pub deprecated_nodes : Option (List ℕ) → List Node
deprecated_nodes None = []
deprecated_nodes (Some id) = Child (deprecated_element id) ∷ []

deprecated_written : (deprecated : Option (List ℕ)) → Writes (deprecated_text deprecated) (deprecated_nodes deprecated)
deprecated_written None = no_nodes
deprecated_written (Some id) = node_written (in_orx (codes "deprecatedID")) (codes "orx:deprecatedID") (escaped id) []
    (kept_text id) deprecated_id_is (text_content 16 id)

ids_written : (meta : Meta)
    → Writes (ids_text meta) (Child (id_element meta.instance_id) ∷ deprecated_nodes meta.deprecated)
ids_written meta =
    nodes_then (element (codes "orx:instanceID") (escaped meta.instance_id)) (deprecated_text meta.deprecated)
    (Child (id_element meta.instance_id) ∷ []) (deprecated_nodes meta.deprecated)
    (node_written (in_orx (codes "instanceID")) (codes "orx:instanceID") (escaped meta.instance_id) []
    (kept_text meta.instance_id) instance_id_is (text_content 16 meta.instance_id))
    (deprecated_written meta.deprecated)

-- ---- what else stands there

pub record Others (bytes : List ℕ) : Type 0 where
  pub nodes : List Node
  pub writes : Writes bytes nodes
  pub none_deprecated : child_named (codes "deprecatedID") nodes ≡ None

no_others : Others []
no_others = record { nodes = []; writes = no_nodes; none_deprecated = refl }

name_others : (r : Row) → Others (name_element r)
unfolding encode
name_others r =
    let f = own_content 16 r in
    let n = in_orx (codes "instanceName") in
    record {
      nodes = element_node n [] f.nodes f.words ∷ [];
      writes = node_written n (codes "orx:instanceName") (content r []) f.nodes f.words instance_name_is f.content;
      none_deprecated = first_child (codes "deprecatedID") (element_of (tag n []) (with_words f.nodes f.words)) [];
    }

pub names_at : (o : Option Row) → Others (option_map_or name_element o [])
names_at None = no_others
names_at (Some r) = name_others r

-- ---- the entity's attributes

abbrev given_attribute : Name → Row → Attribute
given_attribute n r = record { name = n; value = kept_text r.text }

abbrev optional : Name → Option Row → List Attribute
optional n o = option_map_or (λ r. given_attribute n r ∷ []) o []

abbrev all_optional : List (Name × Option Row) → List Attribute
all_optional [] = []
all_optional (p ∷ ps) = optional p.0 p.1 ++ all_optional ps

abbrev has_name : Name → Attribute → Bool
has_name n a = same_name n a.name

not_true : (b : Bool) → not b ≡ true → b ≡ false
not_true true h = absurd cc
not_true false h = refl

absent : (n : Name) (ps : List (Name × Option Row)) → list_all (λ p. not (same_name n p.0)) ps ≡ true
    → list_any (has_name n) (all_optional ps) ≡ false
absent n [] h = refl
absent n ((m, None) ∷ ps) h = absent n ps
    (and_parts (not (same_name n m)) (list_all (λ p. not (same_name n p.0)) ps) h).1
absent n ((m, Some r) ∷ ps) h =
    let both = and_parts (not (same_name n m)) (list_all (λ p. not (same_name n p.0)) ps) h in
    ap (λ (b : Bool). b || list_any (has_name n) (all_optional ps)) (not_true (same_name n m) both.0)
    ∙ absent n ps both.1

with_optional : (n : Name) (name : List ℕ) (o : Option Row) (ps : List (Name × Option Row)) (bytes : List ℕ)
    → NameIs n name → AttributesAre (all_optional ps) bytes
    → list_all (λ p. not (same_name n p.0)) ps ≡ true
    → AttributesAre (all_optional ((n, o) ∷ ps)) (option_map_or (λ r. attribute name r.text) o [] ++ bytes)
with_optional n name None ps bytes is are new = are
with_optional n name (Some r) ps bytes is are new =
    with_attribute (given_attribute n r) (all_optional ps) (attribute name r.text) bytes
    (attribute_is n name r.text is) are (absent n ps new)

id_is : NameIs (alone (codes "id")) (codes "id")
unfolding encode chars
id_is = record { spelled = codes "id"; is = (refl, refl); utf8 = refl; are_scalars = refl }

create_is : NameIs (alone (codes "create")) (codes "create")
unfolding encode chars
create_is = record { spelled = codes "create"; is = (refl, refl); utf8 = refl; are_scalars = refl }

update_is : NameIs (alone (codes "update")) (codes "update")
unfolding encode chars
update_is = record { spelled = codes "update"; is = (refl, refl); utf8 = refl; are_scalars = refl }

base_is : NameIs (alone (codes "baseVersion")) (codes "baseVersion")
unfolding encode chars
base_is = record { spelled = codes "baseVersion"; is = (refl, refl); utf8 = refl; are_scalars = refl }

trunk_is : NameIs (alone (codes "trunkVersion")) (codes "trunkVersion")
unfolding encode chars
trunk_is = record { spelled = codes "trunkVersion"; is = (refl, refl); utf8 = refl; are_scalars = refl }

branch_is : NameIs (alone (codes "branchId")) (codes "branchId")
unfolding encode chars
branch_is = record { spelled = codes "branchId"; is = (refl, refl); utf8 = refl; are_scalars = refl }

dataset_is : NameIs (alone (codes "dataset")) (codes "dataset")
unfolding encode chars
dataset_is = record { spelled = codes "dataset"; is = (refl, refl); utf8 = refl; are_scalars = refl }

abbrev row_of : List ℕ → List Row → List ℕ → Option Row
row_of root rows name = row_at (meta_path root (codes "entity/@" ++ name)) rows

abbrev named_row : List ℕ → List Row → List ℕ → Name × Option Row
named_row root rows name = (alone name, row_of root rows name)

abbrev optional_rows : List ℕ → List Row → List (Name × Option Row)
optional_rows root rows = named_row root rows (codes "id") ∷ named_row root rows (codes "create") ∷ named_row root rows
    (codes "update")
    ∷ named_row root rows (codes "baseVersion") ∷ named_row root rows (codes "trunkVersion") ∷ named_row root rows
    (codes "branchId") ∷ []

three : (a b c rest : List ℕ) → a ++ (b ++ (c ++ rest)) ≡ (a ++ (b ++ c)) ++ rest
three a b c rest = sym (append_assoc a (b ++ c) rest ∙ ap (λ (x : List ℕ). a ++ x) (append_assoc b c rest))

optional_are : (root : List ℕ) (rows : List Row)
    → AttributesAre (all_optional (optional_rows root rows))
    (action_attributes root rows ++ version_attributes root rows)
unfolding encode
optional_are root rows =
    let o = row_of root rows in
    let text = entity_attribute root rows in
    let id = text (codes "id") in
    let create = text (codes "create") in
    let update = text (codes "update") in
    let base = text (codes "baseVersion") in
    let trunk = text (codes "trunkVersion") in
    let branch = text (codes "branchId") in
    let p5 = named_row root rows (codes "branchId") ∷ [] in
    let p4 = named_row root rows (codes "trunkVersion") ∷ p5 in
    let p3 = named_row root rows (codes "baseVersion") ∷ p4 in
    let p2 = named_row root rows (codes "update") ∷ p3 in
    let p1 = named_row root rows (codes "create") ∷ p2 in
    let b6 = branch ++ [] in
    let b5 = trunk ++ b6 in
    let b4 = base ++ b5 in
    let a6 = with_optional (alone (codes "branchId")) (codes "branchId")
    (o (codes "branchId")) [] [] branch_is no_attributes refl in
    let a5 = with_optional (alone (codes "trunkVersion")) (codes "trunkVersion")
    (o (codes "trunkVersion")) p5 b6 trunk_is a6 refl in
    let a4 = with_optional (alone (codes "baseVersion")) (codes "baseVersion")
    (o (codes "baseVersion")) p4 b5 base_is a5 refl in
    let a3 = with_optional (alone (codes "update")) (codes "update") (o (codes "update")) p3 b4 update_is a4 refl in
    let a2 = with_optional (alone (codes "create")) (codes "create") (o (codes "create")) p2
    (update ++ b4) create_is a3 refl in
    let a1 = with_optional (alone (codes "id")) (codes "id") (o (codes "id")) p1
    (create ++ (update ++ b4)) id_is a2 refl in
    let whole : id ++ (create ++ (update ++ b4)) ≡ (id ++ (create ++ update)) ++ (base ++ (trunk ++ branch)) =
    three id create update b4
    ∙ ap (λ (x : List ℕ). (id ++ (create ++ update)) ++ (base ++ (trunk ++ x))) (append-nil branch) in
    subst (λ (x : List ℕ). AttributesAre (all_optional (optional_rows root rows)) x) whole a1

abbrev dataset_attribute : EntityDef → Attribute
dataset_attribute entity = record { name = alone (codes "dataset"); value = kept_text entity.dataset }

abbrev all_attributes : List ℕ → List Row → EntityDef → List Attribute
all_attributes root rows entity = dataset_attribute entity ∷ all_optional (optional_rows root rows)

all_are : (root : List ℕ) (rows : List Row) (entity : EntityDef)
    → AttributesAre (all_attributes root rows entity) (entity_attributes root rows entity)
unfolding encode
all_are root rows entity =
    with_attribute (dataset_attribute entity) (all_optional (optional_rows root rows))
    (attribute (codes "dataset") entity.dataset) (action_attributes root rows ++ version_attributes root rows)
    (attribute_is (alone (codes "dataset")) (codes "dataset") entity.dataset dataset_is) (optional_are root rows)
    (absent (alone (codes "dataset")) (optional_rows root rows) refl)

-- ---- the entity

abbrev label_node : List ℕ → List Row → Node
label_node root rows =
    let f = content_at 16 (row_at (meta_path root (codes "entity/label")) rows) in element_node
    (in_entities (codes "label")) [] f.nodes f.words

label_written : (root : List ℕ) (rows : List Row) → Writes (label_text root rows) (label_node root rows ∷ [])
label_written root rows =
    let f = content_at 16 (row_at (meta_path root (codes "entity/label")) rows) in
    node_written (in_entities (codes "label")) (codes "entities:label")
    (label_content root rows) f.nodes f.words label_is f.content

abbrev entity_element : List ℕ → List Row → EntityDef → Element
entity_element root rows entity = element_of (tag (in_entities (codes "entity")) (all_attributes root rows entity))
    (with_words (label_node root rows ∷ []) [])

entity_written : (root : List ℕ) (rows : List Row) (entity : EntityDef) (t : Tag) (before : List Node)
    (outer : List Level) → length outer < 13
    → Written (Within (level t before) outer)
    (Within (level t (before ++ (Child (entity_element root rows entity) ∷ []))) outer)
    (entity_text root rows (Some entity))
unfolding encode chars
entity_written root rows entity t before outer low =
    let n = in_entities (codes "entity") in
    let attributes = all_attributes root rows entity in
    let s0 = Within (level t before) outer in
    let s1 = Within (opened (tag n attributes)) (level t before ∷ outer) in
    let s2 = Within (with_content (tag n attributes) (label_node root rows ∷ []) []) (level t before ∷ outer) in
    let s3 = Within (level t (before ++ (Child (entity_element root rows entity) ∷ []))) outer in
    written_then s0 s1 s3 (entity_tag root rows entity) (label_text root rows ++ end_tag (codes "entities:entity"))
    (start_written s0 s1 n (codes "entities:entity") (entity_attributes root rows entity) attributes entity_is
    (all_are root rows entity) refl (omega (arith, low)))
    (written_then s1 s2 s3 (label_text root rows) (end_tag (codes "entities:entity"))
    (label_written root rows (tag n attributes) [] (level t before ∷ outer) (omega (arith, low)))
    (end_written s2 s3 n (codes "entities:entity") entity_is
    (closes n attributes (label_node root rows ∷ []) [] t before outer)))

-- the entity, where there is one
abbrev pub entity_nodes : List ℕ → List Row → Option EntityDef → List Node
entity_nodes root rows None = []
entity_nodes root rows (Some entity) = Child (entity_element root rows entity) ∷ []

entity_at : (root : List ℕ) (rows : List Row) (entity : Option EntityDef) (t : Tag) (before : List Node)
    (outer : List Level) → length outer < 13
    → Written (Within (level t before) outer) (Within (level t (before ++ entity_nodes root rows entity)) outer)
    (entity_text root rows entity)
entity_at root rows None t before outer low = no_nodes t before outer (omega (arith, low))
entity_at root rows (Some entity) t before outer low = entity_written root rows entity t before outer low

no_deprecated_entity : (root : List ℕ) (rows : List Row) (entity : Option EntityDef)
    → child_named (codes "deprecatedID") (entity_nodes root rows entity) ≡ None
unfolding encode
no_deprecated_entity root rows None = refl
no_deprecated_entity root rows (Some entity) = first_child (codes "deprecatedID") (entity_element root rows entity) []

-- ---- all of `meta`

abbrev pub instance_name : List ℕ → List Row → Option Row
instance_name root rows = row_at (meta_path root (codes "instanceName")) rows

abbrev other_nodes : FormDef → List Row → List Node
other_nodes form rows = (names_at (instance_name form.root rows)).nodes ++ entity_nodes form.root rows form.entity

abbrev pub meta_nodes : FormDef → List Row → Meta → List Node
meta_nodes form rows meta = Child (id_element meta.instance_id) ∷
    (deprecated_nodes meta.deprecated ++ other_nodes form rows)

abbrev pub meta_element : FormDef → List Row → Meta → Element
meta_element form rows meta = element_of (tag (in_orx (codes "meta")) []) (with_words (meta_nodes form rows meta) [])

content_written : (form : FormDef) (rows : List Row) (meta : Meta) (t : Tag) (outer : List Level) → length outer < 13
    → Written (Within (opened t) outer) (Within (with_content t (meta_nodes form rows meta) []) outer)
    (meta_content form rows meta)
content_written form rows meta t outer low =
    let name = names_at (instance_name form.root rows) in
    let ids = Child (id_element meta.instance_id) ∷ deprecated_nodes meta.deprecated in
    let entity = entity_nodes form.root rows form.entity in
    let s0 = Within (level t []) outer in
    let s1 = Within (level t ids) outer in
    let s2 = Within (level t (ids ++ name.nodes)) outer in
    let s3 = Within (level t ((ids ++ name.nodes) ++ entity)) outer in
    subst (λ (ns : List Node). Written s0 (Within (level t ns) outer) (meta_content form rows meta))
    (append_assoc ids name.nodes entity)
    (written_then s0 s1 s3 (ids_text meta) (name_text form.root rows ++ entity_text form.root rows form.entity)
    (ids_written meta t [] outer (omega (arith, low)))
    (written_then s1 s2 s3 (name_text form.root rows) (entity_text form.root rows form.entity)
    (name.writes t ids outer (omega (arith, low)))
    (entity_at form.root rows form.entity t (ids ++ name.nodes) outer low)))

pub meta_written : (form : FormDef) (rows : List Row) (meta : Meta) (t : Tag) (before : List Node)
    → Written (Within (level t before) []) (Within (level t (before ++ (Child (meta_element form rows meta) ∷ []))) [])
    (meta_text form rows meta)
unfolding encode
meta_written form rows meta t before =
    let n = in_orx (codes "meta") in
    let nodes = meta_nodes form rows meta in
    let s0 = Within (level t before) [] in
    let s1 = Within (opened (tag n [])) (level t before ∷ []) in
    let s2 = Within (with_content (tag n []) nodes []) (level t before ∷ []) in
    let s3 = Within (level t (before ++ (Child (meta_element form rows meta) ∷ []))) [] in
    written_then s0 s1 s3 (start_tag (codes "orx:meta")) (meta_content form rows meta ++ end_tag (codes "orx:meta"))
    (start_written s0 s1 n (codes "orx:meta") [] [] meta_is no_attributes refl (omega arith))
    (written_then s1 s2 s3 (meta_content form rows meta) (end_tag (codes "orx:meta"))
    (content_written form rows meta (tag n []) (level t before ∷ []) (omega arith))
    (end_written s2 s3 n (codes "orx:meta") meta_is (closes n [] nodes [] t before [])))

-- ---- what is read there

pub instance_id_read : (form : FormDef) (rows : List Row) (meta : Meta)
    → child_named (codes "instanceID") (meta_nodes form rows meta) ≡ Some (id_element meta.instance_id)
unfolding encode
instance_id_read form rows meta = first_child (codes "instanceID") (id_element meta.instance_id)
    (deprecated_nodes meta.deprecated ++ other_nodes form rows)

no_deprecated_other : (form : FormDef) (rows : List Row)
    → child_named (codes "deprecatedID") (other_nodes form rows) ≡ None
no_deprecated_other form rows =
    let name = names_at (instance_name form.root rows) in
    skipped (codes "deprecatedID") name.nodes (entity_nodes form.root rows form.entity) name.none_deprecated
    ∙ no_deprecated_entity form.root rows form.entity

abbrev pub deprecated_found : Option (List ℕ) → Option Element
deprecated_found None = None
deprecated_found (Some id) = Some (deprecated_element id)

deprecated_first : (deprecated : Option (List ℕ)) (others : List Node)
    → child_named (codes "deprecatedID") others ≡ None
    → child_named (codes "deprecatedID") (deprecated_nodes deprecated ++ others) ≡ deprecated_found deprecated
unfolding encode
deprecated_first None others none = none
deprecated_first (Some id) others none = first_child (codes "deprecatedID") (deprecated_element id) others

pub deprecated_read : (form : FormDef) (rows : List Row) (meta : Meta)
    → child_named (codes "deprecatedID") (meta_nodes form rows meta) ≡ deprecated_found meta.deprecated
unfolding encode
deprecated_read form rows meta =
    first_child (codes "deprecatedID") (id_element meta.instance_id)
    (deprecated_nodes meta.deprecated ++ other_nodes form rows)
    ∙ deprecated_first meta.deprecated (other_nodes form rows) (no_deprecated_other form rows)
