-- The names of an outline are those of its document.
use Rattle.std.specs.Prelude.{ℕ, ◌≡◌, Bool, true, if◌then◌else◌, List, [], ◌∷◌, ◌++◌, codes, Option, Some, None, IfSome, find, option_map, map, refl, Result, Ok, Err, IfOk}
use Rattle.std.specs.List.{list_all, flat_map, cons_option}
use Rattle.std.specs.Option.{option_to_list, option_map_or}
use Rattle.std.specs.Str.{bytes_eq}
use Rattle.std.proofs.Common.{ap, sym, ◌∙◌, subst}
use Rattle.std.proofs.lemmas.Bool.{and_parts, and_from, cond_both}
use Rattle.rosa_doc.specs.declared.tree.Attribute.{Attribute}
use Rattle.rosa_doc.specs.declared.tree.Element.{Element, roll-Element}
use Rattle.rosa_doc.specs.declared.tree.Node.{Node, ind-Node, roll-Node, map-Node, out-Node}
use Rattle.rosa_doc.specs.declared.tree.Node.TheFolds.{fold_out-Node}
use Rattle.rosa_doc.specs.declared.tree.Node.TheOpen.{Node-F}
use Rattle.rosa_doc.specs.declared.tree.Node.TheVariants.{Child, Words, rolls-Child, rolls-Words}
use Rattle.rosa_doc.specs.LocalNames.{spells_local_name, element_with_children, node_with_element, has_local_names, node_has_local_names}
use Rattle.rosa_doc.proofs.LocalNames.{both_hold, has_local_names-Element, has_local_names-Child}
use Rattle.form_def.specs.Paths.{is_path}
use Rattle.form_outline.specs.declared.outline.PrimaryField.{PrimaryField}
use Rattle.form_outline.specs.declared.outline.PrimaryPart.TheVariants.{Meta, Entity}
use Rattle.form_outline.specs.declared.outline.Outline.{Outline}
use Rattle.form_outline.specs.declared.reading.OutlineFault.{OutlineFault}
use Rattle.rosa_nodes.specs.Nodes.{element_in, element_of_layer, elements, child_named, attribute_of}
use Rattle.form_outline.specs.Names.{field_has_path, has_paths, IsNamed}
use Rattle.form_outline.specs.Outlines.{◌>>=◌, first_of, first_element, outline_of, Gives}
use Rattle.form_outline.specs.Primary.{path_below, field_at, parts_of, attribute_field, attribute_fields, label_in, entity_fields, entity_part, is_meta, meta_part, meta_parts, primary_part, primary_of}
use Rattle.std.proofs.Math.Utf8.{encode, encodes, scalars}
use Rattle.field_text.specs.Xml.{is_local_name}
use Rattle.form_outline.proofs.PathLemmas.{Leads, leads_root, leads_below, is_path-below, is_path-attribute, local_name, ascii_name}
use Rattle.form_outline.proofs.PrimaryLemmas.{parts_of-Child, parts_of-Words}

-- ---- what holds of each item of a list

of_each : {A B : Type 0} (p : B → Bool) (q : A → Bool) (f : A → List B) → ((x : A) → q x ≡ true → list_all p (f x) ≡ true) → (xs : List A) → list_all q xs ≡ true → list_all p (flat_map f xs) ≡ true
of_each p q f each [] h = refl
of_each p q f each (x ∷ xs) h = let both = and_parts (q x) (list_all q xs) h in both_hold p (f x) (flat_map f xs) (each x both.0) (of_each p q f each xs both.1)

seven_hold : {A : Type 0} (p : A → Bool) (a b c d e f g : List A) → list_all p a ≡ true → list_all p b ≡ true → list_all p c ≡ true → list_all p d ≡ true → list_all p e ≡ true → list_all p f ≡ true → list_all p g ≡ true
    → list_all p (a ++ b ++ c ++ d ++ e ++ f ++ g) ≡ true
seven_hold p a b c d e f g ha hb hc hd he hf hg = both_hold p _ g (both_hold p _ f (both_hold p _ e (both_hold p _ d (both_hold p _ c (both_hold p a b ha hb) hc) hd) he) hf) hg

of_option : {A B : Type 0} (p : B → Bool) (P : A → Type 0) (f : A → List B) → ((x : A) → P x → list_all p (f x) ≡ true) → (o : Option A) → IfSome o P → list_all p (option_map_or f o []) ≡ true
of_option p P f each None h = refl
of_option p P f each (Some x) h = each x h

of_one : {A : Type 0} (p : A → Bool) (x : A) → p x ≡ true → list_all p (x ∷ []) ≡ true
of_one p x h = and_from (p x) true h refl

of_found : {A : Type 0} (q test : A → Bool) (xs : List A) → list_all q xs ≡ true → IfSome (find test xs) (λ x. q x ≡ true)
of_found q test [] h = tt
of_found q test (x ∷ xs) h =
    let both = and_parts (q x) (list_all q xs) h in
    cond_both (test x) (Some x) (find test xs) (λ o. IfSome o (λ x. q x ≡ true)) (λ _. both.0) (λ _. of_found q test xs both.1)

of_first : {A : Type 0} (q : A → Bool) (xs : List A) → list_all q xs ≡ true → IfSome (first_of xs) (λ x. q x ≡ true)
of_first q [] h = tt
of_first q (x ∷ xs) h = (and_parts (q x) (list_all q xs) h).0

if_some : {A B : Type 0} (P : A → Type 0) (Q : B → Type 0) (o : Option A) (f : A → Option B) → IfSome o P → ((x : A) → P x → IfSome (f x) Q) → IfSome (o >>= f) Q
if_some P Q None f h each = tt
if_some P Q (Some x) f h each = each x h

-- ---- elements whose names are local

abbrev IsNamedElement : Element → Type 0
IsNamedElement e = has_local_names e ≡ true

abbrev AreNamed : List Node → Type 0
AreNamed nodes = list_all node_has_local_names nodes ≡ true

name_of : (e : Element) → IsNamedElement e → spells_local_name e.name ≡ true
name_of e h = (and_parts (spells_local_name e.name) (list_all node_has_local_names e.children) (sym (has_local_names-Element e) ∙ h)).0

children_of : (e : Element) → IsNamedElement e → AreNamed e.children
children_of e h = (and_parts (spells_local_name e.name) (list_all node_has_local_names e.children) (sym (has_local_names-Element e) ∙ h)).1

in_layer : (layer : Node-F Node Element) → node_with_element (map-Node Node Element Bool Bool node_has_local_names has_local_names layer) ≡ true → IfSome (element_of_layer layer) IsNamedElement
in_layer (Node-F.Child e) h = h
in_layer (Node-F.Words text) h = tt

in_node : (n : Node) → node_has_local_names n ≡ true → IfSome (element_in n) IsNamedElement
in_node n h = in_layer (out-Node n) (sym (fold_out-Node Bool Bool node_with_element element_with_children n) ∙ h)

with_first : (o : Option Element) (es : List Element) → IfSome o IsNamedElement → list_all has_local_names es ≡ true → list_all has_local_names (cons_option o es) ≡ true
with_first None es h k = k
with_first (Some e) es h k = and_from (has_local_names e) (list_all has_local_names es) h k

in_nodes : (nodes : List Node) → AreNamed nodes → list_all has_local_names (elements nodes) ≡ true
in_nodes [] h = refl
in_nodes (n ∷ ns) h = let both = and_parts (node_has_local_names n) (list_all node_has_local_names ns) h in with_first (element_in n) (elements ns) (in_node n both.0) (in_nodes ns both.1)

child_is_named : (name : List ℕ) (nodes : List Node) → AreNamed nodes → IfSome (child_named name nodes) IsNamedElement
child_is_named name nodes h = of_found has_local_names (λ e. bytes_eq e.name name) (elements nodes) (in_nodes nodes h)

first_is_named : (nodes : List Node) → AreNamed nodes → IfSome (first_element nodes) IsNamedElement
first_is_named nodes h = of_first has_local_names (elements nodes) (in_nodes nodes h)

-- ---- the parts of a tree below a path

abbrev Parts : Node → Type 0
Parts n = (root path : List ℕ) → node_has_local_names n ≡ true → Leads root path → list_all (has_paths root) (parts_of path n) ≡ true

abbrev PartsBelow : List Node → Type 0
PartsBelow nodes = (root path : List ℕ) → AreNamed nodes → Leads root path → list_all (has_paths root) (flat_map (parts_of path) nodes) ≡ true

at_child : (e : Element) → PartsBelow e.children → Parts (Child e)
at_child e below root path h leads =
    let named = sym (has_local_names-Child e) ∙ h in
    let name = name_of e named in
    ap (list_all (has_paths root)) (parts_of-Child path e)
    ∙ and_from (is_path root (path_below path e.name)) (list_all (has_paths root) (flat_map (parts_of (path_below path e.name)) e.children))
    (is_path-below root path e.name leads name) (below root (path_below path e.name) (children_of e named) (leads_below root path e.name leads name))

at_words : (text : List ℕ) → Parts (Words text)
at_words text root path h leads = ap (list_all (has_paths root)) (parts_of-Words path text)

at_node : (y : Node-F ((n : Node) × Parts n) ((e : Element) × PartsBelow e.children))
    → Parts (roll-Node (map-Node ((n : Node) × Parts n) ((e : Element) × PartsBelow e.children) Node Element (λ p. p.0) (λ p. p.0) y))
at_node (Node-F.Words text) = subst Parts (sym (rolls-Words text)) (at_words text)
at_node (Node-F.Child p) = subst Parts (sym (rolls-Child p.0)) (at_child p.0 p.1)

at_nodes : (ns : List ((n : Node) × Parts n)) → PartsBelow (map (λ p. p.0) ns)
at_nodes [] root path h leads = refl
at_nodes (p ∷ ps) root path h leads =
    let both = and_parts (node_has_local_names p.0) (list_all node_has_local_names (map (λ p. p.0) ps)) h in
    both_hold (has_paths root) (parts_of path p.0) (flat_map (parts_of path) (map (λ p. p.0) ps)) (p.1 root path both.0 leads) (at_nodes ps root path both.1 leads)

parts_have_paths : (n : Node) → Parts n
parts_have_paths = ind-Node Parts (λ e. PartsBelow e.children) (λ x y is. subst (λ z. Parts (roll-Node z)) is (at_node y)) (λ x y is. subst (λ z. PartsBelow (roll-Element z).children) is (at_nodes y.children))

-- ---- the entity

attribute_has_path : (root path name : List ℕ) (value : Option (List ℕ)) → Leads root path → spells_local_name name ≡ true
    → list_all (field_has_path root) (option_to_list (option_map (attribute_field path name) value)) ≡ true
attribute_has_path root path name None leads h = refl
attribute_has_path root path name (Some value) leads h = of_one (field_has_path root) (attribute_field path name value) (is_path-attribute root path name leads h)

label_has_path : (root path : List ℕ) → Leads root path → (n : Node) → node_has_local_names n ≡ true → list_all (field_has_path root) (label_in path n) ≡ true
label_has_path root path leads n h =
    of_option (field_has_path root) IsNamedElement (λ e. if bytes_eq e.name (codes "label") then field_at (path_below path e.name) e ∷ [] else [])
    (λ e named. cond_both (bytes_eq e.name (codes "label")) (field_at (path_below path e.name) e ∷ []) [] (λ fields. list_all (field_has_path root) fields ≡ true)
    (λ _. of_one (field_has_path root) (field_at (path_below path e.name) e) (is_path-below root path e.name leads (name_of e named))) (λ _. refl))
    (element_in n) (in_node n h)

entity_has_paths : (root path : List ℕ) (attributes : List Attribute) (nodes : List Node) → Leads root path → AreNamed nodes → list_all (field_has_path root) (entity_fields path attributes nodes) ≡ true
unfolding encode
entity_has_paths root path attributes nodes leads h =
    let each : (name : List ℕ) → scalars name ≡ true → encodes name ≡ name → is_local_name name ≡ true → list_all (field_has_path root) (attribute_fields path attributes name) ≡ true =
    λ name a b c. attribute_has_path root path name (attribute_of name attributes) leads (ascii_name name a b c) in
    let of_name : List ℕ → List PrimaryField = attribute_fields path attributes in
    seven_hold (field_has_path root) (of_name (codes "id")) (of_name (codes "create")) (of_name (codes "update"))
    (of_name (codes "baseVersion")) (of_name (codes "trunkVersion")) (of_name (codes "branchId")) (flat_map (label_in path) nodes)
    (each (codes "id") refl refl refl) (each (codes "create") refl refl refl) (each (codes "update") refl refl refl)
    (each (codes "baseVersion") refl refl refl) (each (codes "trunkVersion") refl refl refl) (each (codes "branchId") refl refl refl)
    (of_each (field_has_path root) node_has_local_names (label_in path) (label_has_path root path leads) nodes h)

-- ---- the primary instance

meta_has_paths : (root path : List ℕ) → Leads root path → (e : Element) → IsNamedElement e → list_all (has_paths root) (meta_part path e) ≡ true
meta_has_paths root path leads e named =
    let name = name_of e named in
    cond_both (bytes_eq e.name (codes "instanceName")) _ _ (λ parts. list_all (has_paths root) parts ≡ true)
    (λ _. of_one (has_paths root) (Meta (field_at (path_below path e.name) e)) (is_path-below root path e.name leads name))
    (λ _. cond_both (bytes_eq e.name (codes "entity")) _ _ (λ parts. list_all (has_paths root) parts ≡ true)
    (λ _. of_one (has_paths root) (Entity (entity_part (path_below path e.name) e)) (entity_has_paths root (path_below path e.name) e.attributes e.children (leads_below root path e.name leads name) (children_of e named)))
    (λ _. refl))

metas_have_paths : (root path : List ℕ) → Leads root path → (n : Node) → node_has_local_names n ≡ true → list_all (has_paths root) (meta_parts path n) ≡ true
metas_have_paths root path leads n h = of_option (has_paths root) IsNamedElement (meta_part path) (meta_has_paths root path leads) (element_in n) (in_node n h)

part_has_paths : (root path : List ℕ) → Leads root path → (n : Node) → node_has_local_names n ≡ true → list_all (has_paths root) (primary_part path n) ≡ true
part_has_paths root path leads n h =
    of_option (has_paths root) IsNamedElement (λ e. if is_meta e then flat_map (meta_parts (path_below path e.name)) e.children else parts_of path n)
    (λ e named. cond_both (is_meta e) _ _ (λ parts. list_all (has_paths root) parts ≡ true)
    (λ _. of_each (has_paths root) node_has_local_names (meta_parts (path_below path e.name)) (metas_have_paths root (path_below path e.name) (leads_below root path e.name leads (name_of e named))) e.children (children_of e named))
    (λ _. parts_have_paths n root path h leads))
    (element_in n) (in_node n h)

primary_has_paths : (e : Element) → IsNamedElement e → list_all (has_paths e.name) (primary_of e) ≡ true
primary_has_paths e named =
    of_each (has_paths e.name) node_has_local_names (primary_part (path_below [] e.name)) (part_has_paths e.name (path_below [] e.name) (leads_root e.name (name_of e named))) e.children (children_of e named)

-- ---- the outline

outline_is_named : (document : Element) → IsNamedElement document → IfSome (outline_of document) IsNamed
unfolding outline_of
outline_is_named document named =
    let within = children_of document named in
    if_some IsNamedElement IsNamed (child_named (codes "head") document.children) _ (child_is_named (codes "head") document.children within) (λ head h.
    if_some IsNamedElement IsNamed (child_named (codes "model") head.children) _ (child_is_named (codes "model") head.children (children_of head h)) (λ model m.
    if_some IsNamedElement IsNamed (child_named (codes "instance") model.children) _ (child_is_named (codes "instance") model.children (children_of model m)) (λ instance i.
    if_some IsNamedElement IsNamed (first_element instance.children) _ (first_is_named instance.children (children_of instance i)) (λ root r.
    if_some IsNamedElement IsNamed (child_named (codes "body") document.children) _ (child_is_named (codes "body") document.children within) (λ body b.
    (local_name root.name (name_of root r), primary_has_paths root r))))))

pub given_is_named : (document : Element) (r : Result Outline OutlineFault) → has_local_names document ≡ true → Gives (λ o. o) r (outline_of document) → IfOk r (λ outline. IsNamed outline)
given_is_named document (Ok outline) named is = subst (λ o. IfSome o IsNamed) is (outline_is_named document named)
given_is_named document (Err fault) named is = tt
