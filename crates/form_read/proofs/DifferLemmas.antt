-- The fields that a primary instance gives: their paths begin with the name of its root, and they differ once its parts were taken.
use Rattle.std.specs.Prelude.{ℕ, ◌≡◌, ◌≢◌, Bool, true, false, ◌||◌, if◌then◌else◌, List, [], ◌∷◌, ◌++◌, codes, find, All, AllPairs, Contains, Option, Some, None, Result, Ok, Err, refl}
use Rattle.std.specs.List.{list_all, flat_map, cons_option}
use Rattle.std.specs.Option.{option_map_or}
use Rattle.std.specs.Str.{bytes_eq}
use Rattle.std.proofs.Common.{zero, suc, ap, sym, ◌∙◌, subst, arith}
use Rattle.std.proofs.lemmas.Bool.{and_parts, and_from, or_parts, false≢true}
use Rattle.std.proofs.Math.Bool.{or-false}
use Rattle.std.proofs.lemmas.List.Folds.{list_any-append}
use Rattle.std.proofs.lemmas.List.Elements.{All-nil, All-cons, All-head, All-tail, All-weaker, Contains-append_right}
use Rattle.std.proofs.lemmas.List.Kept.{AllPairs-cons}
use Rattle.std.proofs.lemmas.Slice.Eq.{bytes_eq-Decides}
use Rattle.rosa_doc.specs.declared.tree.Element.{Element}
use Rattle.rosa_doc.specs.declared.tree.Node.{Node}
use Rattle.rosa_doc.proofs.LocalNames.{both_hold}
use Rattle.form_def.specs.Paths.{is_path}
use Rattle.form_def.specs.Fields.{have_paths, PathsDiffer}
use Rattle.form_outline.specs.declared.outline.PrimaryField.{PrimaryField}
use Rattle.form_outline.specs.declared.outline.EntityPart.{EntityPart}
use Rattle.form_outline.specs.declared.outline.PrimaryPart.{PrimaryPart}
use Rattle.form_outline.specs.declared.outline.PrimaryPart.TheVariants.{Field, Meta, Entity}
use Rattle.form_outline.specs.declared.outline.Outline.{Outline}
use Rattle.form_outline.specs.declared.outline.ModelPart.{ModelPart}
use Rattle.form_outline.specs.declared.outline.ModelPart.TheVariants as part
use Rattle.form_outline.specs.declared.outline.Control.{Control}
use Rattle.form_outline.specs.Names.{field_has_path, has_paths, IsNamed}
use Rattle.rosa_nodes.specs.Nodes.{element_in, elements, child_named}
use Rattle.form_outline.specs.Models.{is_instance, first_or_part, has_instance, parts_behind, model_of}
use Rattle.form_outline.specs.Outlines.{first_element, outline_of, Outlines}
use Rattle.form_outline.specs.Outlines as outlines
use Rattle.form_read.specs.declared.draft.Bound.{Bound}
use Rattle.form_read.specs.declared.draft.Asked.{Asked}
use Rattle.form_read.specs.Slots.{outside_meta, inside_meta, is_entity, meta_slots, slots_of}
use Rattle.form_read.specs.declared.primary.Seen.{Seen}
use Rattle.form_read.specs.declared.refusal.FormRefused.{FormRefused}
use Rattle.form_read.specs.declared.refusal.FormRefused.TheVariants.{UnknownPath, BadEntity}
use Rattle.form_read.specs.Refusals.{◌>>=◌}
use Rattle.form_read.specs.Primary.{has_path, path_taken, paths_taken, entity_path, is_no_entity, field_taken, entity_taken, part_taken, parts_taken, nothing_seen}
use Rattle.form_read.specs.declared.scope.Scope.{Scope}
use Rattle.form_read.specs.declared.draft.Draft.{Draft}
use Rattle.form_read.specs.Drafts.{model_part_taken, model_taken, controls_taken, head_first, body_first, all_taken}
use Rattle.form_read.specs.Forms.{field_of, fields_of}

-- ---- the paths of the fields

outside_named : (root : List ℕ) (p : PrimaryPart) → has_paths root p ≡ true → list_all (field_has_path root) (outside_meta p) ≡ true
outside_named root (Field f) h = and_from (is_path root f.path) true h refl
outside_named root (Meta f) h = refl
outside_named root (Entity e) h = refl

all_outside_named : (root : List ℕ) (parts : List PrimaryPart) → list_all (has_paths root) parts ≡ true → list_all (field_has_path root) (flat_map outside_meta parts) ≡ true
all_outside_named root [] h = refl
all_outside_named root (p ∷ ps) h =
    let both = and_parts (has_paths root p) (list_all (has_paths root) ps) h in
    both_hold (field_has_path root) (outside_meta p) (flat_map outside_meta ps) (outside_named root p both.0) (all_outside_named root ps both.1)

inside_named : (root : List ℕ) (has_entity : Bool) (p : PrimaryPart) → has_paths root p ≡ true → list_all (field_has_path root) (inside_meta has_entity p) ≡ true
inside_named root has_entity (Field f) h = refl
inside_named root has_entity (Meta f) h = and_from (is_path root f.path) true h refl
inside_named root true (Entity e) h = refl
inside_named root false (Entity e) h = h

meta_named : (root : List ℕ) (has_entity : Bool) (parts : List PrimaryPart) → list_all (has_paths root) parts ≡ true → list_all (field_has_path root) (meta_slots has_entity parts) ≡ true
meta_named root has_entity [] h = refl
meta_named root has_entity (p ∷ ps) h =
    let both = and_parts (has_paths root p) (list_all (has_paths root) ps) h in
    both_hold (field_has_path root) (inside_meta has_entity p) (meta_slots (has_entity || is_entity p) ps) (inside_named root has_entity p both.0) (meta_named root (has_entity || is_entity p) ps both.1)

pub slots_named : (outline : Outline) → IsNamed outline → list_all (λ s. is_path outline.root s.path) (slots_of outline.primary) ≡ true
slots_named outline named =
    both_hold (field_has_path outline.root) (flat_map outside_meta outline.primary) (meta_slots false outline.primary)
    (all_outside_named outline.root outline.primary named.1) (meta_named outline.root false outline.primary named.1)

pub fields_named : (root : List ℕ) (slots : List PrimaryField) (bounds : List (Option Bound)) (asked : List (Option Asked)) → list_all (λ s. is_path root s.path) slots ≡ true
    → have_paths root (fields_of slots bounds asked) ≡ true
fields_named root [] bounds asked h = refl
fields_named root (s ∷ ss) [] asked h = refl
fields_named root (s ∷ ss) (b ∷ bs) [] h = refl
fields_named root (s ∷ ss) (b ∷ bs) (a ∷ rest) h =
    let both = and_parts (is_path root s.path) (list_all (λ s. is_path root s.path) ss) h in
    and_from (is_path root s.path) (have_paths root (fields_of ss bs rest)) both.0 (fields_named root ss bs rest both.1)

-- ---- the paths differ

abbrev Apart : PrimaryField → PrimaryField → Type 0
Apart a b = a.path ≢ b.path

of_fields : (P : List ℕ → Type 0) (slots : List PrimaryField) (bounds : List (Option Bound)) (asked : List (Option Asked)) → All (λ s. P s.path) slots → All (λ f. P f.path) (fields_of slots bounds asked)
of_fields P [] bounds asked h = All-nil (λ f. P f.path)
of_fields P (s ∷ ss) [] asked h = All-nil (λ f. P f.path)
of_fields P (s ∷ ss) (b ∷ bs) [] h = All-nil (λ f. P f.path)
of_fields P (s ∷ ss) (b ∷ bs) (a ∷ rest) h =
    All-cons (λ f. P f.path) (field_of s b a) (fields_of ss bs rest) (All-head (λ s. P s.path) s ss h) (of_fields P ss bs rest (All-tail (λ s. P s.path) s ss h))

first_apart : (s : PrimaryField) (ss : List PrimaryField) → AllPairs Apart (s ∷ ss) → All (Apart s) ss
first_apart s ss h = λ k d within. h 0 (suc k) d (omega arith) (omega arith)

others_apart : (s : PrimaryField) (ss : List PrimaryField) → AllPairs Apart (s ∷ ss) → AllPairs Apart ss
others_apart s ss h = λ i j d below within. h (suc i) (suc j) d (omega arith) (omega arith)

no_pairs : {A : Type 0} (R : A → A → Type 0) → AllPairs R []
no_pairs R = λ i j d below within. absurd (omega arith)

pub fields_differ : (slots : List PrimaryField) (bounds : List (Option Bound)) (asked : List (Option Asked)) → AllPairs (λ a b. a.path ≢ b.path) slots → PathsDiffer (fields_of slots bounds asked)
fields_differ [] bounds asked h = no_pairs (λ a b. a.path ≢ b.path)
fields_differ (s ∷ ss) [] asked h = no_pairs (λ a b. a.path ≢ b.path)
fields_differ (s ∷ ss) (b ∷ bs) [] h = no_pairs (λ a b. a.path ≢ b.path)
fields_differ (s ∷ ss) (b ∷ bs) (a ∷ rest) h =
    AllPairs-cons (λ a b. a.path ≢ b.path) (field_of s b a) (fields_of ss bs rest) (of_fields (λ path. s.path ≢ path) ss bs rest (first_apart s ss h)) (fields_differ ss bs rest (others_apart s ss h))

-- ---- what was taken is new, and what is taken behind it too

then_ok : {A B : Type 0} (r : Result A FormRefused) (f : A → Result B FormRefused) (y : B) → (r >>= f) ≡ Ok y → (x : A) × (r ≡ Ok x) × (f x ≡ Ok y)
then_ok (Ok x) f y is = (x, refl, is)
then_ok (Err refusal) f y is = absurd cc

pub taken_if : {A : Type 0} (b : Bool) (refusal : FormRefused) (r : Result A FormRefused) (x : A) → (if b then Err refusal else r) ≡ Ok x → (b ≡ false) × (r ≡ Ok x)
taken_if true refusal r x is = absurd cc
taken_if false refusal r x is = (refl, is)

abbrev given : {A : Type 0} → A → Result A FormRefused
given x = Ok x

same : {A : Type 0} {x y : A} → given x ≡ given y → x ≡ y
same is = cc

abbrev IsNew : List (List ℕ) → PrimaryField → Type 0
IsNew paths s = has_path paths s.path ≡ false

record Differ (paths : List (List ℕ)) (slots : List PrimaryField) : Type 0 where
  pub all_new : All (IsNew paths) slots
  pub apart : AllPairs Apart slots

none_differ : (paths : List (List ℕ)) → Differ paths []
none_differ paths = record { all_new = All-nil (IsNew paths); apart = no_pairs Apart }

new_before : (paths : List (List ℕ)) (f s : PrimaryField) → IsNew (paths ++ f.path ∷ []) s → IsNew paths s × Apart f s
new_before paths f s h =
    let both = or_parts (has_path paths s.path) (has_path (f.path ∷ []) s.path) (sym (list_any-append (λ p. bytes_eq p s.path) paths (f.path ∷ [])) ∙ h) in
    (both.0, λ is. false≢true (sym (or_parts (bytes_eq f.path s.path) false both.1).0 ∙ (bytes_eq-Decides f.path s.path).1 is))

all_among : {A : Type 0} (P : A → Type 0) (x : A) (xs ys : List A) → P x → All P (xs ++ ys) → All P (xs ++ x ∷ ys)
all_among P x [] ys here h = All-cons P x ys here h
all_among P x (z ∷ zs) ys here h = All-cons P z (zs ++ x ∷ ys) (All-head P z (zs ++ ys) h) (all_among P x zs ys here (All-tail P z (zs ++ ys) h))

apart_among : (f : PrimaryField) (xs ys : List PrimaryField) → All (Apart f) (xs ++ ys) → AllPairs Apart (xs ++ ys) → AllPairs Apart (xs ++ f ∷ ys)
apart_among f [] ys each h = AllPairs-cons Apart f ys each h
apart_among f (z ∷ zs) ys each h =
    AllPairs-cons Apart z (zs ++ f ∷ ys) (all_among (Apart z) f zs ys (λ is. All-head (Apart f) z (zs ++ ys) each (sym is)) (first_apart z (zs ++ ys) h))
    (apart_among f zs ys (All-tail (Apart f) z (zs ++ ys) each) (others_apart z (zs ++ ys) h))

-- one more field, wherever it stands among the slots
differ_among : (paths : List (List ℕ)) (f : PrimaryField) (xs ys : List PrimaryField) → IsNew paths f → Differ (paths ++ f.path ∷ []) (xs ++ ys) → Differ paths (xs ++ f ∷ ys)
differ_among paths f xs ys here d = record {
  all_new = all_among (IsNew paths) f xs ys here (All-weaker (IsNew (paths ++ f.path ∷ [])) (IsNew paths) (λ s h. (new_before paths f s h).0) (xs ++ ys) d.all_new);
  apart = apart_among f xs ys (All-weaker (IsNew (paths ++ f.path ∷ [])) (Apart f) (λ s h. (new_before paths f s h).1) (xs ++ ys) d.all_new) d.apart;
}

path_new : (paths : List (List ℕ)) (path : List ℕ) (more : List (List ℕ)) → path_taken paths path ≡ Ok more → (has_path paths path ≡ false) × (paths ++ path ∷ [] ≡ more)
path_new paths path more is = let (off, gives) = taken_if (has_path paths path) (UnknownPath path) (Ok (paths ++ path ∷ [])) more is in (off, same gives)

fields_among : (paths : List (List ℕ)) (fs xs ys : List PrimaryField) (more : List (List ℕ)) → paths_taken paths fs ≡ Ok more → Differ more (xs ++ ys) → Differ paths (xs ++ (fs ++ ys))
fields_among paths [] xs ys more is d = subst (λ p. Differ p (xs ++ ys)) (sym (same is)) d
fields_among paths (f ∷ fs) xs ys more is d =
    let (next, first, others) = then_ok (path_taken paths f.path) (λ more. paths_taken more fs) more is in
    let (new, next_is) = path_new paths f.path next first in
    differ_among paths f xs (fs ++ ys) new (subst (λ p. Differ p (xs ++ (fs ++ ys))) (sym next_is) (fields_among next fs xs ys more others d))

-- ---- part by part

abbrev Slots : Bool → List PrimaryPart → List PrimaryField
Slots has_entity parts = flat_map outside_meta parts ++ meta_slots has_entity parts

abbrev Stand : Seen → List PrimaryPart → Type 0
Stand seen parts = Differ seen.paths (Slots seen.has_entity parts)

field_new : (seen next : Seen) (f : PrimaryField) → field_taken seen f ≡ Ok next → (has_path seen.paths f.path ≡ false) × (next ≡ record { paths = seen.paths ++ f.path ∷ []; has_entity = seen.has_entity })
field_new seen next f is =
    let (paths, first, gives) = then_ok (path_taken seen.paths f.path) (λ paths. Ok (record { paths = paths; has_entity = seen.has_entity })) next is in
    let (new, paths_is) = path_new seen.paths f.path paths first in
    (new, sym (ap (λ p. record { paths = p; has_entity = seen.has_entity }) paths_is ∙ same gives))

behind_field : (seen next : Seen) (f : PrimaryField) (ps : List PrimaryPart) → field_taken seen f ≡ Ok next → Stand next ps → Stand seen (Field f ∷ ps)
behind_field seen next f ps is d =
    let (new, next_is) = field_new seen next f is in
    subst (λ b. Differ seen.paths (f ∷ flat_map outside_meta ps ++ meta_slots b ps)) (sym (or-false seen.has_entity))
    (differ_among seen.paths f [] (Slots seen.has_entity ps) new (subst (λ s. Stand s ps) next_is d))

behind_meta : (seen next : Seen) (f : PrimaryField) (ps : List PrimaryPart) → field_taken seen f ≡ Ok next → Stand next ps → Stand seen (Meta f ∷ ps)
behind_meta seen next f ps is d =
    let (new, next_is) = field_new seen next f is in
    subst (λ b. Differ seen.paths (flat_map outside_meta ps ++ f ∷ meta_slots b ps)) (sym (or-false seen.has_entity))
    (differ_among seen.paths f (flat_map outside_meta ps) (meta_slots seen.has_entity ps) new (subst (λ s. Stand s ps) next_is d))

first_entity : (has_entity : Bool) (dataset : Option (List ℕ)) → is_no_entity has_entity dataset ≡ false → has_entity ≡ false
first_entity has_entity None is = absurd cc
first_entity has_entity (Some dataset) is = is

behind_entity : (root : List ℕ) (seen next : Seen) (e : EntityPart) (ps : List PrimaryPart) → entity_taken root seen e ≡ Ok next → Stand next ps → Stand seen (Entity e ∷ ps)
behind_entity root seen next e ps is d =
    let (some, taken) = taken_if (is_no_entity seen.has_entity e.dataset) (BadEntity (entity_path root)) (paths_taken seen.paths e.fields >>= λ paths. Ok (record { paths = paths; has_entity = true })) next is in
    let (paths, first, gives) = then_ok (paths_taken seen.paths e.fields) (λ paths. Ok (record { paths = paths; has_entity = true })) next taken in
    subst (λ b. Differ seen.paths (Slots b (Entity e ∷ ps))) (sym (first_entity seen.has_entity e.dataset some))
    (fields_among seen.paths e.fields (flat_map outside_meta ps) (meta_slots true ps) paths first (subst (λ s. Stand s ps) (sym (same gives)) d))

behind_part : (root : List ℕ) (seen next : Seen) (p : PrimaryPart) (ps : List PrimaryPart) → part_taken root seen p ≡ Ok next → Stand next ps → Stand seen (p ∷ ps)
behind_part root seen next (Field f) ps is d = behind_field seen next f ps is d
behind_part root seen next (Meta f) ps is d = behind_meta seen next f ps is d
behind_part root seen next (Entity e) ps is d = behind_entity root seen next e ps is d

all_differ : (root : List ℕ) (parts : List PrimaryPart) (seen after : Seen) → parts_taken root seen parts ≡ Ok after → Stand seen parts
all_differ root [] seen after is = none_differ seen.paths
all_differ root (p ∷ ps) seen after is =
    let (next, first, others) = then_ok (part_taken root seen p) (λ next. parts_taken root next ps) after is in
    behind_part root seen next p ps first (all_differ root ps next after others)

pub slots_differ : (root : List ℕ) (parts : List PrimaryPart) (seen : Seen) → parts_taken root nothing_seen parts ≡ Ok seen → AllPairs (λ a b. a.path ≢ b.path) (slots_of parts)
slots_differ root parts seen is = (all_differ root parts nothing_seen seen is).apart

-- ---- the primary instance is a part of the model, and was taken

of_primary : (scope : Scope) (primary : List PrimaryPart) (d after : Draft) (parts : List ModelPart) → Contains parts part.Primary → model_taken scope primary d parts ≡ Ok after
    → (seen : Seen) × (parts_taken scope.root nothing_seen primary ≡ Ok seen)
of_primary scope primary d after [] (k, within, is) taken = absurd (omega (arith, within))
of_primary scope primary d after (p ∷ ps) (zero, within, is) taken =
    let (next, first, others) = then_ok (model_part_taken scope primary d p) (λ next. model_taken scope primary next ps) after taken in
    let (seen, was, gives) = then_ok (parts_taken scope.root nothing_seen primary) (λ seen. Ok d) next (subst (λ p. model_part_taken scope primary d p ≡ Ok next) is first) in
    (seen, was)
of_primary scope primary d after (p ∷ ps) (suc k, within, is) taken =
    let (next, first, others) = then_ok (model_part_taken scope primary d p) (λ next. model_taken scope primary next ps) after taken in
    of_primary scope primary next after ps (k, omega (arith, within), is) others

pub primary_was_taken : (is_body_first : Bool) (scope : Scope) (primary : List PrimaryPart) (controls : List Control) (d after : Draft) → Contains scope.model part.Primary
    → all_taken is_body_first scope primary controls d ≡ Ok after → (seen : Seen) × (parts_taken scope.root nothing_seen primary ≡ Ok seen)
unfolding head_first body_first
primary_was_taken true scope primary controls d after has taken =
    let (next, first, others) = then_ok (controls_taken scope d controls) (λ next. model_taken scope primary next scope.model) after taken in
    of_primary scope primary next after scope.model has others
primary_was_taken false scope primary controls d after has taken =
    let (next, first, others) = then_ok (model_taken scope primary d scope.model) (λ next. controls_taken scope next controls) after taken in
    of_primary scope primary d next scope.model has first

then_some : {A B : Type 0} (o : Option A) (f : A → Option B) (y : B) → (outlines.◌>>=◌ o f) ≡ Some y → (x : A) × (o ≡ Some x) × (f x ≡ Some y)
then_some (Some x) f y is = (x, refl, is)
then_some None f y is = absurd cc

first_instance : (found : Element) (o : Option Element) (ns : List Node) → find is_instance (cons_option o (elements ns)) ≡ Some found → (find is_instance (elements ns) ≡ Some found → Contains (parts_behind false ns) part.Primary)
    → Contains (option_map_or (first_or_part false) o [] ++ parts_behind (has_instance false o) ns) part.Primary
first_instance found None ns is behind = behind is
first_instance found (Some e) ns is behind = at_element (is_instance e) e refl is
  where
    at_element : (b : Bool) (e : Element) → is_instance e ≡ b → find is_instance (e ∷ elements ns) ≡ Some found → Contains (first_or_part false e ++ parts_behind (is_instance e) ns) part.Primary
    at_element true e here is = rw here (0, omega arith, refl)
    at_element false e here is =
        Contains-append_right (first_or_part false e) (parts_behind (is_instance e) ns) part.Primary
        (subst (λ b. Contains (parts_behind b ns) part.Primary) (sym here) (behind (rw here at is)))

has_primary : (found : Element) (nodes : List Node) → find is_instance (elements nodes) ≡ Some found → Contains (model_of nodes) part.Primary
has_primary found [] is = absurd cc
has_primary found (n ∷ ns) is = first_instance found (element_in n) ns is (has_primary found ns)

outline_has_primary : (document : Element) (outline : Outline) → outline_of document ≡ Some outline → Contains outline.model part.Primary
unfolding outline_of
outline_has_primary document outline is =
    let (head, head_is, past_head) = then_some (child_named (codes "head") document.children) _ outline is in
    let (model, model_is, past_model) = then_some (child_named (codes "model") head.children) _ outline past_head in
    let (instance, instance_is, past_instance) = then_some (child_named (codes "instance") model.children) _ outline past_model in
    let (root, root_is, past_root) = then_some (first_element instance.children) _ outline past_instance in
    let (body, body_is, gives) = then_some (child_named (codes "body") document.children) _ outline past_root in
    subst (λ m. Contains m part.Primary) (same_model gives) (has_primary instance model.children instance_is)
  where
    same_model : {x y : Outline} → Some x ≡ Some y → x.model ≡ y.model
    same_model is = cc

pub model_has_primary : (bytes : List ℕ) (outline : Outline) → Outlines bytes outline → Contains outline.model part.Primary
model_has_primary bytes outline (doc, is_doc, is) = outline_has_primary doc.root outline is
