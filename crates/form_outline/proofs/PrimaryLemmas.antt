-- The parts in each kind of node of the primary instance.
use Rattle.std.specs.Prelude.{ℕ, List, [], ◌∷◌, ◌++◌, ◌≡◌, map, refl, Result, Ok, Err, OnOk}
use Rattle.std.specs.List.{flat_map}
use Rattle.std.proofs.Common.{ap, ◌∙◌, append_assoc}
use Rattle.rosa_doc.specs.declared.tree.Element.{Element}
use Rattle.rosa_doc.specs.declared.tree.Node.{Node}
use Rattle.rosa_doc.specs.declared.tree.Node.TheVariants.{Child, Words}
use Rattle.form_outline.specs.declared.outline.PrimaryField.{PrimaryField}
use Rattle.form_outline.specs.declared.outline.PrimaryPart.{PrimaryPart}
use Rattle.form_outline.specs.declared.outline.PrimaryPart.TheVariants.{Field}
use Rattle.form_outline.specs.Trees.{gathered}
use Rattle.form_outline.specs.Primary.{path_below, field_at, parts_below, no_parts, parts_of}
use Rattle.form_outline.proofs.TreeLemmas.{gathered-Child, gathered-Words}

joined : (path : List ℕ) (ns : List Node) → flat_map (λ parts. parts path) (map (gathered (List ℕ → List PrimaryPart) no_parts parts_below) ns) ≡ flat_map (parts_of path) ns
joined path [] = refl
joined path (n ∷ ns) = ap (λ parts. parts_of path n ++ parts) (joined path ns)

pub parts_of-Words : (parent text : List ℕ) → parts_of parent (Words text) ≡ []
parts_of-Words parent text = ap (λ f. f parent) (gathered-Words (List ℕ → List PrimaryPart) no_parts parts_below text)

pub parts_of-Child : (parent : List ℕ) (e : Element)
    → parts_of parent (Child e) ≡ Field (field_at (path_below parent e.name) e) ∷ flat_map (parts_of (path_below parent e.name)) e.children
parts_of-Child parent e =
    ap (λ f. f parent) (gathered-Child (List ℕ → List PrimaryPart) no_parts parts_below e) ∙ ap (λ parts. Field (field_at (path_below parent e.name) e) ∷ parts) (joined (path_below parent e.name) e.children)

seven_parts : {A : Type 0} (a b c d e f g : List A) → (((((a ++ b) ++ c) ++ d) ++ e) ++ f) ++ g ≡ a ++ b ++ c ++ d ++ e ++ f ++ g
seven_parts a b c d e f g = simp append_assoc refl

-- what was appended one by one is the whole
pub seven_appended : {A : Type 0} (a b c d e f g s t u v w x y z : List A) → s ≡ [] → t ≡ s ++ a → u ≡ t ++ b → v ≡ u ++ c → w ≡ v ++ d → x ≡ w ++ e → y ≡ x ++ f → z ≡ y ++ g
    → z ≡ a ++ b ++ c ++ d ++ e ++ f ++ g
seven_appended a b c d e f g s t u v w x y z hs ht hu hv hw hx hy hz = rw (hz, hy, hx, hw, hv, hu, ht, hs) (seven_parts a b c d e f g)

pub on_ok : {A E P Q : Type 0} (r : Result A E) → (P → Q) → OnOk r P → OnOk r Q
on_ok (Ok x) f p = f p
on_ok (Err e) f p = p

-- an element's field was appended, and then those of its children
pub child_appended : (parent : List ℕ) (e : Element) (name path path_again : List ℕ) (f : PrimaryField) (nodes : List Node) (before with_field after : List PrimaryPart)
    → name ≡ e.name → path ≡ path_below parent name → f ≡ field_at path e → with_field ≡ before ++ Field f ∷ [] → path_again ≡ path → nodes ≡ e.children
    → after ≡ with_field ++ flat_map (parts_of path_again) nodes → after ≡ before ++ parts_of parent (Child e)
child_appended parent e name path path_again f nodes before with_field after name_is path_is f_is with_field_is again nodes_is after_is =
    rw (after_is, with_field_is, nodes_is, again, f_is, path_is, name_is, parts_of-Child parent e) (append_assoc before (Field (field_at (path_below parent e.name) e) ∷ []) (flat_map (parts_of (path_below parent e.name)) e.children))
