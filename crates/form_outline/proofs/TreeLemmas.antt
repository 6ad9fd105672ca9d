use Rattle.std.specs.Prelude.{ℕ, List, [], ◌∷◌, map, ◌≡◌, refl}
use Rattle.std.proofs.Common.{ap, sym, ◌∙◌, subst}
use Rattle.rosa_doc.specs.declared.tree.Element.{Element, fold-Element, fold_out-Element, roll-Element}
use Rattle.rosa_doc.specs.declared.tree.Node.{Node, fold-roll-Node, ind-Node, roll-Node, map-Node}
use Rattle.rosa_doc.specs.declared.tree.Node.TheOpen.{Node-F}
use Rattle.rosa_doc.specs.declared.tree.Node.TheVariants.{Child, Words, rolls-Child, rolls-Words}
use Rattle.form_outline.specs.Trees.{of_layer, of_node_layer, gathered_with, gathered}

words_gathered : (V : Type 0) (w : V) (f : Element → List V → V) (t : List ℕ) → gathered_with V w f (Words t) ≡ (Words t, w)
words_gathered V w f t = ap (gathered_with V w f) (sym (rolls-Words t)) ∙ fold-roll-Node (Node × V) (Element × V) (of_node_layer w) (of_layer f) (Node-F.Words t)

abbrev Keeps : (V : Type 0) (w : V) (f : Element → List V → V) → Node → Type 0
Keeps V w f n = (gathered_with V w f n).0 ≡ n

abbrev KeepsElement : (V : Type 0) (w : V) (f : Element → List V → V) → Element → Type 0
KeepsElement V w f e = map (λ n. n.0) (map (gathered_with V w f) e.children) ≡ e.children

both : {A : Type 0} {a b : A} {xs ys : List A} → a ≡ b → xs ≡ ys → (a ∷ xs) ≡ (b ∷ ys)
both x y = cc

all_kept : (V : Type 0) (w : V) (f : Element → List V → V) (ns : List ((n : Node) × Keeps V w f n))
    → map (λ n. n.0) (map (gathered_with V w f) (map (λ p. p.0) ns)) ≡ map (λ p. p.0) ns
all_kept V w f [] = refl
all_kept V w f (p ∷ ps) = both p.1 (all_kept V w f ps)

element_folds : (V : Type 0) (w : V) (f : Element → List V → V) (e : Element)
    → fold-Element (Node × V) (Element × V) (of_node_layer w) (of_layer f) e ≡ (let whole : Element = record { name = e.name; attributes = e.attributes; children = map (λ n. n.0) (map (gathered_with V w f) e.children) } in (whole, f whole (map (λ n. n.1) (map (gathered_with V w f) e.children))))
element_folds V w f e = fold_out-Element (Node × V) (Element × V) (of_node_layer w) (of_layer f) e

abbrev with_children : Element → List Node → Node
with_children e ns = Child (record { name = e.name; attributes = e.attributes; children = ns })

at_child : (V : Type 0) (w : V) (f : Element → List V → V) (e : Element) → KeepsElement V w f e → (gathered_with V w f (roll-Node (Node-F.Child e))).0 ≡ roll-Node (Node-F.Child e)
at_child V w f e h = ap (λ p. p.0) (fold-roll-Node (Node × V) (Element × V) (of_node_layer w) (of_layer f) (Node-F.Child e)) ∙ (ap (λ z. Child z.0) (element_folds V w f e) ∙ (ap (with_children e) h ∙ sym (rolls-Child e)))

at_words : (V : Type 0) (w : V) (f : Element → List V → V) (text : List ℕ) → (gathered_with V w f (roll-Node (Node-F.Words text))).0 ≡ roll-Node (Node-F.Words text)
at_words V w f text = ap (λ p. p.0) (fold-roll-Node (Node × V) (Element × V) (of_node_layer w) (of_layer f) (Node-F.Words text)) ∙ sym (rolls-Words text)

at_node : (V : Type 0) (w : V) (f : Element → List V → V) (y : Node-F ((n : Node) × Keeps V w f n) ((e : Element) × KeepsElement V w f e))
    → Keeps V w f (roll-Node (map-Node ((n : Node) × Keeps V w f n) ((e : Element) × KeepsElement V w f e) Node Element (λ p. p.0) (λ p. p.0) y))
at_node V w f (Node-F.Words text) = at_words V w f text
at_node V w f (Node-F.Child p) = at_child V w f p.0 p.1

pub kept : (V : Type 0) (w : V) (f : Element → List V → V) (n : Node) → Keeps V w f n
kept V w f = ind-Node (Keeps V w f) (KeepsElement V w f) (λ x y is. subst (λ z. Keeps V w f (roll-Node z)) is (at_node V w f y)) (λ x y is. subst (λ z. KeepsElement V w f (roll-Element z)) is (all_kept V w f y.children))

children_kept : (V : Type 0) (w : V) (f : Element → List V → V) (ns : List Node) → map (λ n. n.0) (map (gathered_with V w f) ns) ≡ ns
children_kept V w f [] = refl
children_kept V w f (n ∷ ns) = both (kept V w f n) (children_kept V w f ns)

children_gathered : (V : Type 0) (w : V) (f : Element → List V → V) (ns : List Node) → map (λ n. n.1) (map (gathered_with V w f) ns) ≡ map (gathered V w f) ns
unfolding gathered
children_gathered V w f [] = refl
children_gathered V w f (n ∷ ns) = both refl (children_gathered V w f ns)

abbrev from_children : (V : Type 0) (f : Element → List V → V) → Element → List Node → List V → V
from_children V f e ns vs = f (record { name = e.name; attributes = e.attributes; children = ns }) vs

-- from an element: what is gathered from it and from its children
pub gathered-Child : (V : Type 0) (w : V) (f : Element → List V → V) (e : Element) → gathered V w f (Child e) ≡ f e (map (gathered V w f) e.children)
unfolding gathered
gathered-Child V w f e =
    (ap (gathered V w f) (sym (rolls-Child e)) ∙ ap (λ p. p.1) (fold-roll-Node (Node × V) (Element × V) (of_node_layer w) (of_layer f) (Node-F.Child e)))
    ∙ (ap (λ z. z.1) (element_folds V w f e)
    ∙ (ap (λ ns. from_children V f e ns (map (λ n. n.1) (map (gathered_with V w f) e.children))) (children_kept V w f e.children)
    ∙ ap (f e) (children_gathered V w f e.children)))

pub gathered-Words : (V : Type 0) (w : V) (f : Element → List V → V) (text : List ℕ) → gathered V w f (Words text) ≡ w
unfolding gathered
gathered-Words V w f text = ap (λ p. p.1) (words_gathered V w f text)
