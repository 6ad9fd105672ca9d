-- The controls in each kind of node.
use Rattle.std.specs.Prelude.{ℕ, true, false, List, [], ◌∷◌, ◌++◌, ◌≡◌, codes, map, refl}
use Rattle.std.specs.List.{flat_map}
use Rattle.std.specs.Str.{bytes_eq}
use Rattle.std.proofs.Common.{ap, ◌∙◌}
use Rattle.rosa_doc.specs.declared.tree.Element.{Element}
use Rattle.rosa_doc.specs.declared.tree.Node.{Node}
use Rattle.rosa_doc.specs.declared.tree.Node.TheVariants.{Child, Words}
use Rattle.form_outline.specs.declared.outline.Control.{Control}
use Rattle.form_outline.specs.Controls.{is_label, control_of, controls_below, controls_in, controls_of}
use Rattle.form_outline.proofs.TreeLemmas.{gathered-Child, gathered-Words}

joined : (ns : List Node) → flat_map (λ cs. cs) (map controls_in ns) ≡ controls_of ns
joined [] = refl
joined (n ∷ ns) = ap (λ cs. controls_in n ++ cs) (joined ns)

in_element : (e : Element) → controls_in (Child e) ≡ controls_below e (map controls_in e.children)
in_element e = gathered-Child (List Control) [] controls_below e

pub controls_in-Words : (text : List ℕ) → controls_in (Words text) ≡ []
controls_in-Words text = gathered-Words (List Control) [] controls_below text

pub controls_in-group : (e : Element) → bytes_eq e.name (codes "group") ≡ true → controls_in (Child e) ≡ controls_of e.children
controls_in-group e is = in_element e ∙ (rw is (joined e.children))

pub controls_in-label : (e : Element) → bytes_eq e.name (codes "group") ≡ false → is_label e ≡ true → controls_in (Child e) ≡ []
controls_in-label e other is = in_element e ∙ (rw other (rw is refl))

pub controls_in-control : (e : Element) → bytes_eq e.name (codes "group") ≡ false → is_label e ≡ false → controls_in (Child e) ≡ control_of e ∷ []
controls_in-control e other is = in_element e ∙ (rw other (rw is refl))
