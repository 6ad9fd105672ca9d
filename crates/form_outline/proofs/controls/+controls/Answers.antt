use Rattle.std.specs.Prelude.{codes}
use Rattle.std.specs.Str.{bytes_eq}
use Rattle.std.proofs.Common.{rules, ◌≡◌, true, false}
use Rattle.form_outline.specs.Controls.{is_label}
use Rattle.form_outline.proofs.ControlLemmas.{controls_in-Words, controls_in-group, controls_in-label, controls_in-control}
use Rattle.form_outline.proofs.controls.+controls.Goals as goal

pub push_controls_in-returns-then-eq : goal.push_controls_in-returns-then-eq
push_controls_in-returns-then-eq t c =
    let h : bytes_eq c.in-Child.element.name (codes "group") ≡ true = search rules in
    rw (c.in-Child.is, controls_in-group c.in-Child.element h, ← c.as_slice.ensures) c.push_controls.ensures

pub push_controls_in-returns-then-is_label : goal.push_controls_in-returns-then-is_label
push_controls_in-returns-then-is_label t c =
    let h : bytes_eq c.in-Child.element.name (codes "group") ≡ false = search rules in
    let g : is_label c.in-Child.element ≡ true = search rules in
    rw (c.in-Child.is, controls_in-label c.in-Child.element h g) (search rules)

pub push_controls_in-returns-in_ok-push-in-Child : goal.push_controls_in-returns-in_ok-push-in-Child
push_controls_in-returns-in_ok-push-in-Child t c =
    let h : bytes_eq c.in-Child.element.name (codes "group") ≡ false = search rules in
    let g : is_label c.in-Child.element ≡ false = search rules in
    rw (c.in-Child.is, controls_in-control c.in-Child.element h g) (search rules)

pub push_controls_in-returns-in-Words : goal.push_controls_in-returns-in-Words
push_controls_in-returns-in-Words t c = rw (c.in-Words.is, controls_in-Words) (search rules)
