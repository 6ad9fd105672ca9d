use Rattle.std.proofs.Common.{◌≡◌, List, ℕ, IfOk, sym, subst, ap, ◌∙◌}
use Rattle.std.specs.Option.{option_copied}
use Rattle.entity_lists.proofs.TableLemmas.{text_in-props}
use Rattle.entity_lists.proofs.entities.EntityRow.property.Goals as goal

pub returns-in-Some : goal.returns-in-Some
returns-in-Some c =
    let is = text_in-props c.args.self.now.props c.args.name.now _ (sym c.prop.ensures ∙ ap option_copied c.in-Some.is) in
    subst (λ (v : List ℕ). IfOk c.copy.result (λ (text : List ℕ). text ≡ v)) (sym is) c.copy.ensures

pub returns-in-None : goal.returns-in-None
returns-in-None c =
    c.from_string.ensures ∙ c.new.ensures.bytes ∙ sym (text_in-props c.args.self.now.props c.args.name.now _ (sym c.prop.ensures ∙ ap option_copied c.in-None.is))
