use Rattle.std.proofs.Common.{◌≡◌, List, ℕ, IfOk, sym, subst, ap, ◌∙◌}
use Rattle.std.specs.Option.{option_copied}
use Rattle.entity_lists.proofs.TableLemmas.{cell_text-list, cell_text-none}
use Rattle.entity_lists.proofs.lists.EntityListsTables.cell.Goals as goal

pub returns-in_default : goal.returns-in_default
returns-in_default c =
    c.from_string.ensures ∙ c.new.ensures.bytes ∙ sym (cell_text-none c.args.self.now.items c.args.list.now c.args.row c.args.column.now (sym c.named.ensures ∙ ap option_copied c.in_default.is))

pub returns-in-Some-get : goal.returns-in-Some-get
returns-in-Some-get c =
    let is = cell_text-list c.args.self.now.items c.args.list.now c.in-Some.list.now c.args.row c.args.column.now _ (sym c.named.ensures ∙ ap option_copied c.in-Some.is)
    (sym c.get.ensures ∙ ap option_copied c.in-Some-get.is) in
    subst (λ (v : List ℕ). IfOk c.cell.result (λ (text : List ℕ). text ≡ v)) (sym is) c.cell.ensures

pub returns-in-None : goal.returns-in-None
returns-in-None c =
    c.from_string-in-None.ensures ∙ c.new-in-None.ensures.bytes
    ∙ sym (cell_text-list c.args.self.now.items c.args.list.now c.in-Some.list.now c.args.row c.args.column.now _ (sym c.named.ensures ∙ ap option_copied c.in-Some.is)
    (sym c.get.ensures ∙ ap option_copied c.in-None.is))
