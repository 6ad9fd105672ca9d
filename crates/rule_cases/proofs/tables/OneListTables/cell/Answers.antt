use Rattle.std.proofs.Common.{◌≡◌, IfOk, Some, None, sym, ◌∙◌, ap, subst}
use Rattle.std.specs.Option.{option_copied}
use Rattle.expr_values.specs.Rows.{columns_of}
use Rattle.rule_cases.proofs.ListLemmas.{cell_of_one}
use Rattle.rule_cases.proofs.tables.OneListTables.cell.Goals as goal

pub returns-in-Some : goal.returns-in-Some
returns-in-Some c =
    let e = cell_of_one c.args.self.now.name c.args.list.now c.args.self.now.rows c.args.row c.args.column.now (Some c.in-Some.cells.now)
    (sym c.is_named.ensures ∙ c.if-not-is_named.false) (sym c.get.ensures.value ∙ ap option_copied c.in-Some.is) in
    subst (λ v. IfOk c.inner_cell.result (λ text. text ≡ v)) (ap (λ cells. columns_of cells c.args.column.now) c.as_slice.ensures ∙ sym e) c.inner_cell.ensures

pub returns-in-None : goal.returns-in-None
returns-in-None c =
    c.from_string-in-None.ensures ∙ c.new-in-None.ensures.bytes
    ∙ sym (cell_of_one c.args.self.now.name c.args.list.now c.args.self.now.rows c.args.row c.args.column.now None
    (sym c.is_named.ensures ∙ c.if-not-is_named.false) (sym c.get.ensures.value ∙ ap option_copied c.in-None.is))
