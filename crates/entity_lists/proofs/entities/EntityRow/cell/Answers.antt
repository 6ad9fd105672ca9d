use Rattle.std.proofs.Common.{◌≡◌, List, ℕ, IfOk, ◌∷◌, codes, map, sym, subst, ap, ◌∙◌}
use Rattle.std.specs.Fmt.{decimal}
use Rattle.std.specs.Cmp.Lexicographic.{other_text}
use Rattle.field_text.specs.Tables.{text_in}
use Rattle.entity_lists.specs.EntityTables.{cell_of, entity_cells, prop_cell, trunk_text}
use Rattle.entity_lists.proofs.TableLemmas.{other_column}
use Rattle.entity_lists.proofs.entities.EntityRow.cell.Goals as goal

pub returns-else-eq-5 : goal.returns-else-eq-5
returns-else-eq-5 c =
    let column = c.args.column.now in
    let is : c.as_bytes.result.now ≡ column = c.as_bytes.ensures.value ∙ c.as_str-name.ensures in
    let row = c.args.self.now in
    let props = map prop_cell row.props in
    let branch = cell_of (codes "__branchId") row.branch in
    let trunk = cell_of (codes "__trunkVersion") (trunk_text row.trunk) in
    let version = cell_of (codes "__version") (decimal row.version) in
    let label = cell_of (codes "label") row.label in
    let id = cell_of (codes "name") row.id in
    let skip : text_in (entity_cells row) column ≡ text_in props column =
    other_column id (label ∷ version ∷ trunk ∷ branch ∷ props) column (λ e. other_text _ _ c.if-eq.ensures (c.as_str-name.ensures ∙ sym e))
    ∙ other_column label (version ∷ trunk ∷ branch ∷ props) column (λ e. other_text _ _ c.if-eq-2.ensures (c.as_str-name.ensures ∙ sym e))
    ∙ other_column version (trunk ∷ branch ∷ props) column (λ e. other_text _ _ c.if-eq-3.ensures (c.as_str-name.ensures ∙ sym e))
    ∙ other_column trunk (branch ∷ props) column (λ e. other_text _ _ c.if-eq-4.ensures (c.as_str-name.ensures ∙ sym e))
    ∙ other_column branch props column (λ e. other_text _ _ c.if-eq-5.ensures (c.as_str-name.ensures ∙ sym e)) in
    subst (λ (v : List ℕ). IfOk c.property.result (λ (text : List ℕ). text ≡ v)) (ap (λ (n : List ℕ). text_in props n) is ∙ sym skip) c.property.ensures
