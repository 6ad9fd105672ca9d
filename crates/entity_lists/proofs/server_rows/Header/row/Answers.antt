-- A row as long as the header is read by the places of its columns.
use Rattle.std.proofs.Common.{◌≡◌, List, ℕ, Bor, [], codes, unwrap_or, Option, Some, length, get_or, arith, ap, sym, ◌∙◌}
use Rattle.entity_lists.specs.CsvRecords.{contents}
use Rattle.entity_lists.specs.ServerRows.{column_place, field_under, version_in}
use Rattle.entity_lists.proofs.ColumnLemmas.{field_under_place, length-contents, place_in_row, text_at}
use Rattle.entity_lists.proofs.RowLemmas.{no_row_fault}
use Rattle.entity_lists.proofs.server_rows.Header.row.Goals as goal

abbrev none : Bor (List ℕ)
none = record { ref_ptr = (0, 0); now = [] }

pub text_of-requires : goal.text_of-requires
text_of-requires c =
    let header = c.args.self.now.names.now in
    let fields = c.args.fields.now in
    text_at fields _ none (sym c.if-not-all_text.ensures) (place_in_row header fields (codes "name") _ c.args.self.now.name_column (omega arith))

pub text_of-requires-2 : goal.text_of-requires-2
text_of-requires-2 c =
    let header = c.args.self.now.names.now in
    let fields = c.args.fields.now in
    text_at fields _ none (sym c.if-not-all_text.ensures) (place_in_row header fields (codes "label") _ c.args.self.now.label_column (omega arith))

-- the field of a row under the name of a column of its header
under : (header fields : List (Bor (List ℕ))) (name : List ℕ) (i : ℕ) → column_place (contents header) name ≡ Some i → length fields ≡ length header
    → field_under (contents header) name (contents fields) ≡ (get_or fields i none).now
under header fields name i is same = field_under_place (contents header) name fields i none is (place_in_row header fields name i is same)

pub returns-clause-ok : goal.returns-clause-ok
returns-clause-ok c =
    let header = c.args.self.now.names.now in
    let fields = c.args.fields.now in
    let same : length fields ≡ length header = omega arith in
    let long : length (contents fields) ≡ length (contents header) = omega (arith, length-contents fields, length-contents header) in
    no_row_fault (contents header) (contents fields) c.args.row c.in-Some.version long (sym c.if-not-all_text.ensures)
    (ap version_in (under header fields (codes "__version") c.args.self.now.version c.args.self.now.version_column same) ∙ sym c.in-Some.ensures)

pub returns-clause-row : goal.returns-clause-row
returns-clause-row c =
    let header = c.args.self.now.names.now in
    let fields = c.args.fields.now in
    let same : length fields ≡ length header = omega arith in
    let id = c.in_ok-text_of.ensures ∙ sym (under header fields (codes "name") c.args.self.now.name c.args.self.now.name_column same) in
    let label = c.in_ok-text_of-2.ensures ∙ sym (under header fields (codes "label") c.args.self.now.label c.args.self.now.label_column same) in
    let version = ap (λ (o : Option ℕ). unwrap_or o 0) (c.in-Some.ensures ∙ sym (ap version_in (under header fields (codes "__version") c.args.self.now.version c.args.self.now.version_column same))) in
    λ k. record { id = id k; label = label k; version = version k; props = c.in_ok-props.ensures k }
