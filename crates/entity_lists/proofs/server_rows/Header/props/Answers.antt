-- Each property is that of its column, by the column's place.
use Rattle.std.proofs.Common.{◌≡◌, ◌+◌, ◌<◌, ◌≤◌, ◌++◌, ◌∷◌, [], List, ℕ, Bor, Some, map, take, length, get_or, add-one, ap, sym, subst, refl, ◌∙◌}
use Rattle.std.proofs.lemmas.List.{map-append, take_all}
use Rattle.std.proofs.Math.Seq.{take-suc}
use Rattle.entity_lists.specs.CsvRecords.{contents}
use Rattle.entity_lists.specs.ServerRows.{column_place, prop_under}
use Rattle.entity_lists.specs.declared.entities.Prop.{Prop}
use Rattle.entity_lists.specs.declared.server_rows.PropColumn.{PropColumn}
use Rattle.entity_lists.proofs.ColumnLemmas.{field_under_place, place_in_row, text_at}
use Rattle.entity_lists.proofs.server_rows.Header.props.Goals as goal

abbrev none : Bor (List ℕ)
none = record { ref_ptr = (0, 0); now = [] }

map_map : (f : List ℕ → Prop) (columns : List PropColumn) → map (λ (p : PropColumn). f p.name) columns ≡ map f (map (λ (p : PropColumn). p.name) columns)
map_map f [] = refl
map_map f (p ∷ ps) = ap (λ (l : List Prop). f p.name ∷ l) (map_map f ps)

-- the column that the loop is at has the place of its name
at_column : (header : List (List ℕ)) (columns seen : List PropColumn) (i : ℕ) (item : PropColumn) → seen ≡ columns → item ≡ get_or seen i item → i < length seen
    → ((k : ℕ) (d : PropColumn) → k < length columns → column_place header (get_or columns k d).name ≡ Some (get_or columns k d).place)
    → (item ≡ get_or columns i item) × (i < length columns) × (column_place header item.name ≡ Some item.place)
at_column header columns seen i item same is small places =
    let at : item ≡ get_or columns i item = is ∙ ap (λ (l : List PropColumn). get_or l i item) same in
    let within : i < length columns = subst (λ (l : List PropColumn). i < length l) same small in
    (at, within, subst (λ (p : PropColumn). column_place header p.name ≡ Some p.place) (sym at) (places i item within))

pub text_of-requires : goal.text_of-requires
text_of-requires c =
    let header = c.args.self.now.names.now in
    let fields = c.args.fields.now in
    let item = c.column-item.result in
    let at = at_column (contents header) _ _ _ item c.deref-column-items.ensures.value c.column-item.is c.loop-column-test.true c.args.self.now.prop_columns in
    text_at fields item.place none c.requires.text (place_in_row header fields item.name item.place at.2 c.requires.same_length)

pub loop-column-preserved : goal.loop-column-preserved
loop-column-preserved c =
    let header = c.args.self.now.names.now in
    let fields = c.args.fields.now in
    let columns = c.args.self.now.props.items in
    let i = c.loop-column.column-index in
    let item = c.column-item.result in
    let prop = λ (p : PropColumn). prop_under (contents header) (contents fields) p.name in
    let at = at_column (contents header) columns _ i item c.deref-column-items.ensures.value c.column-item.is c.loop-column-test.true c.args.self.now.prop_columns in
    let value = field_under_place (contents header) item.name fields item.place none at.2 (place_in_row header fields item.name item.place at.2 c.requires.same_length) in
    let new : Prop = record { name = c.in_ok-copy.field-0; value = c.in_ok-text_of.field-0 } in
    let same : new ≡ prop item = λ k. record { name = c.in_ok-copy.ensures k; value = (c.in_ok-text_of.ensures ∙ sym value) k } in
    let step : map prop (take (i + 1) columns) ≡ map prop (take i columns) ++ prop item ∷ [] =
    ap (map prop) (rw (add-one i) (take-suc columns i item at.1) ∙ ap (λ (p : PropColumn). take i columns ++ p ∷ []) (sym at.0)) ∙ map-append prop (take i columns) (item ∷ []) in
    c.in_ok-push.ensures.items ∙ ap (λ (l : List Prop). l ++ new ∷ []) c.loop-column.invariant ∙ ap (λ (p : Prop). map prop (take i columns) ++ p ∷ []) same ∙ sym step

pub returns : goal.returns
returns c =
    let header = contents c.args.self.now.names.now in
    let fields = contents c.args.fields.now in
    let columns = c.args.self.now.props.items in
    let all : take c.loop-column.column-index columns ≡ columns = take_all c.loop-column.column-index columns (subst (λ (l : List PropColumn). length l ≤ c.loop-column.column-index) c.deref-column-items.ensures.value c.loop-column-test.false) in
    c.from_vec.ensures ∙ c.loop-column.invariant ∙ ap (map (λ (p : PropColumn). prop_under header fields p.name)) all ∙ map_map (prop_under header fields) columns ∙ ap (map (prop_under header fields)) c.args.self.now.prop_names
