-- The names found so far are those of the columns read so far, each with its place.
use Rattle.std.proofs.Common.{◌≡◌, ◌≤◌, ◌+◌, ◌&&◌, not, ◌++◌, ◌∷◌, [], List, ℕ, Bor, Some, map, filter, length, take, drop, get_or, All, subst, length-append, arith, Vec, Global, ap, sym, ◌∙◌}
use Rattle.std.specs.List.{list_any}
use Rattle.std.specs.Str.{bytes_eq, is_utf8}
use Rattle.std.proofs.lemmas.List.{append-nil, length-map, map-append, take-append-drop, take_all}
use Rattle.std.proofs.lemmas.List.Elements.{All-push}
use Rattle.std.proofs.Math.Seq.{take-append_seam}
use Rattle.entity_lists.specs.CsvRecords.{contents}
use Rattle.entity_lists.specs.ServerRows.{column_place, first_of_each, is_property, property_names}
use Rattle.entity_lists.specs.declared.server_rows.PropColumn.{PropColumn}
use Rattle.entity_lists.proofs.ColumnLemmas.{all_utf8_at, contents_at, length-contents, more_names, names_step, new_place, taken_more}
use Rattle.entity_lists.proofs.FirstLemmas.{if_passes}
use Rattle.entity_lists.proofs.server_rows.prop_columns.Goals as goal
use Rattle.entity_lists.proofs.server_rows.prop_columns.Goals.{then-is_new_property+in_ok-name+in_ok-push, else-is_new_property, else-loop-place-test, then-loop-place-test+then-len-eq-PROPERTY_LIMIT}

abbrev none : Bor (List ℕ)
none = record { ref_ptr = (0, 0); now = [] }

abbrev HasPlace : List (Bor (List ℕ)) → PropColumn → Type 0
HasPlace header p = column_place (contents header) p.name ≡ Some p.place

pub text_of-requires : goal.text_of-requires
text_of-requires c =
    let header = c.args.header.now in
    let place = c.loop-place.place in
    sym (ap is_utf8 (contents_at header place none c.loop-place-test.true)) ∙ all_utf8_at (contents header) place [] c.requires (omega (arith, length-contents header))

-- the first 64 names are all of them, or those that are there when there are 64
all_read : (header : List (List ℕ)) (columns : List PropColumn) (i : ℕ) → map (λ (p : PropColumn). p.name) columns ≡ filter is_property (first_of_each (take i header))
    → length header ≤ i → length columns ≤ 64 → map (λ (p : PropColumn). p.name) columns ≡ property_names header
all_read header columns i names past few =
    let all : filter is_property (first_of_each (take i header)) ≡ filter is_property (first_of_each header) = ap (λ (h : List (List ℕ)). filter is_property (first_of_each h)) (take_all i header past) in
    let found = map (λ (p : PropColumn). p.name) columns in
    let short : length found ≤ 64 = omega (arith, length-map columns (λ (p : PropColumn). p.name)) in
    sym (ap (take 64) (sym (names ∙ all)) ∙ take_all 64 found short)

enough_read : (header : List (List ℕ)) (columns : List PropColumn) (i : ℕ) → map (λ (p : PropColumn). p.name) columns ≡ filter is_property (first_of_each (take i header))
    → length columns ≡ 64 → map (λ (p : PropColumn). p.name) columns ≡ property_names header
enough_read header columns i names full =
    let found = map (λ (p : PropColumn). p.name) columns in
    let more = more_names is_property (take i header) (drop i header) in
    let all : filter is_property (first_of_each header) ≡ found ++ more.0 =
    ap (λ (h : List (List ℕ)). filter is_property (first_of_each h)) (sym (take-append-drop i header)) ∙ more.1 ∙ ap (λ (n : List (List ℕ)). n ++ more.0) (sym names) in
    let size : length found ≡ 64 = length-map columns (λ (p : PropColumn). p.name) ∙ full in
    sym (ap (take 64) all ∙ ap (λ n. take n (found ++ more.0)) (sym size) ∙ take-append_seam found more.0)

pub loop-place-preserved : goal.loop-place-preserved
loop-place-preserved c =
    let inv = c.loop-place.invariant in
    let header = c.args.header.now in
    let place = c.loop-place.place in
    let columns = c.loop-place.columns.items in
    let x : List ℕ = (get_or header place none).now in
    let new = c.is_new_property.result in
    let is_new : new ≡ (is_property x && not (list_any (λ (p : PropColumn). bytes_eq p.name x) columns)) =
    c.is_new_property.ensures ∙ ap (λ (l : List PropColumn). is_property x && not (list_any (λ (p : PropColumn). bytes_eq p.name x) l)) c.as_slice.ensures.value in
    let step = names_step (take place (contents header)) columns x new inv.names is_new in
    let more = ap (λ (h : List (List ℕ)). filter is_property (first_of_each h)) (taken_more header place none c.loop-place-test.true) in
    elim c.if-is_new_property.branch [
      | then-is_new_property+in_ok-name+in_ok-push w ↦
          let column : PropColumn = record { name = w.in_ok-name.name; place = place } in
          let items : c.if-is_new_property.columns.items ≡ columns ++ column ∷ [] = ap (λ (v : Vec PropColumn Global). v.items) w.columns-is ∙ w.in_ok-push.ensures.items in
          let named : column.name ≡ x = w.in_ok-name.ensures in
          let one_new : if_passes new x ≡ x ∷ [] = ap (λ b. if_passes b x) w.if-is_new_property.true in
          let there : column_place (contents header) x ≡ Some place = new_place header columns place none c.loop-place-test.true inv.names (sym w.if-is_new_property.true ∙ is_new) in
          let size : length c.if-is_new_property.columns.items ≡ length columns + 1 = ap length items ∙ length-append columns (column ∷ []) in
          let full : length columns ≡ 64 → ⊥ = λ h. c.if-len-eq-PROPERTY_LIMIT.false (c.len.ensures ∙ sym c.as_slice.ensures.len ∙ ap length c.as_slice.ensures.value ∙ h) in
          record {
            names = ap (map (λ (p : PropColumn). p.name)) items ∙ map-append (λ (p : PropColumn). p.name) columns (column ∷ []) ∙ ap (λ (n : List ℕ). map (λ (p : PropColumn). p.name) columns ++ n ∷ []) named
                ∙ sym (ap (λ (t : List (List ℕ)). map (λ (p : PropColumn). p.name) columns ++ t) one_new) ∙ sym step ∙ sym more;
            few = omega (arith, inv.few);
            places = subst (λ (l : List PropColumn). All (HasPlace header) l) (sym items) (All-push (HasPlace header) columns column inv.places (ap (column_place (contents header)) named ∙ there));
          }
      | else-is_new_property w ↦
          let same : c.if-is_new_property.columns.items ≡ columns = ap (λ (v : Vec PropColumn Global). v.items) w.columns-is in
          let none_new : if_passes new x ≡ [] = ap (λ b. if_passes b x) w.if-is_new_property.false in
          record {
            names = ap (map (λ (p : PropColumn). p.name)) same ∙ sym (append-nil _) ∙ sym (ap (λ (t : List (List ℕ)). map (λ (p : PropColumn). p.name) columns ++ t) none_new) ∙ sym step ∙ sym more;
            few = subst (λ (l : List PropColumn). length l ≤ 64) (sym same) inv.few;
            places = subst (λ (l : List PropColumn). All (HasPlace header) l) (sym same) inv.places;
          }
    ]

pub returns-clause-names : goal.returns-clause-names
returns-clause-names c =
    let inv = c.loop-place.invariant in
    let header = contents c.args.header.now in
    let place = c.loop-place.place in
    let columns = c.loop-place.columns.items in
    elim c.loop-place-test.branch [
      | else-loop-place-test w ↦ all_read header columns place inv.names (omega (arith, length-contents c.args.header.now)) inv.few
      | then-loop-place-test+then-len-eq-PROPERTY_LIMIT w ↦
          let ok = c.loop-place.columns.ok in
          enough_read header columns place inv.names (sym ok.0 ∙ sym w.len.ensures ∙ w.if-len-eq-PROPERTY_LIMIT.true)
    ]
