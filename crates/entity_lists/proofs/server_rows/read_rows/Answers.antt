-- Row by row: no fault so far, and the rows kept are those that name an entity.
use Rattle.std.proofs.Common.{◌≡◌, ◌+◌, ◌<◌, ◌≤◌, ◌==◌, ◌++◌, [], not, List, ℕ, Bor, true, false, Vec, Global, Some, None, map, filter, take, length, get_or, arith, ap, sym, inl, inr, ◌∙◌}
use Rattle.std.proofs.lemmas.List.{append-nil, get_or-map, length-map}
use Rattle.std.proofs.lemmas.Result.{err_from_is_err_and}
use Rattle.csv.specs.Records.{Row, fields_of}
use Rattle.entity_lists.specs.CsvRecords.{contents}
use Rattle.entity_lists.specs.ServerRows.{is_named, row_fault, server_row}
use Rattle.entity_lists.specs.declared.entities.ServerRow.{ServerRow}
use Rattle.entity_lists.specs.declared.server_rows.CsvRefused.TheVariants.{TooMany}
use Rattle.entity_lists.proofs.FirstLemmas.{if_passes}
use Rattle.entity_lists.proofs.RowLemmas.{named_step, row_refused, row_taken, too_many_rows}
use Rattle.entity_lists.proofs.server_rows.read_rows.Goals as goal
use Rattle.entity_lists.proofs.server_rows.read_rows.Goals.{then-not-is_empty+in_ok-push, else-not-is_empty}

-- the fields that were read are those of the record that the loop is at
fields_here : (records : List Row) (i : ℕ) (item : Row) (fields slice : List (Bor (List ℕ))) → item ≡ get_or records i item → i < length records
    → contents fields ≡ fields_of item → slice ≡ fields → get_or (map fields_of records) i [] ≡ contents slice
fields_here records i item fields slice is small read same =
    get_or-map fields_of records i item [] small ∙ ap fields_of (sym is) ∙ sym read ∙ ap contents (sym same)

pub returns-then-number-gt-ROW_LIMIT-clause-err : goal.returns-then-number-gt-ROW_LIMIT-clause-err
returns-then-number-gt-ROW_LIMIT-clause-err c =
    let header = contents c.args.header.now.names.now in
    let rows = map fields_of c.args.records.now in
    let i = c.loop-record.record-index in
    let inv = c.loop-record.invariant in
    let small : i < length rows = omega (arith, length-map c.args.records.now fields_of, c.loop-record-test.true) in
    let same : i + 1 ≡ c.loop-record.number + 1 = omega (arith, inv.number) in
    inr (too_many_rows header rows i small inv.sound (omega (arith, inv.number)) ∙ ap (λ n. Some (TooMany n)) same)

pub returns-in_err-row-clause-err : goal.returns-in_err-row-clause-err
returns-in_err-row-clause-err c =
    let p = err_from_is_err_and c.from_residual-in_err-row.result c.from_residual-in_err-row.ensures.1 in
    let header = contents c.args.header.now.names.now in
    let records = c.args.records.now in
    let i = c.loop-record.record-index in
    let inv = c.loop-record.invariant in
    let small : i < length (map fields_of records) = omega (arith, length-map records fields_of, c.loop-record-test.true) in
    let number : i + 1 ≡ c.loop-record.number + 1 = omega (arith, inv.number) in
    let here = fields_here records i c.record-item.result c.in_ok-fields.fields.items c.as_slice.result.now c.record-item.is c.loop-record-test.true c.in_ok-fields.ensures c.as_slice.ensures.value in
    rw (p.1, p.2) (elim c.in_err-row.ensures.err [
      | inl e ↦ inl e
      | inr f ↦ inr (row_refused header (map fields_of records) i c.in_err-row.field-0.0 small inv.sound (omega (arith, inv.number))
          (ap (λ n. row_fault header n (get_or (map fields_of records) i [])) number ∙ ap (row_fault header (c.loop-record.number + 1)) here ∙ f))
    ])

pub loop-record-preserved : goal.loop-record-preserved
loop-record-preserved c =
    let header = contents c.args.header.now.names.now in
    let records = c.args.records.now in
    let rows = map fields_of records in
    let i = c.loop-record.record-index in
    let inv = c.loop-record.invariant in
    let kept = c.loop-record.rows.items in
    let row = c.in_ok-row.row in
    let small : i < length rows = omega (arith, length-map records fields_of, c.loop-record-test.true) in
    let number : i + 1 ≡ c.loop-record.number + 1 = omega (arith, inv.number) in
    let here = fields_here records i c.record-item.result c.in_ok-fields.fields.items c.as_slice.result.now c.record-item.is c.loop-record-test.true c.in_ok-fields.ensures c.as_slice.ensures.value in
    let few : i + 1 ≤ 4096 = omega (arith, inv.number) in
    let fault : row_fault header (i + 1) (get_or rows i []) ≡ None =
    ap (λ n. row_fault header n (get_or rows i [])) number ∙ ap (row_fault header (c.loop-record.number + 1)) here ∙ c.in_ok-row.ensures.ok in
    let is : server_row header (get_or rows i []) ≡ row = ap (server_row header) here ∙ sym c.in_ok-row.ensures.row in
    let step : filter is_named (map (server_row header) (take (i + 1) rows)) ≡ kept ++ if_passes (is_named row) row =
    named_step header rows i small ∙ ap (λ (l : List ServerRow). l ++ if_passes (is_named (server_row header (get_or rows i []))) (server_row header (get_or rows i []))) (sym inv.rows)
    ∙ ap (λ (r : ServerRow). kept ++ if_passes (is_named r) r) is in
    let empty : c.is_empty.result ≡ (length row.id == 0) = c.is_empty.ensures ∙ ap (λ (l : List ℕ). length l == 0) c.bytes.ensures.value in
    record {
      number = ap (λ n. n + 1) inv.number;
      few = few;
      sound = row_taken header rows i small inv.sound few fault;
      rows = elim c.if-not-is_empty.branch [
        | then-not-is_empty+in_ok-push w ↦
            let named : is_named row ≡ true = ap not (sym empty ∙ w.if-not-is_empty.true) in
            ap (λ (v : Vec ServerRow Global). v.items) w.rows-is ∙ w.in_ok-push.ensures.items ∙ sym (ap (λ b. kept ++ if_passes b row) named) ∙ sym step
        | else-not-is_empty w ↦
            let unnamed : is_named row ≡ false = ap not (sym empty ∙ w.if-not-is_empty.false) in
            ap (λ (v : Vec ServerRow Global). v.items) w.rows-is ∙ sym (append-nil kept) ∙ sym (ap (λ b. kept ++ if_passes b row) unnamed) ∙ sym step
      ];
    }
