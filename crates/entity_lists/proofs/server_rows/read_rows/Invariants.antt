use Rattle.std.proofs.Common.{◌≡◌, ◌≤◌, None, map, take, filter}
use Rattle.csv.specs.Records.{fields_of}
use Rattle.entity_lists.specs.CsvRecords.{contents}
use Rattle.entity_lists.specs.ServerRows.{is_named, row_limit, rows_fault, server_row}
use Rattle.entity_lists.proofs.server_rows.read_rows.Given as goal

abbrev pub invariant-loop-record : goal.invariant-loop-record
invariant-loop-record l = record {
  number : l.number ≡ l.record-index;
  few : l.record-index ≤ row_limit;
  sound : rows_fault (contents l.header.names.now) 1 (take l.record-index (map fields_of l.records)) ≡ None;
  rows : l.rows.items ≡ filter is_named (map (server_row (contents l.header.names.now)) (take l.record-index (map fields_of l.records)));
}
