use Rattle.std.proofs.Common.{◌≡◌, ◌≤◌, All, Some, map, take, filter, length}
use Rattle.entity_lists.specs.CsvRecords.{contents}
use Rattle.entity_lists.specs.ServerRows.{column_place, first_of_each, is_property, property_limit}
use Rattle.entity_lists.proofs.server_rows.prop_columns.Given as goal

abbrev pub invariant-loop-place : goal.invariant-loop-place
invariant-loop-place l = record {
  names : map (λ p. p.name) l.columns.items ≡ filter is_property (first_of_each (take l.place (contents l.header)));
  few : length l.columns.items ≤ property_limit;
  places : All (λ p. column_place (contents l.header) p.name ≡ Some p.place) l.columns.items;
}
