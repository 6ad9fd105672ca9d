use Rattle.std.proofs.Common.{◌≡◌, map, take}
use Rattle.entity_lists.specs.CsvRecords.{contents}
use Rattle.entity_lists.specs.ServerRows.{prop_under}
use Rattle.entity_lists.proofs.server_rows.Header.props.Given as goal

abbrev pub invariant-loop-column : goal.invariant-loop-column
invariant-loop-column l = l.props.items ≡ map (λ p. prop_under (contents l.self.names.now) (contents l.fields) p.name) (take l.column-index l.self.props.items)
