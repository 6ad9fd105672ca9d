use Rattle.std.proofs.Common.{◌≡◌, take}
use Rattle.csv.specs.Records.{fields_of}
use Rattle.entity_lists.specs.CsvRecords.{contents}
use Rattle.entity_lists.proofs.csv_records.fields_in.Given as goal

abbrev pub invariant-loop-place : goal.invariant-loop-place
invariant-loop-place l = contents l.fields.items ≡ take l.place (fields_of l.row)
